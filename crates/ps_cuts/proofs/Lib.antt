pub mod Alike
pub mod Batches
mod Examples
pub mod Marking
pub mod Orders
pub mod Standing
pub mod Whose
