pub mod Counting
mod Examples
pub mod Heads
pub mod Beginnings
pub mod Once
pub mod Nones
pub mod Appended
pub mod WholeLines
pub mod Appends
pub mod Codes
pub mod Turning
pub mod Notes
