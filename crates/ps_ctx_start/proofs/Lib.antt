pub mod Pushing
pub mod Meaning
pub mod Distinct
pub mod Standing
pub mod Starting
