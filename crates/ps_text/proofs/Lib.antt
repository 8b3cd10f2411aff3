pub mod Cuts
pub mod Rests
pub mod Runs
pub mod Shown
mod Parts
