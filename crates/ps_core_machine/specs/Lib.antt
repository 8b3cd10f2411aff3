pub mod Bounds
pub mod Conditions
pub mod Objects
pub mod Steps
