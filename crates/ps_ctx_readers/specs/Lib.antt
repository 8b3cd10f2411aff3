pub mod Errors
pub mod Frames
pub mod Names
pub mod Values
