pub mod Ahead
pub mod Frames
pub mod Controls
pub mod Turns
