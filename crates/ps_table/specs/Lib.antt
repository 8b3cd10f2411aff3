pub mod Events
pub mod Mirrored
pub mod Plain
pub mod Shown
