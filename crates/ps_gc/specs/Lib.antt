pub mod Ending
pub mod Events
pub mod Flipping
pub mod Keeps
pub mod Known
