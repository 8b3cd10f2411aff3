pub mod Asked
pub mod Driving
pub mod Lines
pub mod Orders
pub mod Parts
pub mod Telling
pub mod Worlds
