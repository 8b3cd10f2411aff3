pub mod Covering
pub mod Paths
pub mod Telling
pub mod Worlds
