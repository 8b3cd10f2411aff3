pub mod Equal
pub mod Images
pub mod Laws
pub mod Runs
pub mod Worlds
