pub mod Binds
pub mod Steps
