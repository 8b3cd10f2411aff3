pub mod Fakes
pub mod Plays
