pub mod Words
pub mod Starts
