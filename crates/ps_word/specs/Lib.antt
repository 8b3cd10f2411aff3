pub mod Format
pub mod Headers
pub mod Readers
