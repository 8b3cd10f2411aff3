pub mod Ahead
mod Frugal
pub mod Leaving
pub mod Listing
pub mod Reading
pub mod Scanning
pub mod Taking
pub mod WindowLaw
pub mod Behind
pub mod Rereading
