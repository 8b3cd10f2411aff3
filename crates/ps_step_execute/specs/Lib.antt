pub mod Values
pub mod Frugal
pub mod Quick
