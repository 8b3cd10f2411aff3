pub mod Alone
pub mod Exits
pub mod Few
pub mod Frugal
pub mod Joins
pub mod Operators
pub mod Turns
