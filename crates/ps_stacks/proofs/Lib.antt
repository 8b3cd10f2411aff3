pub mod Carried
pub mod Reversed
