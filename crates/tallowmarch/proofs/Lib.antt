pub mod HandleValues
pub mod Starts
pub mod Values
