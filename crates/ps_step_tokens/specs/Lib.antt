pub mod Fitting
pub mod Made
pub mod Missing
pub mod Names
pub mod Procedures
pub mod Short
pub mod Tokens
pub mod Words
