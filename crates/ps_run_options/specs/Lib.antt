pub mod CommandLine
pub mod Sizes
pub mod Sources
pub mod Views
