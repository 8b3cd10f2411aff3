pub mod Ends
pub mod Entries
pub mod Turns
pub mod WorldOperators
