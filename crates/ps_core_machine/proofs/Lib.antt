pub mod Ends
pub mod ListLemmas
