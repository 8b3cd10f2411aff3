pub mod Graphs
pub mod Searches
