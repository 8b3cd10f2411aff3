pub mod ArrayRows
pub mod Copies
pub mod Searches
pub mod StringRows
pub mod Kinds
pub mod Pairs
pub mod Asks
