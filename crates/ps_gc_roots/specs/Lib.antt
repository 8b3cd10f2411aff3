pub mod Roots
pub mod Formats
pub mod Renamed
pub mod Moved
pub mod Tries
