pub mod Changes
pub mod HeaderPlaces
pub mod Packing
pub mod Places
pub mod Reading
