mod Examples
pub mod Entries
pub mod Rooms
