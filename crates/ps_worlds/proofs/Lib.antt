mod Examples
pub mod Following
pub mod Listing
pub mod Naming
pub mod Ways
