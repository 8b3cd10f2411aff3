pub mod Notes
pub mod Growth
pub mod Calls
pub mod Held
pub mod Needs
pub mod Steps
pub mod Finishes
pub mod Lending
