pub mod Asks
pub mod Literals
pub mod Places
pub mod Puts
pub mod Removals
