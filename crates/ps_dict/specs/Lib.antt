pub mod Bodies
pub mod Entries
pub mod Keys
pub mod Merges
pub mod Places
pub mod Probes
pub mod Puts
pub mod Removals
