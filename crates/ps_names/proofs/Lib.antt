pub mod Places
pub mod FirstNames
