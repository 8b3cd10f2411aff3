pub mod Keying
pub mod Looking
pub mod Formed
pub mod Knowing
