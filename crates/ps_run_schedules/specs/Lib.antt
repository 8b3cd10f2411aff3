pub mod Fronts
pub mod Keeping
pub mod Packing
pub mod Texts
pub mod Turns
