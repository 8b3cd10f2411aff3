mod Examples
pub mod Appended
pub mod Below
pub mod Covering
pub mod Edges
pub mod Sizes
pub mod Stretching
pub mod Tables
pub mod Units
