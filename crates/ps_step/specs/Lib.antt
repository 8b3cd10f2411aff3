pub mod Elements
pub mod Texts
pub mod Steps
pub mod Few
pub mod Reading
pub mod Windows
