pub mod Plain
pub mod Kept
pub mod Does
pub mod Marks
pub mod Truths
pub mod Changes
pub mod FirstNames
