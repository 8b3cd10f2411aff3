pub mod Cuts
pub mod Drawings
pub mod Errors
pub mod Finds
pub mod Places
pub mod StepLines
pub mod Timelines
pub mod Walks
