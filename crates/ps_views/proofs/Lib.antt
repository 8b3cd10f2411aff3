mod Examples
mod OrderExamples
mod StateExamples
mod WorldExamples
pub mod Appended
pub mod Callers
pub mod Windows
