mod Examples
mod StepExamples
mod MomentExamples
pub mod Beside
pub mod Calling
pub mod Each
pub mod Lines
pub mod Members
pub mod Named
pub mod Own
pub mod Pointing
pub mod Words
