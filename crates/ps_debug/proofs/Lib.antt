pub mod Bounding
mod CommandExamples
pub mod Obeying
mod SessionExamples
mod SoughtExamples
