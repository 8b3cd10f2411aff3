pub mod Answers
pub mod Commands
pub mod Sessions
pub mod Words
