pub mod Alone
pub mod Courses
pub mod Interprets
pub mod Makes
pub mod Needs
pub mod OwnSteps
pub mod Owns
pub mod Steps
