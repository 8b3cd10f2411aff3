pub mod Numbers
pub mod Shown
pub mod Strings
pub mod Passed
