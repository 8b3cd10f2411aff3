pub mod Shown
pub mod Forms
pub mod Errors
pub mod Printed
