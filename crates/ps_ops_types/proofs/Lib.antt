pub mod Accesses
pub mod Attributed
pub mod Reduced
pub mod Typed
pub mod First
