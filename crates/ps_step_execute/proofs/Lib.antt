pub mod Alone
pub mod Entering
pub mod Executing
pub mod Few
pub mod Pushing
pub mod Unframed
