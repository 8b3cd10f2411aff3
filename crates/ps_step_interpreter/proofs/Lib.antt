pub mod Reached
pub mod Made
pub mod Unmade
pub mod Undefining
pub mod Turning
pub mod Beginning
pub mod Laws
pub mod Running
pub mod Owning
mod AloneExamples
