pub mod Left
pub mod Examples
