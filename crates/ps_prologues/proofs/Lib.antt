mod Examples
pub mod Read
