pub mod Ready
pub mod Known
