pub mod Naming
pub mod Standing
pub mod There
pub mod Valued
