pub mod Lends
pub mod Tops
