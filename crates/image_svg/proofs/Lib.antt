pub mod Tops
pub mod Pictures
