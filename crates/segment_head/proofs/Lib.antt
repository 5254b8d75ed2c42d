pub mod Headers
pub mod Tops
