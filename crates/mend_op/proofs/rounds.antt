pub mod Beginning
pub mod Rounding
