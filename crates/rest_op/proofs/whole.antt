pub mod Places
pub mod Words
pub mod Halving
pub mod Reckoning
pub mod Known
