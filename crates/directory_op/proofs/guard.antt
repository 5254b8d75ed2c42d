pub mod Waiting
pub mod Guarding
pub mod Winning
