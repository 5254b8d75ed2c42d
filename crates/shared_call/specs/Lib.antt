pub mod Laws
pub mod Suited
pub mod Headway
pub mod Turns
pub mod Attempts
pub mod Gated
pub mod Tries
pub mod Engines
