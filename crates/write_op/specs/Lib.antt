pub mod Search
pub mod Steps
pub mod Fits
pub mod Left
pub mod ChangePart
pub mod Causes
pub mod AnyMemory
