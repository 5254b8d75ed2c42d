pub mod Causes
pub mod Gating
pub mod Memory
pub mod Storing
