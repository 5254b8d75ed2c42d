-- A restart begins the invariant.
pub mod Begun
pub mod Restarting
