pub mod machines
pub mod holding
pub mod Places
pub mod sessions
pub mod attempts
mod lonely
mod splits
