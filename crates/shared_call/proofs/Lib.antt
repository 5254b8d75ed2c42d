pub mod Headways
pub mod Deciding
pub mod Turned
pub mod Anew
pub mod Attempted
pub mod Gating
pub mod Tried
pub mod FoundOff
