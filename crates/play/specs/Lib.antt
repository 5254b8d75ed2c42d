pub mod Callers
pub mod RunStates
pub mod Played
pub mod Runs
pub mod Deeds
