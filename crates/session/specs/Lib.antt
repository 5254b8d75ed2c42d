pub mod Transcript
pub mod Callers
pub mod Left
pub mod Session
