pub mod Replaced
pub mod Listed
pub mod Moments
pub mod Flushes
pub mod Fenced
pub mod Media
pub mod SettledValues
pub mod WorkedTraces
