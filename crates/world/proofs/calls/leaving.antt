-- What a cut may leave after a step of a caller.
pub mod Stored
pub mod Drawn
pub mod Media
