-- A get as a part of a call.
pub mod Beginning
pub mod Remembering
pub mod Deciding
pub mod GetIsPart
