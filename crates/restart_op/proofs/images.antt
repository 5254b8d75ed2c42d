-- What a restart finds in an image, and leaves of it.
pub mod Facts
pub mod Frames
pub mod Pairs
pub mod Rules
pub mod Same
