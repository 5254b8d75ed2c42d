pub mod Finding
pub mod Words
pub mod Lines
pub mod Progress
pub mod Complete
pub mod SoFar
pub mod Ordered
