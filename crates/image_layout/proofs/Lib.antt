pub mod Areas
pub mod PartWords
