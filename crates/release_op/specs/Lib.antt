pub mod Steps
pub mod ReleasePart
pub mod Ends
pub mod Split
