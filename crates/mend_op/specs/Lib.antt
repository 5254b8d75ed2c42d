pub mod Words
pub mod Stages
pub mod Steps
pub mod Stands
pub mod MendPart
