pub mod Events
pub mod Settling
pub mod Media
pub mod Progress
pub mod Steps
pub mod Listed
