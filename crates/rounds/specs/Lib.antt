pub mod Seeking
pub mod Steps
pub mod Events
pub mod Runs
pub mod Stands
pub mod Left
pub mod Waiting
pub mod Laws
