pub mod Steps
pub mod Reckoned
pub mod Stands
pub mod RestPart
