pub mod Search
pub mod Steps
pub mod Left
pub mod Fits
pub mod StashPart
pub mod Replies
