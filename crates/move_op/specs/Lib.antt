pub mod Shifts
pub mod Steps
pub mod Left
pub mod Fits
pub mod MovePart
pub mod Order
pub mod Replies
