-- Each step may be taken.
pub mod Permitting
pub mod Publishing
pub mod Drawn
pub mod Noted
pub mod Freeing
pub mod Unnoting
