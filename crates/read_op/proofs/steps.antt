-- Each step of a get, and its end.
pub mod Asked
pub mod Falling
pub mod Stepping
pub mod LastTaken
pub mod Ending
