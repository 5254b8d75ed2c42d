pub mod Sizes
pub mod Scripts
pub mod Counting
pub mod Headlines
pub mod Complete
pub mod Causes
pub mod Chain
pub mod Ran
