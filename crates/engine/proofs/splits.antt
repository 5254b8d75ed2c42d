-- How short a split is.
pub mod Images
pub mod Falling
