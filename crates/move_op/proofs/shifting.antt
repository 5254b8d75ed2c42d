-- What the stores of a shift make of the words of the buckets.
pub mod Marks
pub mod Beside
pub mod Stored
pub mod Nowhere
pub mod Deciding
pub mod Staying
