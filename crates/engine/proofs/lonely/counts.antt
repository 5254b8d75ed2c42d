-- How many slots are free and how many segments are stale, from one event to the next.
pub mod Storing
pub mod Slots
pub mod Stale
