-- What a step and its answer say, what it leaves as it was, and what a caller may do.
pub mod Answers
pub mod Steps
pub mod Readers
pub mod Reseated
pub mod Pairs
pub mod SpentLocks
pub mod Slots
pub mod Taken
pub mod Rests
pub mod Later
pub mod Noting
pub mod Telling
