-- What who splits a segment has to know for the directory, and for the rest of the split.
pub mod Known
pub mod Directory
pub mod Settled
pub mod Directing
pub mod Clearing
pub mod Ending
pub mod Finishing
