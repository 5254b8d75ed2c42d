-- What readers noted, at each kind of step of a caller.
pub mod Rising
pub mod FreeLocks
pub mod Readers
pub mod Notes
