-- Each event of a run keeps what holds of its states.
pub mod Waits
pub mod Told
pub mod Turned
pub mod Opened
pub mod Closes
pub mod Deeds
pub mod Newest
pub mod Locks
