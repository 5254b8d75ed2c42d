pub mod Power
pub mod Refused
pub mod Ruling
pub mod Plays
pub mod Seats
pub mod Ends
pub mod Buckets
pub mod Finding
