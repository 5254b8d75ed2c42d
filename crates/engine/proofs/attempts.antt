-- What the attempts of each caller did, and so by what they end.
pub mod Stepping
pub mod Doing
pub mod Seats
pub mod Deciding
