-- What is remembered of the attempt, and the cause of each outcome.
pub mod Recalling
pub mod ByCause
