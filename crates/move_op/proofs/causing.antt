-- What a displacement remembers of its attempt, and the cause of each of its outcomes.
pub mod Recalling
pub mod ByCause
