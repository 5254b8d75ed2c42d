-- Why an enclosing ends as it does: what a whole segment was found to be, what is remembered of the attempt, and the cause of each outcome.
pub mod Causing
pub mod Found
pub mod Recalling
pub mod ByCause
pub mod Saying
