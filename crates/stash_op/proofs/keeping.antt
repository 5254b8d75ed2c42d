-- Each event leaves a view that suits the next step, with the reply entered that is decided.
pub mod Areas
pub mod Going
pub mod Storing
pub mod Noting
pub mod Stepping
pub mod Walking
