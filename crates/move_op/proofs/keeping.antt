-- Each event leaves a view that suits the next step.
pub mod Areas
pub mod Going
pub mod Entering
pub mod Storing
pub mod Stepping
