-- Each event leaves a view that suits the next step.
pub mod Areas
pub mod Going
pub mod Entering
pub mod Counting
pub mod Storing
pub mod Drawing
pub mod Stepping
pub mod Repaying
pub mod Walking
