-- The end rule, turn by turn and round after round.
pub mod Stepping
pub mod Turning
pub mod Standing
pub mod Resting
pub mod Ending
pub mod Lone
