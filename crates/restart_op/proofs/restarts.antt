-- A restart, event by event, and what a cut in it may leave.
pub mod Along
pub mod Counting
pub mod Phases
pub mod Versions
pub mod Cuts
pub mod Beginning
pub mod Asking
