-- A close, event by event, and what a cut in it may leave.
pub mod CloseAlong
pub mod CloseLines
pub mod CloseEnding
pub mod ClosePhases
pub mod CloseKeeping
