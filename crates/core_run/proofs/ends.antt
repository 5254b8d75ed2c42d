-- Whatever is done keeps a state of the run, each caller that goes on stops, and the close ends.
pub mod Choices
pub mod Calls
pub mod Staying
pub mod Working
pub mod Stopping
pub mod Phases
pub mod Driving
pub mod Measures
pub mod Keeping
pub mod Closes
pub mod Ended
pub mod Lines
