pub mod Passing
pub mod Flushing
pub mod Staying
pub mod Rounding
pub mod Storing
pub mod Fencing
