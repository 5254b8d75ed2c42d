pub mod Events
pub mod Pictures
pub mod Reopened
pub mod Marking
