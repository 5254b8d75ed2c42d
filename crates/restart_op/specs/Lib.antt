pub mod Course
pub mod AtRest
pub mod Restart
pub mod Budget
pub mod Restarted
pub mod Close
pub mod Closing
