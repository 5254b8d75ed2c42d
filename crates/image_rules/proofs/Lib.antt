pub mod Answered
pub mod Within
pub mod covered
pub mod stashed
pub mod standing
pub mod Breaches
