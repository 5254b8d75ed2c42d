pub mod Falling
pub mod Onward
pub mod ByCause
