pub mod Over
pub mod Falling
pub mod finding
pub mod keeping
pub mod permitting
pub mod parts
pub mod causing
pub mod Ends
