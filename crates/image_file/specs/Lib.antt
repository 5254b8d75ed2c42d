pub mod Formatted
pub mod Fault
pub mod Front
pub mod Pairs
