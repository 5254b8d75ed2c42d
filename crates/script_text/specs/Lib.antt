pub mod Splits
pub mod Readings
pub mod Order
pub mod Script
pub mod Calls
pub mod Finding
pub mod Counting
