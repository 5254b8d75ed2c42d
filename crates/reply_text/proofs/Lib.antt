pub mod Written
pub mod Callers
