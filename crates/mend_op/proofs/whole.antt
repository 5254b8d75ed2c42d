pub mod Words
pub mod Known
pub mod Newest
pub mod Located
