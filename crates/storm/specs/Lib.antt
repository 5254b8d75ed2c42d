pub mod Stream
pub mod Scripts
pub mod Storm
