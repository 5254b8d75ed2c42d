-- What the loaded words say: where the key stands, where a slot is free.
pub mod Places
pub mod Searching
pub mod Rooms
pub mod Finding
pub mod Chosen
pub mod Roomiest
