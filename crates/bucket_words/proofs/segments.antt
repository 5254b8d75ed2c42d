-- Tables of any number of segments: what a key has there, and what a store does to that.
pub mod Places
pub mod Finding
pub mod changes
pub mod Cores
pub mod Rules
pub mod Deciding
pub mod WorkedTables
pub mod Noted
pub mod Stashed
