-- A run state does its events, one after another, line by line.
pub mod Devices
pub mod Listed
pub mod RunStateParts
pub mod Doing
pub mod Drives
pub mod Rounds
pub mod Answering
