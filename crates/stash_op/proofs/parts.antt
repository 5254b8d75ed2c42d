-- A record that comes to the stash, as a part of a call.
pub mod Wording
pub mod Putting
pub mod Parting
pub mod Parted
