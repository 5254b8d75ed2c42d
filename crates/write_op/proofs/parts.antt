-- A change as a part of a call.
pub mod Fitting
pub mod Wording
pub mod Putting
pub mod Parting
pub mod Unmade
pub mod Parted
