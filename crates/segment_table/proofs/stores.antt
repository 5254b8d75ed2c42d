-- The stores, over any two frames.
pub mod Moved
pub mod Alike
pub mod SameRegion
pub mod Slots
pub mod Roots
pub mod GoesLive
pub mod EndsSplit
pub mod Entries
