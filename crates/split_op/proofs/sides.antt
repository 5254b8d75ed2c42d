-- The words of a side: which are made, and which are copied; and the slot that becomes one.
pub mod Seeking
pub mod Listing
pub mod Thinning
pub mod Siding
pub mod Copying
pub mod Loading
pub mod Made
pub mod NewSlots
