-- Whatever a cut may leave, and the events of the device.
pub mod Linked
pub mod MediaKept
pub mod Said
pub mod Settled
pub mod Taken
pub mod Tying
pub mod Whole
