-- What the holder of a stale segment has to know to mend it, and to give it the image's version.
pub mod Stale
pub mod Unlocking
pub mod Spoiled
pub mod Renewing
pub mod Mending
