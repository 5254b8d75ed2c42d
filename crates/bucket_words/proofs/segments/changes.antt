-- What a store to one word of a bucket changes.
pub mod OneSlot
pub mod NoSlot
pub mod OneRecord
pub mod Vacated
pub mod Foreign
pub mod Prepared
