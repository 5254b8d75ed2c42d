-- Sets of slots, and metadata words with such a set alone or without it.
pub mod Fields
pub mod Sets
pub mod Marking
pub mod MarkHalves
pub mod Uncovering
pub mod Sides
pub mod Positions
pub mod Mended
