-- The overflow notes of a bucket over its words: one is taken away, or put on a note slot.
pub mod Freed
pub mod Noted
