-- Bits of a metadata word, one beside the other.
pub mod FieldBits
pub mod ZeroBits
pub mod Uppers
pub mod Each
pub mod OneToOne
pub mod Filled
