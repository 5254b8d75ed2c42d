pub mod Bits
pub mod Pieces
pub mod Homes
pub mod Visits
pub mod Buckets
