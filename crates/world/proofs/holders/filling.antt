-- The stores to slots of one's own and to links, the first two headers of a split, and what locks tell of records.
pub mod Known
pub mod Filling
pub mod Beginning
pub mod Ordered
