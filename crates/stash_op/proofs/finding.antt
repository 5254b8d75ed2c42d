-- What is known of the buckets that are held, and where the key does not stand.
pub mod Fewer
pub mod Standing
pub mod Chosen
