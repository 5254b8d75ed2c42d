-- Notes of home buckets, and records in the stash.
pub mod Counts
