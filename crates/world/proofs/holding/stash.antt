-- Stores by which a record comes to the stash, or leaves it.
pub mod Stashing
pub mod Unstashing
