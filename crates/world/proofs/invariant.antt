-- Each kind of step keeps the invariant, part by part.
pub mod Stays
pub mod KeepLocks
pub mod KeepOwned
pub mod KeepMedia
pub mod KeepCopies
pub mod KeepOverflow
pub mod KeepPlans
pub mod KeepHistory
pub mod KeepRoom
pub mod KeepSpending
pub mod KeepPowered
