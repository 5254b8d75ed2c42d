-- Steps that are mild: what they change of buckets lies in no current segment but one that the stepper has whole.
pub mod Mild
pub mod Steps
pub mod Noted
pub mod Rest
pub mod Kept
pub mod Holding
pub mod Bridging
pub mod Callers
