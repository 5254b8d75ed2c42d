-- Each kind of step at the structure keeps locks, guards, pinned headers, areas and owners.
pub mod LocksKept
pub mod Fitting
pub mod Keepers
pub mod HeldGuards
