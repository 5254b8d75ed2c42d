-- What holds of the core between any two turns.
pub mod Planned
pub mod Told
pub mod Scripted
pub mod Fulls
pub mod Turning
pub mod Served
pub mod Beginnings
pub mod Opening
pub mod Quiet
pub mod Leaving
pub mod Seeing
pub mod Repaired
