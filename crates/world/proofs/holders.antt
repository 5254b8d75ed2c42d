-- What the holder of a guarded segment may do.
pub mod filling
pub mod publishing
pub mod directing
pub mod mending
pub mod repairing
