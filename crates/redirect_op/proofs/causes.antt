-- Why it ends as it does, and that where it is told busy the segment is old still.
pub mod ByCause
pub mod Old
