pub mod Guarded
pub mod Steps
pub mod Stands
pub mod Remembers
pub mod RepairPart
pub mod Finishing
