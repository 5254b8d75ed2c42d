pub mod Thens
pub mod Splitting
pub mod Repairing
pub mod Eithers
pub mod Renaming
pub mod Turning
pub mod Leading
pub mod Still
pub mod Asking
mod Counting
