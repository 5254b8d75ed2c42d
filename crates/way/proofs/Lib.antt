pub mod Indexes
pub mod Leading
