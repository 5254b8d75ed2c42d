pub mod Filters
pub mod Totals
