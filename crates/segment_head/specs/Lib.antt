pub mod HeadWord
pub mod Head
pub mod Sides
pub mod Prefixes
pub mod SplitHeads
pub mod Written
pub mod Versions
