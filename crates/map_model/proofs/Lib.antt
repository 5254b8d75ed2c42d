pub mod Elements
pub mod Rows
pub mod Places
pub mod OneMore
pub mod Histories
pub mod OneCaller
pub mod KeptViews
pub mod PlainMaps
pub mod PutApart
mod OnePut
pub mod Checks
