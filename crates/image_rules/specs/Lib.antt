pub mod Divided
pub mod Leaves
pub mod Steps
pub mod Slots
pub mod Own
pub mod Noted
pub mod Repairs
pub mod Breach
