-- What is said of one frame: regions, entries, what can be told, the rules, and the owner.
pub mod Regions
pub mod SideEntries
pub mod Deciding
pub mod SoundFrames
pub mod Rules
pub mod Owner
