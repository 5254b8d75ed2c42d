pub mod Steps
pub mod Stands
pub mod Ends
pub mod Left
pub mod RedirectPart
