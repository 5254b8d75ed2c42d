-- What an attempt loads, and the cause of what it is told.
pub mod Asked
pub mod Asking
pub mod Events
pub mod Causing
pub mod Needing
