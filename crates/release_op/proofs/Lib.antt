pub mod ReleaseIsPart
pub mod Causing
pub mod Ends
pub mod NoRoom
pub mod Leaving
