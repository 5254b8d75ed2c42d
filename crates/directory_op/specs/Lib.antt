pub mod Places
pub mod Steps
pub mod Left
pub mod Fits
pub mod DirectoryPart
