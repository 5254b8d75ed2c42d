pub mod steps
pub mod Places
pub mod Opening
pub mod Fitting
pub mod Keeping
pub mod Sounding
pub mod causing
pub mod parts
