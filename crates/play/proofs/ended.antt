-- What a play has left, and what it prints, is what its run says.
pub mod Media
pub mod Whole
pub mod Few
pub mod Begun
pub mod ToldsOfRun
