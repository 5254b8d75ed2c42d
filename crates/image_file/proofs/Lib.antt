pub mod FileWords
pub mod Fronts
pub mod RoundTrip
pub mod EmptySound
pub mod Listed
pub mod Accepted
