-- What who repairs a stale segment has to know: to take its split back, and to direct the entries of its ready side.
pub mod Freeing
pub mod Unmarking
pub mod TakingBack
pub mod SideEntries
pub mod Ready
pub mod Entering
pub mod Settled
pub mod Redirecting
