-- Steps of a caller's calls, by a view that has no areas, and what the view knows there.
pub mod Calls
pub mod Spares
