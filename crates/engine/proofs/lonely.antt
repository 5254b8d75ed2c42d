-- A caller that steps while all others stand between two attempts is told no Again, and its calls end; and one that is driven wherever all others stand
-- goes on, but where it waits for the guard of the directory.
pub mod Looking
pub mod Repairing
pub mod Guarding
pub mod Others
pub mod Lonely
pub mod counts
pub mod Due
pub mod Staying
pub mod Stages
pub mod Fewer
pub mod Trying
pub mod Going
