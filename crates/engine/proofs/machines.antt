-- The machines of a call as one part, and what follows for an engine.
pub mod Passing
pub mod Finishing
pub mod Ops
pub mod Deciding
pub mod Begins
pub mod Ends
pub mod Anew
pub mod Engines
pub mod Pairs
pub mod Notes
