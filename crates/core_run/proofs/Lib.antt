mod ends
mod turns
mod events
mod Opening
mod Leaving
mod OneSession
mod Chain
mod Goods
mod Follows
mod Acts
mod WorkedRun
pub use Rattle.engine.proofs.sessions.Causing
pub use Rattle.engine.proofs.sessions.CutSession
