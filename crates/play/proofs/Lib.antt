mod driven
pub mod Mapped
mod ended
pub mod Beginning
pub mod Printed
pub use Rattle.core_run.proofs.Causing
pub use Rattle.core_run.proofs.CutSession
