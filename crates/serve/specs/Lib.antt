pub mod Served
pub mod AtCut
pub mod Jobs
pub use Rattle.play.specs.Played
pub use Rattle.play.specs.Runs
