-- What `phase` says of a view and of its locks, and a machine above also names: passed on.
pub use Rattle.phase.specs.Giving.{IsLocated, IsQuiet}
pub use Rattle.phase.specs.Stands.{IsThere}
