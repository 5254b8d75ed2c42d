-- What `engine` says of an attempt, and who makes calls also names: passed on.
pub use Rattle.engine.specs.declared.engine.Engine.{Engine}
pub use Rattle.engine.specs.Engine.{begun, repairing, wanted}
pub use Rattle.engine.specs.Fits.{HasNumber, IsWordCall}
pub use Rattle.engine.specs.Left.{most_of_attempt}
pub use Rattle.engine.specs.OpPart.{Work, calls, work_of}
