-- What `engine` says of a caller and of an attempt of its call, and a driver of a run also names: passed on.
pub use Rattle.engine.specs.Core.{Caller, Core, answered, current, drawn_by, ended, ended_or_on, engine_for, entry_of, open_of, told_of, tolds_of}
pub use Rattle.engine.specs.Engine.{anew, begun, end_of, reply_of_end, taken, wanted}
pub use Rattle.engine.specs.declared.engine.End.{End}
pub use Rattle.engine.specs.declared.engine.Engine.{Engine}
pub use Rattle.engine.specs.OpPart.{op_part}
pub use Rattle.engine.specs.Driven.{tries_in_vain, waits_after}
pub use Rattle.engine.specs.Laws.{IsServedImage}
pub use Rattle.engine.specs.Holding.{all_own}
pub use Rattle.engine.specs.Fits.{IsWordCall}
