-- So many callers wait, each with its calls.
use Rattle.play.specs.Callers.{AreWaiting}
use Rattle.play.specs.Played.{scripts_to}
use Rattle.play.proofs.starting.waiting_callers.Given as goal

abbrev pub invariant-loop-before : goal.invariant-loop-before
invariant-loop-before l = AreWaiting l.geometry 1 (scripts_to l.before l.lines) l.callers.items
