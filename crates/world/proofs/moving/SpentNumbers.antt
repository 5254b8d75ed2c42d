-- Callers keep what is said of spent numbers.
use Rattle.std.proofs.Common.{List}
use Rattle.trace.specs.Events.{Words}
use Rattle.frame_facts.specs.Facts.{Lives}
use Rattle.world.specs.Ground.{Ground}
use Rattle.world.specs.Views.{View}
use Rattle.world.specs.Invariant.{Holds}
use Rattle.world.specs.areas.SpentNumbers.{SpendingParts, CallersKeepSpending}
use Rattle.world.proofs.invariant.KeepSpending.{keep_spending}
use Rattle.world.proofs.moving.Known.{known_is_so}

-- what it rests on stands
abbrev pub spending_stands : (site : Ground) (words : Words) (views : List View) → Holds site words views → SpendingParts site words views
spending_stands site words views h = record {
  log = h.log;
  living = λ j v s at has. (known_is_so.newest site words views j v h at).says (Lives s) has;
  locks = h.locks;
  history = h.history;
  spending = h.spending;
}

pub callers_keep_spending : CallersKeepSpending
callers_keep_spending site kind words views j v h at may = keep_spending site words views j v (spending_stands site words views h) at kind may
