use Rattle.engine.specs.Engine.{begun}
use Rattle.engine.specs.Left.{left}
use Rattle.engine.specs.OpPart.{calls}
use Rattle.vlock.specs.Ruling.{ground_of}
use Rattle.vlock.specs.Plays.{IsSeatOf}
use Rattle.shared_call.specs.Attempts.{IsGoing}
use Rattle.shared_call.proofs.attempts.attempt.Given as goal

abbrev pub invariant-loop-headway : goal.invariant-loop-headway
invariant-loop-headway l = record {
  table : IsSeatOf l.image.table_id l.image.key l.seat;
  going : IsGoing (ground_of l.image.key) l.fn.site l.fn.call calls (begun l.fn.site l.fn.call) l.fn.seat.me.0 l.engine l.seat.me.0;
}

abbrev pub decreases-loop-headway : goal.decreases-loop-headway
decreases-loop-headway l = left l.engine
