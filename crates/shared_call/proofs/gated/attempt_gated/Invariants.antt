use Rattle.engine.specs.Left.{left}
use Rattle.vlock.specs.Ruling.{ground_of}
use Rattle.vlock.specs.Plays.{IsSeatOf}
use Rattle.shared_call.specs.Gated.{IsLetting}
use Rattle.shared_call.proofs.gated.attempt_gated.Given as goal

abbrev pub invariant-loop-headway : goal.invariant-loop-headway
invariant-loop-headway g l = record {
  table : IsSeatOf l.image.table_id l.image.key l.seat;
  letting : IsLetting (ground_of l.image.key) l.fn.site l.fn.call l.fn.seat.me.0 (g.G.Gate.left l.fn.gate) l.engine l.seat.me.0 (g.G.Gate.left l.gate) (g.G.Gate.cuts l.gate);
}

abbrev pub decreases-loop-headway : goal.decreases-loop-headway
decreases-loop-headway g l = left l.engine
