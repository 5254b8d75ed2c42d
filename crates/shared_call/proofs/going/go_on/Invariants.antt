use Rattle.vlock.specs.Ruling.{ground_of}
use Rattle.vlock.specs.Plays.{IsSeatOf}
use Rattle.shared_call.specs.Headway.{HasHeadway}
use Rattle.shared_call.proofs.Gating.{IsOn}
use Rattle.shared_call.proofs.going.go_on.Given as goal

abbrev pub invariant-loop : goal.invariant-loop
invariant-loop g l = record {
  table : IsSeatOf l.image.table_id l.image.key l.seat;
  on : IsOn (ground_of l.image.key) l.fn.engine l.fn.seat.me.0 (g.G.Gate.left l.fn.gate) l.counter l.engine l.seat.me.0 (g.G.Gate.left l.gate) (g.G.Gate.cuts l.gate);
  headway : HasHeadway l.fn.seat.me.0 l.fn.headway l.seat.me.0 l.headway;
}
