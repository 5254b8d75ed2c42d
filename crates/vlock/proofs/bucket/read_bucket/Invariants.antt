use Rattle.std.proofs.Common.{◌≡◌}
use Rattle.vlock.specs.Ruling.{ground_of}
use Rattle.vlock.specs.Plays.{IsSeatOf}
use Rattle.vlock.specs.Buckets.{IsReading, with_loads}
use Rattle.vlock.proofs.bucket.read_bucket.Given as goal

abbrev pub invariant-loop-i : goal.invariant-loop-i
invariant-loop-i l = record {
  table : IsSeatOf l.image.table_id l.image.key l.seat;
  past : l.seat.me.0.past ≡ l.fn.seat.me.0.past;
  took : l.seat.me.0.took ≡ with_loads l.lock l.words l.i l.fn.seat.me.0.took;
  reading : IsReading (ground_of l.image.key) l.fn.seat.me.0.view l.lock l.before l.words l.i l.seat.me.0.view;
}
