-- None before this one passes, so the first from here is the first from the beginning.
use Rattle.std.proofs.Common.{◌≡◌, ◌≤◌, ◌-◌}
use Rattle.image_layout.specs.Places.{buckets}
use Rattle.rest_op.specs.Steps.{is_cleared, clear_from}
use Rattle.rounds.specs.Seeking.{seek}
use Rattle.rest_op.proofs.op.RestOp.clear_from.Given as goal

abbrev pub invariant-loop-bucket : goal.invariant-loop-bucket
invariant-loop-bucket l = record {
  near : l.bucket ≤ buckets;
  rest : seek (is_cleared l.self) (buckets - l.bucket) l.bucket ≡ clear_from l.self l.from;
}
