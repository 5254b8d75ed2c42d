use Rattle.std.proofs.Common.{◌≡◌, ◌*◌, ◌≤◌, slice_index}
use Rattle.picture.specs.Counts.{stashed_below}
use Rattle.picture.proofs.counts.all_stashed.Given as goal

abbrev pub invariant-loop-b : goal.invariant-loop-b
invariant-loop-b l =
    record { counted : l.count ≡ stashed_below l.b l.geometry (slice_index l.words) l.s; few : l.count ≤ 36 * l.b }
