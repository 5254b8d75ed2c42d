use Rattle.std.proofs.Common.{◌≡◌, ℕ, ◌≤◌, List, length, slice_index}
use Rattle.image_file.specs.Pairs.{ArePairsBelow}
use Rattle.image_file.proofs.summary.count_pairs.Given as goal

abbrev pub invariant-loop-n : goal.invariant-loop-n
invariant-loop-n l =
    record {
      counted : (pairs : List (ℕ × ℕ)) × ArePairsBelow l.geometry (slice_index l.words) l.n pairs × (l.count ≡ length pairs);
      few : l.count ≤ l.n;
    }
