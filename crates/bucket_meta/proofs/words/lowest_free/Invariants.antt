-- The search from the slot that is looked at gives what the whole search gives.
use Rattle.std.proofs.Common.{◌≡◌, ◌-◌}
use Rattle.std.specs.Prelude.{not}
use Rattle.bucket_meta.specs.Search.{lowest_among, is_taken, lowest_free}
use Rattle.bucket_meta.proofs.words.lowest_free.Given as goal

abbrev pub invariant-loop-slot : goal.invariant-loop-slot
invariant-loop-slot l = lowest_free l.w1 ≡ lowest_among (λ slot. not (is_taken l.w1 slot)) l.slot (14 - l.slot)
