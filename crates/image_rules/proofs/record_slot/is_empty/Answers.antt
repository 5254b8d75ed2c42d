-- Each of its slots is free.
use Rattle.std.proofs.Common.{◌≡◌, ℕ, ◌+◌, sym, subst, arith, slice_index}
use Rattle.bucket_meta.specs.Bucket.{allocated}
use Rattle.image_rules.proofs.record_slot.is_empty.Goals as goal

pub returns : goal.returns
returns c is r slot taken =
    let there = subst (λ (at : ℕ). allocated r (slice_index c.args.words.now (at + 1)) ≡ 1) (sym c.bucket_word.ensures.is) taken in
    absurd (omega (arith, there, c.is_empty.ensures.0 is r slot))
