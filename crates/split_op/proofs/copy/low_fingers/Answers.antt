-- One slot after another.
use Rattle.std.proofs.Common.{◌≡◌, ℕ, ◌+◌, refl, sym, ap, ◌∙◌, arith}
use Rattle.std.proofs.lemmas.Bool.{eqb-true, eqb-false}
use Rattle.bucket_meta.specs.Bucket.{allocated}
use Rattle.bucket_meta.specs.Marks.{with_finger}
use Rattle.split_op.specs.Sides.{without_free}
use Rattle.split_op.proofs.sides.Thinning.{with_taken, with_free}
use Rattle.split_op.proofs.copy.low_fingers.Goals as goal
use Rattle.split_op.proofs.copy.low_fingers.Goals.{then-not-is_taken, else-not-is_taken}

pub loop-slot-init : goal.loop-slot-init
unfolding without_free
loop-slot-init c = refl

pub loop-slot-preserved : goal.loop-slot-preserved
loop-slot-preserved c =
    let mark = c.args.mark in
    let k = c.loop-slot.slot in
    let first : 0 + k ≡ k = omega arith in
    elim c.if-not-is_taken.branch [
      | then-not-is_taken w ↦ w.thin-is ∙ w.with_finger-thin.ensures ∙ ap (λ n. with_finger n k 0) c.loop-slot.invariant
          ∙ sym (with_free mark c.args.word 0 k (λ t. (let free = w.if-not-is_taken.true in eqb-false (allocated k mark) 1 (sym c.is_taken.ensures ∙ free) (ap (λ (z : ℕ). allocated z mark) (sym first) ∙ t)))
          ∙ ap (λ (z : ℕ). with_finger (without_free mark c.args.word 0 k) z 0) first)
      | else-not-is_taken w ↦ w.thin-is ∙ c.loop-slot.invariant
          ∙ sym (with_taken mark c.args.word 0 k (ap (λ (z : ℕ). allocated z mark) first ∙ eqb-true (allocated k mark) 1 (sym c.is_taken.ensures ∙ w.if-not-is_taken.false)))
    ]
