-- One slot after another.
use Rattle.std.proofs.Common.{◌≡◌, ℕ, ◌+◌, ◌-◌, refl, sym, ap, ◌∙◌, arith}
use Rattle.std.proofs.lemmas.Bool.{eqb-true, eqb-false}
use Rattle.bucket_meta.specs.Bucket.{allocated}
use Rattle.bucket_meta.specs.Marks.{with_finger}
use Rattle.split_op.specs.Sides.{without_free}
use Rattle.split_op.proofs.sides.Thinning.{with_taken, with_free}
use Rattle.split_op.proofs.copy.high_fingers.Goals as goal
use Rattle.split_op.proofs.copy.high_fingers.Goals.{then-not-is_taken, else-not-is_taken}

pub loop-slot-init : goal.loop-slot-init
unfolding without_free
loop-slot-init c = refl

pub loop-slot-preserved : goal.loop-slot-preserved
loop-slot-preserved c =
    let mark = c.args.mark in
    let word = c.args.word in
    let k = c.loop-slot.slot in
    let from = c.loop-slot.auto.slot in
    let here : 8 + (k - 8) ≡ k = omega (arith, from) in
    let next : k - 8 + 1 ≡ k + 1 - 8 = omega (arith, from) in
    elim c.if-not-is_taken.branch [
      | then-not-is_taken w ↦ w.thin-is ∙ w.with_finger-thin.ensures ∙ ap (λ n. with_finger n k 0) c.loop-slot.invariant
          ∙ sym (ap (without_free mark word 8) (sym next)
          ∙ with_free mark word 8 (k - 8) (λ t. (let free = w.if-not-is_taken.true in eqb-false (allocated k mark) 1 (sym c.is_taken.ensures ∙ free) (ap (λ (z : ℕ). allocated z mark) (sym here) ∙ t)))
          ∙ ap (λ (z : ℕ). with_finger (without_free mark word 8 (k - 8)) z 0) here)
      | else-not-is_taken w ↦ w.thin-is ∙ c.loop-slot.invariant
          ∙ sym (ap (without_free mark word 8) (sym next)
          ∙ with_taken mark word 8 (k - 8) (ap (λ (z : ℕ). allocated z mark) here ∙ eqb-true (allocated k mark) 1 (sym c.is_taken.ensures ∙ w.if-not-is_taken.false)))
    ]

pub returns : goal.returns
returns c = c.loop-slot.invariant ∙ ap (without_free c.args.mark c.args.word 8) (let past = c.loop-slot-test.false in let most = c.loop-slot.auto.slot-end in omega (arith, past, most))
