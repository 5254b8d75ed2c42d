-- The locks that are held are those of the buckets that are asked for, before one; with that one, and where it is not asked for.
use Rattle.std.proofs.Common.{◌≡◌, ℕ, ◌+◌, Bool, true, false, None, Some, inl, inr, refl, sym, ap, ◌∙◌, subst, arith}
use Rattle.std.proofs.lemmas.Option.{none-some}
use Rattle.phase.specs.declared.role.Role.{Role}
use Rattle.phase.specs.Asked.{index}
use Rattle.phase.specs.Helds.{with_held, free_of}
use Rattle.phase.specs.Giving.{IsHeld}
use Rattle.phase.proofs.asking.Asked.{never, cases_place, few, upto_more, upto_less, upto_up}
use Rattle.phase.proofs.locks.Giving.{held_this, held_other}
use Rattle.write_op.specs.declared.step.Seen.{Seen}
use Rattle.write_op.specs.Fits.{is_asked, Upto, HoldsUpto}

-- with one more
module _ (s : Seen) (p : Role) (free : ℕ) (asked : is_asked s p ≡ true) (h : HoldsUpto s (index p)) where
  abbrev seen : Seen
  seen = record s { held = with_held p free s.held }

  these : (q : Role) → Upto s (index p + 1) q → IsHeld seen.held q
  these q u = elim (upto_more s.first s.second p q u) [
    | inl e ↦ (free, subst (λ (z : Role). free_of (with_held p free s.held) z ≡ Some free) (sym e) (held_this s.held free p))
    | inr before ↦ let was = h.these q before in (was.0, held_other s.held free p q (λ e. let low = before.low in omega (arith, low, e)) ∙ was.1)
  ]

  others : (q : Role) → (Upto s (index p + 1) q → ⊥) → free_of seen.held q ≡ None
  others q out = elim (cases_place q p) [
    | inl e ↦
        let same : index q ≡ index p = ap index e in
        absurd (out (record { low = omega (arith, same); asked = subst (λ (z : Role). is_asked s z ≡ true) (sym e) asked }))
    | inr other ↦ held_other s.held free p q other ∙ h.others q (λ u. out (upto_up s.first s.second (index p) (index p + 1) q (omega arith) u))
  ]

  pub holds_more : HoldsUpto seen (index p + 1)
  holds_more = record { these = these; others = others }

-- where one is not asked for, the locks before the next are those before it
pub holds_less : (s : Seen) (p : Role) → is_asked s p ≡ false → HoldsUpto s (index p) → HoldsUpto s (index p + 1)
holds_less s p out h = record {
  these = λ q u. h.these q (upto_less s.first s.second p q out u);
  others = λ q none. h.others q (λ u. none (upto_up s.first s.second (index p) (index p + 1) q (omega arith) u));
}

-- where all are locked that are asked for, whose lock is held was asked for
asked_if : (s : Seen) → HoldsUpto s 4 → (q : Role) → IsHeld s.held q → (b : Bool) → is_asked s q ≡ b → Upto s 4 q
asked_if s h q held true e = record { low = few s.first s.second q e; asked = e }
asked_if s h q held false e = absurd (none-some _ (sym (h.others q (λ u. never (sym u.asked ∙ e))) ∙ held.1))

pub held_asked : (s : Seen) → HoldsUpto s 4 → (q : Role) → IsHeld s.held q → Upto s 4 q
held_asked s h q held = asked_if s h q held (is_asked s q) refl
