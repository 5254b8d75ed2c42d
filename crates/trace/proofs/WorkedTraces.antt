-- Small traces on a memory of zeros, worked through: the definitions compute what is said here of them.
use Rattle.std.proofs.Common.{◌≡◌, ℕ, ◌⊎◌, inl, inr, [], ◌∷◌, refl, lit≤, arith}
use Rattle.trace.specs.Events.{Words, Trace, value}
use Rattle.trace.specs.Events.Event.{stored, flushed, fenced}
use Rattle.trace.specs.Progress.{settled_moment}
use Rattle.trace.specs.Steps.{HadSinceSettled, settled_value}

abbrev zeros : Words
zeros i = 0

-- ---- two callers on one line: caller 1 stores 1 in word 3 and flushes the line, caller 2 stores 2 in word 4, and
-- caller 1 fences
abbrev two_callers : Trace
two_callers = fenced 1 ∷ stored 2 4 2 ∷ flushed 1 0 ∷ stored 1 3 1 ∷ []

two_settled : settled_moment 0 two_callers ≡ 1
two_settled = refl

-- word 3 may hold 1, and nothing else
three_holds_one : HadSinceSettled zeros two_callers 3 1
three_holds_one = inl refl

three_holds_only : (x : ℕ) → HadSinceSettled zeros two_callers 3 x → x ≡ 1
three_holds_only x h = elim h [
  | inl p ↦ p
  | inr q ↦ elim q.1 [
    | inl p ↦ p
    | inr r ↦ elim r.1 [
      | inl p ↦ p
      | inr s ↦ elim s.1 [ inl p ↦ p | inr u ↦ absurd (omega arith) ]
    ]
  ]
]

-- word 4 may hold 0 or 2, and nothing else
four_holds_zero : HadSinceSettled zeros two_callers 4 0
four_holds_zero = inr (lit≤ tt, inr (lit≤ tt, inl refl))

four_holds_two : HadSinceSettled zeros two_callers 4 2
four_holds_two = inl refl

four_holds_only : (x : ℕ) → HadSinceSettled zeros two_callers 4 x → (x ≡ 0) ⊎ (x ≡ 2)
four_holds_only x h = elim h [
  | inl p ↦ inr p
  | inr q ↦ elim q.1 [
    | inl p ↦ inr p
    | inr r ↦ elim r.1 [
      | inl p ↦ inl p
      | inr s ↦ elim s.1 [ inl p ↦ inl p | inr u ↦ absurd (omega arith) ]
    ]
  ]
]

-- ---- a flush without a fence settles nothing, whoever else fences
abbrev unfenced : Trace
unfenced = fenced 2 ∷ flushed 1 0 ∷ stored 1 3 1 ∷ []

unfenced_settles_nothing : (settled_moment 0 unfenced ≡ 0) × (settled_value zeros unfenced 3 ≡ 0) × (value zeros unfenced 3 ≡ 1)
unfenced_settles_nothing = (refl, refl, refl)

-- ---- a fence without a flush settles nothing
abbrev unflushed : Trace
unflushed = fenced 1 ∷ stored 1 3 1 ∷ []

unflushed_settles_nothing : (settled_moment 0 unflushed ≡ 0) × (settled_value zeros unflushed 3 ≡ 0) × (value zeros unflushed 3 ≡ 1)
unflushed_settles_nothing = (refl, refl, refl)

-- ---- a fence settles the value that was flushed, and not a newer one
abbrev newer_value : Trace
newer_value = fenced 1 ∷ stored 1 3 2 ∷ flushed 1 0 ∷ stored 1 3 1 ∷ []

flushed_is_settled : (settled_value zeros newer_value 3 ≡ 1) × (value zeros newer_value 3 ≡ 2)
flushed_is_settled = (refl, refl)

-- ---- a later fence with an earlier flush takes nothing back: caller 1 flushes 1, caller 2 stores 2, flushes and fences,
-- and then caller 1 fences
abbrev earlier_flush : Trace
earlier_flush = fenced 1 ∷ fenced 2 ∷ flushed 2 0 ∷ stored 2 3 2 ∷ flushed 1 0 ∷ stored 1 3 1 ∷ []

nothing_is_taken_back : (settled_moment 0 earlier_flush ≡ 3) × (settled_value zeros earlier_flush 3 ≡ 2)
nothing_is_taken_back = (refl, refl)

-- and the same where the caller of the earlier flush fences first
abbrev fenced_in_turn : Trace
fenced_in_turn = fenced 2 ∷ fenced 1 ∷ flushed 2 0 ∷ stored 2 3 2 ∷ flushed 1 0 ∷ stored 1 3 1 ∷ []

later_flush_decides : (settled_value zeros (fenced 1 ∷ flushed 2 0 ∷ stored 2 3 2 ∷ flushed 1 0 ∷ stored 1 3 1 ∷ []) 3 ≡ 1) × (settled_value zeros fenced_in_turn 3 ≡ 2)
later_flush_decides = (refl, refl)
