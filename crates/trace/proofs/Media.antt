-- What a power cut may leave, event by event: a store adds one value at its word, and a fence takes the older ones away.
use Rattle.std.proofs.Common.{◌≡◌, ℕ, ◌+◌, ◌%◌, ◌^◌, ◌<◌, ◌≤◌, ◌⊎◌, inl, inr, cond, length, ◌∷◌, refl, sym, subst, arith}
use Rattle.std.specs.Prelude.{◌↔◌}
use Rattle.std.proofs.lemmas.Bool.{cases_lt}
use Rattle.std.proofs.Math.Nat.{le-max_right}
use Rattle.trace.specs.Events.{Words, line_of, with_word, Event, Trace, value}
use Rattle.trace.specs.Events.Event.{loaded, stored, exchanged, drawn, flushed, fenced}
use Rattle.trace.specs.Settling.{IsSettledValue}
use Rattle.trace.specs.Media.{MayHold, IsPossible}
use Rattle.trace.specs.Progress.{pending, latest_of, settled_moment, HadSince}
use Rattle.trace.specs.Steps.{Writes, HadSinceSettled, settled_value, IsReplaced}
use Rattle.trace.proofs.Replaced.{cases_at, replaced_back}
use Rattle.trace.specs.Listed.{Has}
use Rattle.trace.proofs.Moments.{newest_is, since_earlier, since_more, only_newest, had_at, had_moment}
use Rattle.trace.proofs.Flushes.{latest_has, settled_step, settled_before}
use Rattle.trace.proofs.Fenced.{settled_is, settled_only}

-- ---- the definition and its form event by event

pub had_of_may : (start : Words) (es : Trace) (i x : ℕ) → MayHold start es i x → HadSinceSettled start es i x
had_of_may start es i x may =
    let from_is : may.from ≡ settled_moment (line_of i) es = settled_only es (line_of i) may.from may.is_settled in
    let since : settled_moment (line_of i) es ≤ may.t = subst (λ u. u ≤ may.t) from_is may.since in
    subst (λ y. HadSinceSettled start es i y) (sym may.is_value) (had_at start es (settled_moment (line_of i) es) may.t i since may.up_to_now)

pub may_of_had : (start : Words) (es : Trace) (i x : ℕ) → HadSinceSettled start es i x → MayHold start es i x
may_of_had start es i x had =
    let at = had_moment start es (settled_moment (line_of i) es) i x (settled_before es (line_of i)) had in
    record {
      from = settled_moment (line_of i) es;
      is_settled = settled_is es (line_of i);
      t = at.0;
      since = at.1;
      up_to_now = at.2;
      is_value = at.3;
    }

pub may_is_had : (start : Words) (es : Trace) (i x : ℕ) → MayHold start es i x ↔ HadSinceSettled start es i x
may_is_had start es i x = (had_of_may start es i x, may_of_had start es i x)

-- ---- what an event adds

-- at most what it writes
pub may_more : (start : Words) (e : Event) (es : Trace) (i x : ℕ) → HadSinceSettled start (e ∷ es) i x
    → Writes (value start es) e i x ⊎ HadSinceSettled start es i x
may_more start e es i x had =
    elim (since_more start e es (settled_moment (line_of i) (e ∷ es)) i x had) [
      | inl w ↦ inl w
      | inr h ↦ inr (since_earlier start es (settled_moment (line_of i) es) (settled_moment (line_of i) (e ∷ es)) i x (settled_step e es (line_of i)) h)
    ]

pub newest_may : (start : Words) (es : Trace) (i : ℕ) → HadSinceSettled start es i (value start es i)
newest_may start es i = newest_is start es (settled_moment (line_of i) es) i

pub settled_may : (start : Words) (es : Trace) (i : ℕ) → HadSinceSettled start es i (settled_value start es i)
settled_may start es i =
    had_at start es (settled_moment (line_of i) es) (settled_moment (line_of i) es) i (omega arith) (settled_before es (line_of i))

-- ---- what a flush and a fence take away

-- after a fence a word holds only what it had since its caller's flush
pub fence_since : (start : Words) (es : Trace) (c i t x : ℕ) → Has (line_of i, t) (pending c es) → HadSinceSettled start (fenced c ∷ es) i x
    → HadSince start es t i x
fence_since start es c i t x h had =
    let reached : t ≤ settled_moment (line_of i) (fenced c ∷ es) = omega (arith, latest_has (line_of i) t (pending c es) h, le-max_right (settled_moment (line_of i) es) (latest_of (line_of i) (pending c es))) in
    elim (since_more start (fenced c) es (settled_moment (line_of i) (fenced c ∷ es)) i x had) [
      | inl w ↦ absurd w
      | inr s ↦ since_earlier start es t (settled_moment (line_of i) (fenced c ∷ es)) i x reached s
    ]

-- since a flush that was just made a word has one value
pub flush_since : (start : Words) (es : Trace) (c l i x : ℕ) → HadSince start (flushed c l ∷ es) (length es) i x → x ≡ value start es i
flush_since start es c l i x s = elim s [ inl p ↦ p | inr p ↦ only_newest start es (length es) i x (omega arith) p.1 ]

-- ---- possible media

module _ (width : ℕ) (start : Words) (e : Event) (es : Trace) (medium : Words) (possible : IsPossible width start (e ∷ es) medium) where
  more : (i : ℕ) → i < width → Writes (value start es) e i (medium i) ⊎ HadSinceSettled start es i (medium i)
  more i within = may_more start e es i (medium i) (had_of_may start (e ∷ es) i (medium i) (possible i within))

  -- an event that writes nothing adds no medium
  quiet : ((i x : ℕ) → Writes (value start es) e i x → ⊥) → IsPossible width start es medium
  quiet none i within = elim (more i within) [
    | inl w ↦ absurd (none i (medium i) w)
    | inr h ↦ may_of_had start es i (medium i) h
  ]

  -- where the written word is beyond those that are kept
  beyond : (j y : ℕ) → ((i x : ℕ) → Writes (value start es) e i x → (i ≡ j) × (x ≡ y)) → width ≤ j → IsPossible width start es medium
  beyond j y only away i within = elim (more i within) [
    | inl w ↦ let at_j : i ≡ j = (only i (medium i) w).0 in absurd (omega arith)
    | inr h ↦ may_of_had start es i (medium i) h
  ]

  -- where it holds a value of before
  unwritten : (j y : ℕ) → ((i x : ℕ) → Writes (value start es) e i x → (i ≡ j) × (x ≡ y)) → HadSinceSettled start es j (medium j)
      → IsPossible width start es medium
  unwritten j y only h i within = elim (more i within) [
    | inl w ↦ may_of_had start es i (medium i) (subst (λ k. HadSinceSettled start es k (medium k)) (sym (only i (medium i) w).0) h)
    | inr k ↦ may_of_had start es i (medium i) k
  ]

  -- where it holds what was written
  replaced : (j y : ℕ) → Writes (value start es) e j y → ((i x : ℕ) → Writes (value start es) e i x → (i ≡ j) × (x ≡ y)) → medium j ≡ y
      → IsReplaced width start e es (value start es) medium
  replaced j y writes only held = record {
    word = j;
    new = y;
    older = with_word medium j (value start es j);
    is_written = writes;
    was_possible = λ i within. cases_at (λ b. MayHold start es i (cond b (value start es j) (medium i))) i j
        (λ q. may_of_had start es i (value start es j) (subst (λ k. HadSinceSettled start es k (value start es j)) (sym q) (newest_may start es j)))
        (λ n. elim (more i within) [
          | inl w ↦ absurd (n (only i (medium i) w).0)
          | inr h ↦ may_of_had start es i (medium i) h
        ]);
    is_replaced = replaced_back medium j y (value start es j) held;
  }

  writing : (j y : ℕ) → Writes (value start es) e j y → ((i x : ℕ) → Writes (value start es) e i x → (i ≡ j) × (x ≡ y))
      → IsPossible width start es medium ⊎ IsReplaced width start e es (value start es) medium
  writing j y writes only = elim (cases_lt j width) [
    | inl within ↦ elim (more j within) [
      | inl w ↦ inr (replaced j y writes only (only j (medium j) w).1)
      | inr h ↦ inl (unwritten j y only h)
    ]
    | inr away ↦ inl (beyond j y only away)
  ]

-- a medium that is possible after an event was possible before, or is one that was with the written word replaced
pub possible_more : (width : ℕ) (start : Words) (e : Event) (es : Trace) (medium : Words) → IsPossible width start (e ∷ es) medium
    → IsPossible width start es medium ⊎ IsReplaced width start e es (value start es) medium
possible_more width start (loaded c j) es medium possible = inl (quiet width start (loaded c j) es medium possible (λ i x w. w))
possible_more width start (stored c j y) es medium possible = writing width start (stored c j y) es medium possible j y (refl, refl) (λ i x w. w)
possible_more width start (exchanged c j y) es medium possible = writing width start (exchanged c j y) es medium possible j y (refl, refl) (λ i x w. w)
possible_more width start (drawn c j) es medium possible =
    writing width start (drawn c j) es medium possible j ((value start es j + 1) % 2 ^ 64) (refl, refl) (λ i x w. w)
possible_more width start (flushed c l) es medium possible = inl (quiet width start (flushed c l) es medium possible (λ i x w. w))
possible_more width start (fenced c) es medium possible = inl (quiet width start (fenced c) es medium possible (λ i x w. w))

-- settled and newest values, each word by itself, are possible
pub between_is_possible : (width : ℕ) (start : Words) (es : Trace) (medium : Words)
    → ((i : ℕ) → i < width → IsSettledValue start es i (medium i) ⊎ (medium i ≡ value start es i)) → IsPossible width start es medium
between_is_possible width start es medium each i within = elim (each i within) [
  | inl s ↦ record {
    from = s.t;
    is_settled = s.is_settled;
    t = s.t;
    since = omega arith;
    up_to_now = subst (λ u. u ≤ length es) (sym (settled_only es (line_of i) s.t s.is_settled)) (settled_before es (line_of i));
    is_value = s.is_value;
  }
  | inr n ↦ may_of_had start es i (medium i) (subst (λ y. HadSinceSettled start es i y) (sym n) (newest_may start es i))
]
