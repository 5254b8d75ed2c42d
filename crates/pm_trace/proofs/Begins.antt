-- A device begins with the words of its medium and zeros behind them, and with nothing flushed.
use Rattle.std.proofs.Common.{◌≡◌, ℕ, ◌-◌, ◌≤◌, inl, inr, List, [], ◌++◌, length, refl, sym, ◌∙◌, subst, arith}
use Rattle.std.specs.Prelude.{slice_index, replicate}
use Rattle.std.proofs.lemmas.Bool.{cases_lt}
use Rattle.std.proofs.lemmas.List.{get_or_append_left, get_or-append_right, get_or-replicate, get_or_past, length-replicate}
use Rattle.trace.proofs.Listed.{has_of_contains}
use Rattle.trace.proofs.SettledValues.{settled_here}
use Rattle.image_layout.specs.Places.{Shape}
use Rattle.pm_trace.specs.TraceOf.{IsTraceOf}

zeros_behind : (n i : ℕ) → slice_index (replicate n 0) i ≡ 0
zeros_behind n i = elim (cases_lt i n) [
  | inl h ↦ get_or-replicate n i 0 0 h
  | inr h ↦ let past : length (replicate n 0) ≤ i = omega (arith, length-replicate {A = ℕ} n 0) in get_or_past (replicate n 0) i 0 past
]

pub padded_word : (words : List ℕ) (n w : ℕ) → slice_index (words ++ replicate n 0) w ≡ slice_index words w
padded_word words n w = elim (cases_lt w (length words)) [
  | inl h ↦ get_or_append_left words (replicate n 0) 0 w h
  | inr h ↦ get_or-append_right words (replicate n 0) (length words) w 0 refl h ∙ zeros_behind n (w - length words) ∙ sym (get_or_past words w 0 h)
]

pub begins : (words newest settled : List ℕ) (m n : ℕ) (shape : Shape) (callers : ℕ) → newest ≡ words ++ replicate m 0 → settled ≡ words ++ replicate n 0
    → IsTraceOf (slice_index words) [] (record { shape = shape; callers = callers; newest = newest; settled = settled; flushes = [] })
begins words newest settled m n shape callers is_newest is_settled = record {
  newest = λ w. subst (λ xs. slice_index xs w ≡ slice_index words w) (sym is_newest) (padded_word words m w);
  settled = λ w. settled_here (slice_index words) [] w (slice_index settled w) (subst (λ xs. slice_index xs w ≡ slice_index words w) (sym is_settled) (padded_word words n w));
  each = λ k d h. absurd (omega arith);
  whole = λ c l t h. absurd (has_of_contains (l, t) [] h);
  once = λ c. omega arith;
  ordered = λ i j d h k. absurd (omega arith);
  held = λ k d h. absurd (omega arith);
}
