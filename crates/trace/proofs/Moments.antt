-- The values at the moments of a trace, and which a word had since one.
use Rattle.std.proofs.Common.{◌≡◌, ℕ, suc, ◌+◌, ◌-◌, ◌%◌, ◌^◌, ◌≤◌, ◌⊎◌, inl, inr, cond, [], ◌∷◌, length, drop, refl, sym, ◌∙◌, ap, subst, arith}
use Rattle.std.proofs.lemmas.Bool.{cases_eq, eq-eqb}
use Rattle.trace.specs.Events.{Words, Event, Trace, value, first, value_at}
use Rattle.trace.specs.Events.Event.{loaded, stored, exchanged, drawn, flushed, fenced}
use Rattle.trace.specs.Progress.{HadSince}
use Rattle.trace.specs.Steps.{Writes}
use Rattle.trace.proofs.Replaced.{replaced_other}

-- ---- moments

-- an event more leaves the first events as they were
pub first_more : (e : Event) (es : Trace) (t : ℕ) → t ≤ length es → first t (e ∷ es) ≡ first t es
first_more e es t h =
    let q : length (e ∷ es) - t ≡ suc (length es - t) = omega arith in
    ap (λ n. drop n (e ∷ es)) q

pub first_all : (es : Trace) → first (length es) es ≡ es
first_all es =
    let q : length es - length es ≡ 0 = omega arith in
    ap (λ n. drop n es) q

pub value_at_more : (start : Words) (e : Event) (es : Trace) (t i : ℕ) → t ≤ length es → value_at start (e ∷ es) t i ≡ value_at start es t i
value_at_more start e es t i h = ap (λ s. value start s i) (first_more e es t h)

pub value_at_now : (start : Words) (es : Trace) (i : ℕ) → value_at start es (length es) i ≡ value start es i
value_at_now start es i = ap (λ s. value start s i) (first_all es)

-- ---- values since a moment

pub newest_is : (start : Words) (es : Trace) (t i : ℕ) → HadSince start es t i (value start es i)
newest_is start [] t i = refl
newest_is start (e ∷ es) t i = inl refl

-- since an earlier moment there are no fewer values
pub since_earlier : (start : Words) (es : Trace) (t u i x : ℕ) → t ≤ u → HadSince start es u i x → HadSince start es t i x
since_earlier start [] t u i x h s = s
since_earlier start (e ∷ es) t u i x h s = elim s [ inl p ↦ inl p | inr p ↦ inr (omega arith, since_earlier start es t u i x h p.1) ]

-- since now there is one
pub only_newest : (start : Words) (es : Trace) (t i x : ℕ) → length es ≤ t → HadSince start es t i x → x ≡ value start es i
only_newest start [] t i x h s = s
only_newest start (e ∷ es) t i x h s = elim s [ inl p ↦ p | inr p ↦ absurd (omega arith) ]

written_or_same : (words : Words) (e : Event) (es : Trace) (start : Words) (i : ℕ) → words ≡ value start es
    → Writes words e i (value start (e ∷ es) i) ⊎ (value start (e ∷ es) i ≡ value start es i)
written_or_same words (loaded c j) es start i h = inr refl
written_or_same words (stored c j y) es start i h = elim (cases_eq i j) [
  | inl e ↦ inl (e, ap (λ b. cond b y (value start es i)) (eq-eqb i j e))
  | inr n ↦ inr (replaced_other (value start es) j y i n)
]
written_or_same words (exchanged c j y) es start i h = elim (cases_eq i j) [
  | inl e ↦ inl (e, ap (λ b. cond b y (value start es i)) (eq-eqb i j e))
  | inr n ↦ inr (replaced_other (value start es) j y i n)
]
written_or_same words (drawn c j) es start i h = elim (cases_eq i j) [
  | inl e ↦ inl (e, ap (λ b. cond b ((value start es j + 1) % 2 ^ 64) (value start es i)) (eq-eqb i j e) ∙ ap (λ (w : Words). (w j + 1) % 2 ^ 64) (sym h))
  | inr n ↦ inr (replaced_other (value start es) j ((value start es j + 1) % 2 ^ 64) i n)
]
written_or_same words (flushed c l) es start i h = inr refl
written_or_same words (fenced c) es start i h = inr refl

-- an event adds at most what it writes
pub since_more : (start : Words) (e : Event) (es : Trace) (t i x : ℕ) → HadSince start (e ∷ es) t i x
    → Writes (value start es) e i x ⊎ HadSince start es t i x
since_more start e es t i x s = elim s [
  | inl p ↦ elim (written_or_same (value start es) e es start i refl) [
    | inl w ↦ inl (subst (λ y. Writes (value start es) e i y) (sym p) w)
    | inr q ↦ inr (subst (λ y. HadSince start es t i y) (sym (p ∙ q)) (newest_is start es t i))
  ]
  | inr p ↦ inr p.1
]

-- the value at a moment is one of those since it, and since any before
pub had_at : (start : Words) (es : Trace) (from t i : ℕ) → from ≤ t → t ≤ length es → HadSince start es from i (value_at start es t i)
had_at start [] from t i h k =
    let q : length {A = Event} [] - t ≡ 0 = omega arith in
    ap (λ n. value start (drop n []) i) q
had_at start (e ∷ es) from t i h k = elim (cases_eq t (length (e ∷ es))) [
  | inl q ↦ inl (ap (λ u. value_at start (e ∷ es) u i) q ∙ value_at_now start (e ∷ es) i)
  | inr n ↦ let below : t ≤ length es = omega arith in
      inr (omega arith, subst (λ y. HadSince start es from i y) (sym (value_at_more start e es t i below)) (had_at start es from t i h below))
]

-- each value since a moment is the one at some moment
pub had_moment : (start : Words) (es : Trace) (from i x : ℕ) → from ≤ length es → HadSince start es from i x
    → (t : ℕ) × (from ≤ t) × (t ≤ length es) × (x ≡ value_at start es t i)
had_moment start [] from i x h s = (0, h, omega arith, s)
had_moment start (e ∷ es) from i x h s = elim s [
  | inl p ↦ (length (e ∷ es), h, omega arith, p ∙ sym (value_at_now start (e ∷ es) i))
  | inr p ↦ let m = had_moment start es from i x p.0 p.1 in
      let below : m.0 ≤ length es = m.2 in
      (m.0, m.1, omega arith, m.3 ∙ sym (value_at_more start e es m.0 i below))
]
