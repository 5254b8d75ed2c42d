-- The lines of a round, and pairs of words on lines; the lines are those of words that were stored.
use Rattle.std.proofs.Common.{◌≡◌, ℕ, zero, suc, ◌<◌, ◌⊎◌, inl, inr, cond, eqb, Option, Some, List, [], ◌∷◌, length, refl, sym, ap, ◌∙◌, subst, arith}
use Rattle.std.specs.Prelude.{slice_index}
use Rattle.std.proofs.lemmas.Bool.{cases_Bool, eqb-true, eqb-false}
use Rattle.trace.specs.Events.{line_of}
use Rattle.op_core.specs.declared.want.Want.{Want}
use Rattle.op_core.specs.declared.want.Want.TheVariants.{Store, Flush, Fence}
use Rattle.world.specs.Views.{Has}
use Rattle.world.specs.Kinds.{on_line, off_line}
use Rattle.trace.proofs.Listed.{has_of_contains, contains_of_has}
use Rattle.whole_segment.specs.Rounds.{touched}
use Rattle.whole_segment.proofs.OneRound.{touched_has, touched_keeps, touched_only}
use Rattle.rounds.specs.declared.rounds.Rounds.{Rounds}
use Rattle.rounds.specs.Steps.{begun, rounds_wanted, rounds_taken}
use Rattle.rounds.specs.Events.{IsRoundEvent}
use Rattle.rounds.specs.Laws.{LinesAreStored}
use Rattle.rounds.proofs.Events.{event_cases, events_end, cases_wanted}

-- ---- lists
pub none_left : {X : Type 0} (xs : List X) → ((x : X) → Has x xs → ⊥) → xs ≡ []
none_left [] none = refl
none_left (x ∷ xs) none = absurd (none x (inl refl))

pub has_at : (lines : List ℕ) (i : ℕ) → i < length lines → Has (slice_index lines i) lines
has_at [] i low = absurd (omega (arith, low))
has_at (line ∷ lines) zero low = inl refl
has_at (line ∷ lines) (suc i) low = inr (has_at lines i (omega (arith, low)))

-- ---- a line is touched
module _ (lines : List ℕ) (line : ℕ) where
  pub has_touched : Has line (touched lines line)
  has_touched = has_of_contains line (touched lines line) (touched_has lines line)

  pub still_touched : (other : ℕ) → Has other lines → Has other (touched lines line)
  still_touched other has = has_of_contains other (touched lines line) (touched_keeps lines line other (contains_of_has other lines has))

  pub only_touched : (other : ℕ) → Has other (touched lines line) → Has other lines ⊎ (line ≡ other)
  only_touched other has = elim (touched_only lines line other (contains_of_has other (touched lines line) has)) [
    | inl old ↦ inl (has_of_contains other lines old)
    | inr here ↦ inr here
  ]

-- ---- pairs of words on a line, and off it
module _ (line : ℕ) (p : ℕ × ℕ) where
  pub on_line_is : (pairs : List (ℕ × ℕ)) → Has p (on_line line pairs) → line_of p.0 ≡ line
  on_line_is [] h = absurd h
  on_line_is (q ∷ pairs) h = elim (cases_Bool (eqb (line_of q.0) line)) [
    | inl on ↦ elim (subst (λ b. Has p (cond b (q ∷ on_line line pairs) (on_line line pairs))) on h) [
      | inl e ↦ ap (λ (z : ℕ × ℕ). line_of z.0) e ∙ eqb-true (line_of q.0) line on
      | inr r ↦ on_line_is pairs r
    ]
    | inr off ↦ on_line_is pairs (subst (λ b. Has p (cond b (q ∷ on_line line pairs) (on_line line pairs))) off h)
  ]

  pub off_line_has : (pairs : List (ℕ × ℕ)) → Has p (off_line line pairs) → Has p pairs × (line_of p.0 ≡ line → ⊥)
  off_line_has [] h = absurd h
  off_line_has (q ∷ pairs) h = elim (cases_Bool (eqb (line_of q.0) line)) [
    | inl on ↦ (let r = off_line_has pairs (subst (λ b. Has p (cond b (off_line line pairs) (q ∷ off_line line pairs))) on h) in (inr r.0, r.1))
    | inr off ↦ elim (subst (λ b. Has p (cond b (off_line line pairs) (q ∷ off_line line pairs))) off h) [
      | inl e ↦ (inl e, λ same. eqb-false (line_of q.0) line off (ap (λ (z : ℕ × ℕ). line_of z.0) (sym e) ∙ same))
      | inr r ↦ (let s = off_line_has pairs r in (inr s.0, s.1))
    ]
  ]

-- ---- the lines are those of words that were stored
module _ (P : ℕ → Type 0) (rounds : Rounds) (next : Option (ℕ × ℕ)) (are : (line : ℕ) → Has line rounds.round → P line) where
  lines_by : (want : Want) → IsRoundEvent rounds next want → ((word value : ℕ) → next ≡ Some (word, value) → P (line_of word))
      → (line : ℕ) → Has line (rounds_taken rounds next).round → P line
  lines_by want event one line has = elim event [
    | inl s ↦ elim (only_touched rounds.round (line_of s.word) line (subst (λ (r : Rounds). Has line r.round) s.leaves has)) [
      | inl old ↦ are line old
      | inr e ↦ subst P e (one s.word s.value s.comes)
    ]
    | inr f ↦ elim f [
      | inl f ↦ are line (subst (λ (r : Rounds). Has line r.round) f.leaves has)
      | inr f ↦ absurd (subst (λ (r : Rounds). Has line r.round) f.leaves has)
    ]
  ]

  lines_keep : ((word value : ℕ) → next ≡ Some (word, value) → P (line_of word)) → (line : ℕ) → Has line (rounds_taken rounds next).round → P line
  lines_keep one line has = elim (cases_wanted (rounds_wanted rounds next)) [
    | inl none ↦ (let ends = events_end rounds next none in
        absurd (subst (λ (o : Option (ℕ × ℕ)). Has line (rounds_taken begun o).round) ends.1 (subst (λ (r : Rounds). Has line (rounds_taken r next).round) ends.0 has)))
    | inr some ↦ lines_by some.0 (event_cases rounds next some.0 some.1) one line has
  ]

  line_flushed : (line : ℕ) → rounds_wanted rounds next ≡ Some (Flush line) → P line
  line_flushed line e = elim (event_cases rounds next (Flush line) e) [
    | inl s ↦ absurd (no_store s.word s.value s.wants)
    | inr f ↦ elim f [
      | inl f ↦ subst P (sym (same_line (slice_index rounds.round f.number) f.wants)) (are (slice_index rounds.round f.number) (has_at rounds.round f.number f.low))
      | inr f ↦ absurd (no_fence f.wants)
    ]
  ]
    where
      no_store : (word value : ℕ) → Flush line ≡ Store word value → ⊥
      no_store word value same = cc

      same_line : (other : ℕ) → Flush line ≡ Flush other → line ≡ other
      same_line other same = cc

      no_fence : Flush line ≡ Fence → ⊥
      no_fence same = cc

pub lines_are_stored : (P : ℕ → Type 0) → LinesAreStored P
lines_are_stored P = record {
  keeps = λ rounds next are one. lines_keep P rounds next are one;
  flushes = λ rounds next are. line_flushed P rounds next are;
}
