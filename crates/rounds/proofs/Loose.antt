-- Nothing is loose but words that were stored.
use Rattle.std.proofs.Common.{◌≡◌, ℕ, inl, inr, Option, Some, List, sym, subst}
use Rattle.std.specs.Prelude.{slice_index}
use Rattle.op_core.specs.declared.want.Want.{Want}
use Rattle.image_layout.specs.Places.{Shape}
use Rattle.world.specs.Facts.{Fact}
use Rattle.world.specs.Views.{View, IsLoose}
use Rattle.world.specs.Kinds.{flushes, view_after}
use Rattle.world.specs.areas.Kinds.{sets, settles, view_then}
use Rattle.world.specs.StepKinds.{view_by}
use Rattle.world.proofs.basics.Seats.{loosened_has, flush_loose}
use Rattle.rounds.specs.declared.rounds.Rounds.{Rounds}
use Rattle.rounds.specs.Steps.{rounds_wanted}
use Rattle.rounds.specs.Events.{IsRoundEvent}
use Rattle.rounds.specs.Stands.{kind_of, rounds_kind}
use Rattle.rounds.specs.Laws.{LooseIsStored}
use Rattle.rounds.proofs.Events.{event_cases, cases_wanted}

module _ (P : ℕ → Type 0) (shape : Shape) (facts : List Fact) (rounds : Rounds) (next : Option (ℕ × ℕ)) (n : ℕ) (v : View) (are : (p : ℕ × ℕ) → IsLoose v p → P p.0) where
  -- behind a store its word is loose beside those that were
  store_loose : (word value : ℕ) → P word → (p : ℕ × ℕ) → IsLoose (view_then shape (sets word value) n v) p → P p.0
  store_loose word value one p loose = elim loose [
    | inl dirty ↦ elim (loosened_has shape word n value v.dirty p dirty) [ inl e ↦ subst (λ (q : ℕ × ℕ). P q.0) (sym e) one | inr old ↦ are p (inl old) ]
    | inr flushed ↦ are p (inr flushed)
  ]

  -- behind a flush the same words are
  line_loose : (line : ℕ) (p : ℕ × ℕ) → IsLoose (view_after shape (flushes line) n v) p → P p.0
  line_loose line p loose = are p (flush_loose line v.dirty v.flushed p loose)

  -- and behind a fence none but those that are not flushed
  fence_loose : (p : ℕ × ℕ) → IsLoose (view_then shape (settles facts) n v) p → P p.0
  fence_loose p loose = elim loose [ inl dirty ↦ are p (inl dirty) | inr none ↦ absurd none ]

  loose_by : (want : Want) → IsRoundEvent rounds next want → ((word value : ℕ) → next ≡ Some (word, value) → P word)
      → (p : ℕ × ℕ) → IsLoose (view_by shape (kind_of facts (Some want)) n v) p → P p.0
  loose_by want event one p loose = elim event [
    | inl s ↦ store_loose s.word s.value (one s.word s.value s.comes) p (subst (λ (w : Want). IsLoose (view_by shape (kind_of facts (Some w)) n v) p) s.wants loose)
    | inr f ↦ elim f [
      | inl f ↦ line_loose (slice_index rounds.round f.number) p (subst (λ (w : Want). IsLoose (view_by shape (kind_of facts (Some w)) n v) p) f.wants loose)
      | inr f ↦ fence_loose p (subst (λ (w : Want). IsLoose (view_by shape (kind_of facts (Some w)) n v) p) f.wants loose)
    ]
  ]

  loose_keeps : ((word value : ℕ) → next ≡ Some (word, value) → P word) → (p : ℕ × ℕ) → IsLoose (view_by shape (rounds_kind rounds next facts) n v) p → P p.0
  loose_keeps one p loose = elim (cases_wanted (rounds_wanted rounds next)) [
    | inl none ↦ are p (subst (λ (o : Option Want). IsLoose (view_by shape (kind_of facts o) n v) p) none loose)
    | inr some ↦ loose_by some.0 (event_cases rounds next some.0 some.1) one p (subst (λ (o : Option Want). IsLoose (view_by shape (kind_of facts o) n v) p) some.1 loose)
  ]

pub loose_is_stored : (P : ℕ → Type 0) → LooseIsStored P
loose_is_stored P = record { keeps = λ shape facts rounds next n v are one. loose_keeps P shape facts rounds next n v are one }
