-- Each event is a store, a flush of a line of the round, or a fence.
use Rattle.std.proofs.Common.{◌≡◌, ℕ, ◌<◌, ◌≤◌, ◌⊎◌, inl, inr, true, false, cond, Option, None, Some, List, [], length, refl, sym, ap, ◌∙◌, subst, arith}
use Rattle.std.specs.Prelude.{slice_index}
use Rattle.std.proofs.lemmas.Bool.{cases_Bool, cases_lt, lt-ltb, le-ltb, true≢false}
use Rattle.std.proofs.lemmas.List.{nil_from_length}
use Rattle.std.proofs.lemmas.Option.{none-some, same_Some}
use Rattle.trace.specs.Events.{line_of}
use Rattle.op_core.specs.declared.want.Want.{Want}
use Rattle.op_core.specs.declared.want.Want.TheVariants.{Store, Flush, Fence}
use Rattle.whole_segment.specs.Rounds.{takes, touched}
use Rattle.rounds.specs.declared.rounds.RoundStep.{RoundStep}
use Rattle.rounds.specs.declared.rounds.RoundStep.TheVariants.{Storing, Flushing, Fencing}
use Rattle.rounds.specs.declared.rounds.Rounds.{Rounds}
use Rattle.rounds.specs.Steps.{at_step, begun, has_room, first_flush, storing_wanted, flushing_wanted, wanted_at, flushed_to, ended, stored_to, rounds_stores, rounds_wanted}
use Rattle.rounds.specs.Events.{IsFlush, IsRoundEvent}

-- ---- the first flush
module _ (lines : List ℕ) where
  first_some : 0 < length lines → first_flush lines ≡ Some (Flush (slice_index lines 0))
  first_some low = ap (λ b. cond b (Some (Flush (slice_index lines 0))) None) (lt-ltb 0 (length lines) low)

  first_none : length lines ≤ 0 → first_flush lines ≡ None
  first_none none = ap (λ b. cond b (Some (Flush (slice_index lines 0))) None) (le-ltb 0 (length lines) none)

  ended_some : 0 < length lines → ended lines ≡ at_step lines (flushed_to lines 0)
  ended_some low = ap (λ b. cond b (at_step lines (flushed_to lines 0)) (at_step lines Storing)) (lt-ltb 0 (length lines) low)

  -- a round that wants none has touched no line
  no_lines : first_flush lines ≡ None → lines ≡ []
  no_lines e = elim (cases_lt 0 (length lines)) [
    | inl low ↦ absurd (none-some _ (sym e ∙ first_some low))
    | inr none ↦ nil_from_length lines (omega (arith, none))
  ]

  first_cases : (next : Option (ℕ × ℕ)) (want : Want) → first_flush lines ≡ Some want → stored_to lines next ≡ ended lines → has_room lines next ≡ false
      → IsFlush (at_step lines Storing) next want
  first_cases next want e leaves room = elim (cases_lt 0 (length lines)) [
    | inl low ↦ record {
      number = 0;
      low = low;
      step = inl (refl, refl);
      wants = same_Some _ _ (sym e ∙ first_some low);
      leaves = leaves ∙ ended_some low;
      stores = room;
    }
    | inr none ↦ absurd (none-some _ (sym (first_none none) ∙ e))
  ]

  -- ---- each step
  storing_cases : (next : Option (ℕ × ℕ)) (want : Want) → storing_wanted lines next ≡ Some want → IsRoundEvent (at_step lines Storing) next want
  storing_cases None want e = inr (inl (first_cases None want e refl refl))
  storing_cases (Some next) want e = elim (cases_Bool (takes lines (line_of next.0))) [
    | inl on ↦ inl (record {
      word = next.0;
      value = next.1;
      comes = refl;
      step = refl;
      takes = on;
      wants = same_Some _ _ (sym e ∙ ap (λ b. cond b (Some (Store next.0 next.1)) (first_flush lines)) on);
      leaves = ap (λ b. cond b (at_step (touched lines (line_of next.0)) Storing) (ended lines)) on;
      stores = on;
    })
    | inr off ↦ inr (inl (first_cases (Some next) want (sym (ap (λ b. cond b (Some (Store next.0 next.1)) (first_flush lines)) off) ∙ e)
        (ap (λ b. cond b (at_step (touched lines (line_of next.0)) Storing) (ended lines)) off) off))
  ]

  flushing_cases : (i : ℕ) (next : Option (ℕ × ℕ)) (want : Want) → Some (flushing_wanted lines i) ≡ Some want → IsRoundEvent (at_step lines (Flushing i)) next want
  flushing_cases i next want e = elim (cases_lt i (length lines)) [
    | inl low ↦ inr (inl (record {
      number = i;
      low = low;
      step = inr refl;
      wants = sym (same_Some _ _ e) ∙ ap (λ b. cond b (Flush (slice_index lines i)) Fence) (lt-ltb i (length lines) low);
      leaves = ap (λ b. cond b (at_step lines (flushed_to lines i)) begun) (lt-ltb i (length lines) low);
      stores = refl;
    }))
    | inr high ↦ inr (inr (record {
      step = inr (i, refl, high);
      wants = sym (same_Some _ _ e) ∙ ap (λ b. cond b (Flush (slice_index lines i)) Fence) (le-ltb i (length lines) high);
      leaves = ap (λ b. cond b (at_step lines (flushed_to lines i)) begun) (le-ltb i (length lines) high);
      stores = refl;
    }))
  ]

  cases_at : (step : RoundStep) (next : Option (ℕ × ℕ)) (want : Want) → wanted_at lines step next ≡ Some want → IsRoundEvent (at_step lines step) next want
  cases_at Storing next want e = storing_cases next want e
  cases_at (Flushing i) next want e = flushing_cases i next want e
  cases_at Fencing next want e = inr (inr (record { step = inl refl; wants = sym (same_Some _ _ e); leaves = refl; stores = refl }))

  -- ---- the end
  ends_at : (step : RoundStep) (next : Option (ℕ × ℕ)) → wanted_at lines step next ≡ None → (at_step lines step ≡ begun) × (next ≡ None)
  ends_at Storing None e = (ap (λ (l : List ℕ). at_step l Storing) (no_lines e), refl)
  ends_at Storing (Some next) e = elim (cases_Bool (takes lines (line_of next.0))) [
    | inl on ↦ absurd (none-some _ (sym e ∙ ap (λ b. cond b (Some (Store next.0 next.1)) (first_flush lines)) on))
    | inr off ↦ absurd (true≢false (subst (λ (l : List ℕ). takes l (line_of next.0) ≡ false)
        (no_lines (sym (ap (λ b. cond b (Some (Store next.0 next.1)) (first_flush lines)) off) ∙ e)) off))
  ]
  ends_at (Flushing i) next e = absurd (none-some _ (sym e))
  ends_at Fencing next e = absurd (none-some _ (sym e))

module _ (rounds : Rounds) (next : Option (ℕ × ℕ)) where
  pub event_cases : (want : Want) → rounds_wanted rounds next ≡ Some want → IsRoundEvent rounds next want
  event_cases want e = cases_at rounds.round rounds.step next want e

  pub events_end : rounds_wanted rounds next ≡ None → (rounds ≡ begun) × (next ≡ None)
  events_end e = ends_at rounds.round rounds.step next e

pub cases_wanted : (want : Option Want) → (want ≡ None) ⊎ ((w : Want) × (want ≡ Some w))
cases_wanted None = inl refl
cases_wanted (Some w) = inr (w, refl)

-- ---- a store that is the next event is wanted
store_at : (lines : List ℕ) (step : RoundStep) (word value : ℕ) → rounds_stores (at_step lines step) (Some (word, value)) ≡ true
    → wanted_at lines step (Some (word, value)) ≡ Some (Store word value)
store_at lines Storing word value e = ap (λ b. cond b (Some (Store word value)) (first_flush lines)) e
store_at lines (Flushing i) word value e = absurd (true≢false (sym e))
store_at lines Fencing word value e = absurd (true≢false (sym e))

pub store_wanted : (rounds : Rounds) (word value : ℕ) → rounds_stores rounds (Some (word, value)) ≡ true → rounds_wanted rounds (Some (word, value)) ≡ Some (Store word value)
store_wanted rounds word value e = store_at rounds.round rounds.step word value e

none_at : (lines : List ℕ) (step : RoundStep) → rounds_stores (at_step lines step) None ≡ true → ⊥
none_at lines Storing e = true≢false (sym e)
none_at lines (Flushing i) e = true≢false (sym e)
none_at lines Fencing e = true≢false (sym e)

pub none_stored : (rounds : Rounds) → rounds_stores rounds None ≡ true → ⊥
none_stored rounds e = none_at rounds.round rounds.step e

-- so a store is wanted where the next event is one
pub some_store : (rounds : Rounds) (next : Option (ℕ × ℕ)) → rounds_stores rounds next ≡ true
    → (word : ℕ) × (value : ℕ) × (rounds_wanted rounds next ≡ Some (Store word value))
some_store rounds None e = absurd (none_stored rounds e)
some_store rounds (Some next) e = (next.0, next.1, store_wanted rounds next.0 next.1 e)
