-- One line more waits behind each flush, none before a store, and none behind a fence.
use Rattle.std.proofs.Common.{◌≡◌, ◌≢◌, ℕ, ◌+◌, ◌<◌, ◌≤◌, inl, inr, true, cond, Option, None, Some, List, length, refl, sym, ap, ◌∙◌, arith}
use Rattle.std.specs.Prelude.{slice_index}
use Rattle.std.proofs.lemmas.Bool.{cases_lt, lt-ltb, le-ltb, true≢false}
use Rattle.op_core.specs.declared.want.Want.{Want}
use Rattle.op_core.specs.declared.want.Want.TheVariants.{Store, Flush, Fence, Done}
use Rattle.whole_segment.specs.Rounds.{most_lines}
use Rattle.rounds.specs.declared.rounds.RoundStep.{RoundStep}
use Rattle.rounds.specs.declared.rounds.RoundStep.TheVariants.{Storing, Flushing, Fencing}
use Rattle.rounds.specs.declared.rounds.Rounds.{Rounds}
use Rattle.rounds.specs.Steps.{at_step, flushed_to, rounds_stores, rounds_wanted, want_or_done, event_wanted, rounds_taken}
use Rattle.rounds.specs.Events.{IsStore, IsFlush, IsFence}
use Rattle.rounds.specs.Waiting.{round_waiting, rounds_waiting}
use Rattle.rounds.specs.Laws.{RoundsWait}
use Rattle.rounds.proofs.Events.{event_cases, events_end, cases_wanted, some_store}
use Rattle.rounds.proofs.Wanted.{event_is, event_of, event_none}

-- ---- of a round
pub round_few : (lines : List ℕ) (step : RoundStep) → round_waiting lines step ≤ length lines
round_few lines Storing = omega arith
round_few lines (Flushing i) = omega arith
round_few lines Fencing = omega arith

-- behind the flush of the line of this number
pub flushed_waits : (lines : List ℕ) (i : ℕ) → i < length lines → round_waiting lines (flushed_to lines i) ≡ i + 1
flushed_waits lines i low = elim (cases_lt (i + 1) (length lines)) [
  | inl more ↦ (let e = ap (λ b. round_waiting lines (cond b (Flushing (i + 1)) Fencing)) (lt-ltb (i + 1) (length lines) more) in omega (arith, e, more))
  | inr last ↦ (let e = ap (λ b. round_waiting lines (cond b (Flushing (i + 1)) Fencing)) (le-ltb (i + 1) (length lines) last) in omega (arith, e, last, low))
]

-- ---- of a round that has no more lines than it may touch, and of any other
module _ (rounds : Rounds) where
  pub few_wait : length rounds.round ≤ most_lines → rounds_waiting rounds ≡ round_waiting rounds.round rounds.step
  few_wait few = ap (λ b. cond b 0 (round_waiting rounds.round rounds.step)) (le-ltb most_lines (length rounds.round) few)

  many_wait : most_lines < length rounds.round → rounds_waiting rounds ≡ 0
  many_wait many = ap (λ b. cond b 0 (round_waiting rounds.round rounds.step)) (lt-ltb most_lines (length rounds.round) many)

  pub most_wait : rounds_waiting rounds ≤ most_lines
  most_wait = elim (cases_lt most_lines (length rounds.round)) [
    | inl many ↦ (let e = many_wait many in omega (arith, e))
    | inr few ↦ (let e = few_wait few in let most = round_few rounds.round rounds.step in omega (arith, e, most, few))
  ]

  pub storing_waits : rounds.step ≡ Storing → rounds_waiting rounds ≡ 0
  storing_waits storing = elim (cases_lt most_lines (length rounds.round)) [
    | inl many ↦ many_wait many
    | inr few ↦ few_wait few ∙ ap (λ (t : RoundStep). round_waiting rounds.round t) storing
  ]

-- ---- by each event
module _ (rounds : Rounds) (next : Option (ℕ × ℕ)) (want : Want) where
  pub store_waits : IsStore rounds next want → (rounds_waiting rounds ≡ 0) × (rounds_waiting (rounds_taken rounds next) ≡ 0)
  store_waits s = (storing_waits rounds s.step, storing_waits (rounds_taken rounds next) (ap (λ (r : Rounds). r.step) s.leaves))

  pub flush_waits : length rounds.round ≤ most_lines → IsFlush rounds next want → rounds_waiting (rounds_taken rounds next) ≡ rounds_waiting rounds + 1
  flush_waits few f =
      let low = f.low in
      let before : rounds_waiting rounds ≡ f.number = few_wait rounds few ∙ elim f.step [
        | inl first ↦ ap (λ (t : RoundStep). round_waiting rounds.round t) first.0 ∙ sym first.1
        | inr more ↦ (let e = ap (λ (t : RoundStep). round_waiting rounds.round t) more in omega (arith, e, low))
      ] in
      let after = ap (λ (r : Rounds). rounds_waiting r) f.leaves ∙ few_wait (at_step rounds.round (flushed_to rounds.round f.number)) few ∙ flushed_waits rounds.round f.number f.low in
      omega (arith, before, after)

  pub fence_waits : IsFence rounds next want → rounds_waiting (rounds_taken rounds next) ≡ 0
  fence_waits f = ap (λ (r : Rounds). rounds_waiting r) f.leaves

module _ (rounds : Rounds) (next : Option (ℕ × ℕ)) where
  pub none_waits : rounds_wanted rounds next ≡ None → rounds_waiting rounds ≡ 0
  none_waits none = ap (λ (r : Rounds). rounds_waiting r) (events_end rounds next none).0

  -- by what is wanted
  stores_wait : rounds_stores rounds next ≡ true → (rounds_waiting rounds ≡ 0) × (rounds_waiting (rounds_taken rounds next) ≡ 0)
  stores_wait is =
      let s = some_store rounds next is in
      let want : Want = Store s.0 s.1 in
      elim (event_cases rounds next want s.2) [
        | inl store ↦ store_waits rounds next want store
        | inr f ↦ elim f [ inl f ↦ absurd (true≢false (sym is ∙ f.stores)) | inr f ↦ absurd (true≢false (sym is ∙ f.stores)) ]
      ]

  flushes_wait : (line : ℕ) → length rounds.round ≤ most_lines → rounds_wanted rounds next ≡ Some (Flush line) → rounds_waiting (rounds_taken rounds next) ≡ rounds_waiting rounds + 1
  flushes_wait line few is = elim (event_cases rounds next (Flush line) is) [
    | inl s ↦ absurd (let no : Flush line ≡ Store s.word s.value = s.wants in cc)
    | inr f ↦ elim f [
      | inl f ↦ flush_waits rounds next (Flush line) few f
      | inr f ↦ absurd (let no : Flush line ≡ Fence = f.wants in cc)
    ]
  ]

  fences_wait : rounds_wanted rounds next ≡ Some Fence → rounds_waiting (rounds_taken rounds next) ≡ 0
  fences_wait is = elim (event_cases rounds next Fence is) [
    | inl s ↦ absurd (let no : Fence ≡ Store s.word s.value = s.wants in cc)
    | inr f ↦ elim f [
      | inl f ↦ absurd (let no : Fence ≡ Flush (slice_index rounds.round f.number) = f.wants in cc)
      | inr f ↦ fence_waits rounds next Fence f
    ]
  ]

-- ---- by what a machine wants
module _ (rounds : Rounds) (next : Option (ℕ × ℕ)) where
  -- where it wants nothing, none waits
  pub event_ends : event_wanted rounds next ≡ Done → rounds_waiting rounds ≡ 0
  event_ends done = elim (cases_lt most_lines (length rounds.round)) [
    | inl many ↦ many_wait rounds many
    | inr few ↦ none_waits rounds next (event_none rounds next few done)
  ]

  -- so many wait behind the event, where it is a flush
  module _ (few : length rounds.round ≤ most_lines) (later : ℕ) (flushes : (w : Want) → IsFlush rounds next w → later ≡ rounds_waiting (rounds_taken rounds next)) where
    one_more : (w : Want) → IsFlush rounds next w → rounds_waiting rounds + 1 ≤ later
    one_more w f = let on = flush_waits rounds next w few f in let is = flushes w f in omega (arith, on, is)

    pub event_flushes : (line : ℕ) → event_wanted rounds next ≡ Flush line → rounds_waiting rounds + 1 ≤ later
    event_flushes line flush = elim (cases_wanted (rounds_wanted rounds next)) [
      | inl none ↦ absurd (let no : Done ≡ Flush line = sym (event_is rounds next few ∙ ap want_or_done none) ∙ flush in cc)
      | inr some ↦
          let is : some.0 ≡ Flush line = sym (event_of rounds next some.0 few some.1) ∙ flush in
          elim (event_cases rounds next some.0 some.1) [
            | inl s ↦ absurd (let no : Store s.word s.value ≡ Flush line = sym s.wants ∙ is in cc)
            | inr f ↦ elim f [ inl f ↦ one_more some.0 f | inr f ↦ absurd (let no : Fence ≡ Flush line = sym f.wants ∙ is in cc) ]
          ]
    ]

    pub event_keeps : event_wanted rounds next ≢ Fence → rounds_waiting rounds ≤ later
    event_keeps other = elim (cases_wanted (rounds_wanted rounds next)) [
      | inl none ↦ (let e = none_waits rounds next none in omega (arith, e))
      | inr some ↦ elim (event_cases rounds next some.0 some.1) [
        | inl s ↦ (let e = (store_waits rounds next some.0 s).0 in omega (arith, e))
        | inr f ↦ elim f [ inl f ↦ (let more = one_more some.0 f in omega (arith, more)) | inr f ↦ absurd (other (event_of rounds next some.0 few some.1 ∙ f.wants)) ]
      ]
    ]

pub rounds_wait : RoundsWait
rounds_wait = record { begins = refl; few = most_wait; stores = stores_wait; flushes = flushes_wait; fences = fences_wait; ends = none_waits }
