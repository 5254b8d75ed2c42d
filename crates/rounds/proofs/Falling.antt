-- Fewer events are left after each.
use Rattle.std.proofs.Common.{◌≡◌, ◌≢◌, ℕ, suc, ◌+◌, ◌-◌, ◌*◌, ◌<◌, ◌≤◌, inl, inr, true, false, cond, Option, None, List, [], ◌∷◌, ◌++◌, length, sym, ap, ◌∙◌, arith, length-append}
use Rattle.std.proofs.lemmas.Bool.{cases_Bool, cases_lt, lt-ltb, le-ltb, true≢false}
use Rattle.op_core.specs.declared.want.Want.{Want}
use Rattle.op_core.specs.declared.want.Want.TheVariants.{Store}
use Rattle.trace.specs.Events.{line_of}
use Rattle.whole_segment.specs.Rounds.{most_lines, ends_with, touched}
use Rattle.rounds.specs.declared.rounds.RoundStep.{RoundStep}
use Rattle.rounds.specs.declared.rounds.RoundStep.TheVariants.{Storing, Flushing, Fencing}
use Rattle.rounds.specs.declared.rounds.Rounds.{Rounds}
use Rattle.rounds.specs.Steps.{at_step, begun, flushed_to, rounds_stores, rounds_wanted, rounds_taken}
use Rattle.rounds.specs.Events.{IsStore, IsFlush, IsFence}
use Rattle.rounds.specs.Left.{round_left, left_at, rounds_left, few_left}
use Rattle.rounds.specs.Laws.{RoundsFall}
use Rattle.rounds.proofs.Events.{event_cases, some_store, cases_wanted}

-- ---- what a round has left
module _ (lines : List ℕ) where
  left_some : 0 < length lines → round_left lines ≡ length lines + 1
  left_some low = ap (λ b. cond b (length lines + 1) 0) (lt-ltb 0 (length lines) low)

  left_least : length lines ≤ round_left lines
  left_least = elim (cases_lt 0 (length lines)) [ inl low ↦ (let e = left_some low in omega (arith, e)) | inr none ↦ omega (arith, none) ]

  pub left_most : round_left lines ≤ length lines + 1
  left_most = elim (cases_lt 0 (length lines)) [
    | inl low ↦ (let e = left_some low in omega (arith, e))
    | inr none ↦ (let e = ap (λ b. cond b (length lines + 1) 0) (le-ltb 0 (length lines) none) in omega (arith, e))
  ]

  touched_most : (line : ℕ) → length (touched lines line) ≤ length lines + 1
  touched_most line = elim (cases_Bool (ends_with lines line)) [
    | inl on ↦ (let e = ap (λ b. length (cond b lines (lines ++ line ∷ []))) on in omega (arith, e))
    | inr off ↦ (let e = ap (λ b. length (cond b lines (lines ++ line ∷ []))) off in let more = length-append lines (line ∷ []) in omega (arith, e, more))
  ]

  -- behind a flush
  flushed_left : (i : ℕ) → i < length lines → left_at lines (flushed_to lines i) ≤ length lines - i
  flushed_left i low = elim (cases_lt (i + 1) (length lines)) [
    | inl more ↦ (let e = ap (λ b. left_at lines (cond b (Flushing (i + 1)) Fencing)) (lt-ltb (i + 1) (length lines) more) in omega (arith, e, more, low))
    | inr last ↦ (let e = ap (λ b. left_at lines (cond b (Flushing (i + 1)) Fencing)) (le-ltb (i + 1) (length lines) last) in omega (arith, e, last, low))
  ]

-- of no more lines than a round may touch
pub step_most : (lines : List ℕ) → length lines ≤ most_lines → (step : RoundStep) → left_at lines step ≤ most_lines + 1
step_most lines few Storing = let most = left_most lines in omega (arith, most, few)
step_most lines few (Flushing i) = omega (arith, few)
step_most lines few Fencing = omega arith

-- ---- each event
module _ (rounds : Rounds) (next : Option (ℕ × ℕ)) (want : Want) (stores : ℕ) where
  left_by : (after : Rounds) → rounds_taken rounds next ≡ after → rounds_left (rounds_taken rounds next) stores ≡ rounds_left after stores
  left_by after e = ap (λ (r : Rounds). rounds_left r stores) e

  left_step : (step : RoundStep) → rounds.step ≡ step → rounds_left rounds stores ≡ 3 * stores + left_at rounds.round step
  left_step step e = ap (λ (t : RoundStep). 3 * stores + left_at rounds.round t) e

  store_falls : IsStore rounds next want → rounds_left (rounds_taken rounds next) stores < rounds_left rounds (suc stores)
  store_falls s =
      let after = left_by (at_step (touched rounds.round (line_of s.word)) Storing) s.leaves in
      let before = ap (λ (t : RoundStep). 3 * suc stores + left_at rounds.round t) s.step in
      let few = touched_most rounds.round (line_of s.word) in
      let most = left_most (touched rounds.round (line_of s.word)) in
      let least = left_least rounds.round in
      omega (arith, after, before, few, most, least)

  flush_falls : IsFlush rounds next want → rounds_left (rounds_taken rounds next) stores < rounds_left rounds stores
  flush_falls f =
      let low = f.low in
      let after = left_by (at_step rounds.round (flushed_to rounds.round f.number)) f.leaves in
      let fewer = flushed_left rounds.round f.number f.low in
      elim f.step [
        | inl first ↦ (let before = left_step Storing first.0 in let zero = first.1 in let some = left_some rounds.round (omega (arith, low)) in omega (arith, after, fewer, before, zero, some, low))
        | inr more ↦ (let before = left_step (Flushing f.number) more in omega (arith, after, fewer, before, low))
      ]

  fence_falls : IsFence rounds next want → rounds_left (rounds_taken rounds next) stores < rounds_left rounds stores
  fence_falls f =
      let after = left_by begun f.leaves in
      elim f.step [
        | inl fencing ↦ (let before = left_step Fencing fencing in omega (arith, after, before))
        | inr past ↦ (let before = left_step (Flushing past.0) past.1 in omega (arith, after, before))
      ]

stores_fall : (rounds : Rounds) (next : Option (ℕ × ℕ)) (stores : ℕ) → rounds_stores rounds next ≡ true → rounds_left (rounds_taken rounds next) stores < rounds_left rounds (suc stores)
stores_fall rounds next stores is =
    let s = some_store rounds next is in
    let want : Want = Store s.0 s.1 in
    elim (event_cases rounds next want s.2) [
      | inl store ↦ store_falls rounds next want stores store
      | inr f ↦ elim f [ inl f ↦ absurd (true≢false (sym is ∙ f.stores)) | inr f ↦ absurd (true≢false (sym is ∙ f.stores)) ]
    ]

others_fall : (rounds : Rounds) (next : Option (ℕ × ℕ)) (stores : ℕ) → rounds_wanted rounds next ≢ None → rounds_stores rounds next ≡ false
    → rounds_left (rounds_taken rounds next) stores < rounds_left rounds stores
others_fall rounds next stores some other = elim (cases_wanted (rounds_wanted rounds next)) [
  | inl none ↦ absurd (some none)
  | inr want ↦ elim (event_cases rounds next want.0 want.1) [
    | inl s ↦ absurd (true≢false (sym s.stores ∙ other))
    | inr f ↦ elim f [ inl f ↦ flush_falls rounds next want.0 stores f | inr f ↦ fence_falls rounds next want.0 stores f ]
  ]
]

-- ---- of a machine that is in its rounds
module _ (rounds : Rounds) (left : ℕ) where
  pub few_is : length rounds.round ≤ most_lines → few_left rounds left ≡ left
  few_is few = ap (λ b. cond b 0 left) (le-ltb most_lines (length rounds.round) few)

  pub few_most : (most : ℕ) → (length rounds.round ≤ most_lines → left ≤ most) → few_left rounds left ≤ most
  few_most most low = elim (cases_lt most_lines (length rounds.round)) [
    | inl many ↦ (let none = ap (λ b. cond b 0 left) (lt-ltb most_lines (length rounds.round) many) in omega (arith, none))
    | inr few ↦ (let is = few_is few in let all = low few in omega (arith, is, all))
  ]

  pub few_below : few_left rounds left ≤ left
  few_below = few_most left (λ few. omega arith)

pub fewer_stores : (rounds : Rounds) (n m : ℕ) → n ≤ m → rounds_left rounds n ≤ rounds_left rounds m
fewer_stores rounds n m low = omega (arith, low)

pub few_less : (rounds : Rounds) (less left : ℕ) → less ≤ left → few_left rounds less ≤ few_left rounds left
few_less rounds less left low = few_most rounds less (few_left rounds left) (λ few. let is = few_is rounds left few in omega (arith, is, low))

pub rounds_fall : RoundsFall
rounds_fall = record { begins = λ stores. omega arith; stores = stores_fall; others = others_fall }
