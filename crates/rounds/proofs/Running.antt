-- All stores of a list are made in rounds.
use Rattle.std.proofs.Common.{◌≡◌, ℕ, zero, suc, ◌+◌, ◌<◌, ◌≤◌, inl, inr, Bool, true, false, cond, None, Some, List, [], ◌∷◌, length, drop, refl, sym, ap, ◌∙◌, subst, arith}
use Rattle.std.specs.Prelude.{nat_lt, slice_index}
use Rattle.std.proofs.lemmas.Bool.{cases_Bool, cases_lt, lt-ltb, le-ltb}
use Rattle.std.proofs.lemmas.List.{drop_more, drop_all}
use Rattle.std.proofs.lemmas.Option.{none-some, same_Some}
use Rattle.trace.specs.Events.{line_of}
use Rattle.op_core.specs.declared.want.Want.{Want}
use Rattle.op_core.specs.declared.want.Want.TheVariants.{Store, Flush, Fence}
use Rattle.whole_segment.specs.Rounds.{Deed, takes, touched, ends_round, rounds, Settles}
use Rattle.whole_segment.specs.Rounds.Deed.{Stores, Flushes, Fences}
use Rattle.whole_segment.proofs.Settling.{settles}
use Rattle.rounds.specs.declared.rounds.RoundStep.{RoundStep}
use Rattle.rounds.specs.declared.rounds.RoundStep.TheVariants.{Storing, Flushing, Fencing}
use Rattle.rounds.specs.declared.rounds.Rounds.{Rounds}
use Rattle.rounds.specs.Steps.{at_step, begun, has_room, flushed_to, rounds_stores, rounds_wanted, rounds_taken}
use Rattle.rounds.specs.Events.{IsStore, IsFlush, IsFence}
use Rattle.rounds.specs.Runs.{next_of, rest_by, Runs, deed_by, deeds_of, stored_by, stored_of, lines_of}
use Rattle.rounds.specs.Left.{rounds_left}
use Rattle.rounds.specs.Laws.{RoundsRun}
use Rattle.rounds.proofs.Events.{event_cases, events_end, none_stored, cases_wanted}
use Rattle.rounds.proofs.Falling.{rounds_fall}

-- ---- the deeds that are left
-- where the lines from this one on are to be flushed
abbrev flushing_deeds : List ℕ → ℕ → List Deed → List Deed
flushing_deeds lines i after = cond (nat_lt i (length lines)) (ends_round (drop i lines) after) (Fences ∷ after)

abbrev deeds_at : List ℕ → RoundStep → List ℕ → List Deed
deeds_at lines Storing stores = rounds lines stores
deeds_at lines (Flushing i) stores = flushing_deeds lines i (rounds [] stores)
deeds_at lines Fencing stores = Fences ∷ rounds [] stores

abbrev deeds_left : Rounds → List ℕ → List Deed
deeds_left r stores = deeds_at r.round r.step stores

-- ---- a flush
module _ (lines : List ℕ) (i : ℕ) (low : i < length lines) where
  abbrev line : ℕ
  line = slice_index lines i

  -- of the last line, and of one before it
  last_flushed : (after : List Deed) → length lines ≤ i + 1 → ends_round (drop i lines) after ≡ Flushes line ∷ (Fences ∷ after)
  last_flushed after last = ap (λ (l : List ℕ). ends_round l after) (drop_more lines i 0 low ∙ ap (λ (l : List ℕ). line ∷ l) (drop_all (i + 1) lines last))

  one_flushed : (after : List Deed) → i + 1 < length lines → ends_round (drop i lines) after ≡ Flushes line ∷ ends_round (drop (i + 1) lines) after
  one_flushed after more =
      let rest = drop_more lines (i + 1) 0 more in
      ap (λ (l : List ℕ). ends_round l after) (drop_more lines i 0 low ∙ ap (λ (l : List ℕ). line ∷ l) rest) ∙ ap (λ (l : List ℕ). Flushes line ∷ ends_round l after) (sym rest)

  flush_deeds : (stores : List ℕ) → ends_round (drop i lines) (rounds [] stores) ≡ Flushes line ∷ deeds_at lines (flushed_to lines i) stores
  flush_deeds stores = elim (cases_lt (i + 1) (length lines)) [
    | inl more ↦
        let test = lt-ltb (i + 1) (length lines) more in
        one_flushed (rounds [] stores) more ∙ ap (λ (d : List Deed). Flushes line ∷ d) (sym (
        ap (λ b. deeds_at lines (cond b (Flushing (i + 1)) Fencing) stores) test ∙ ap (λ b. cond b (ends_round (drop (i + 1) lines) (rounds [] stores)) (Fences ∷ rounds [] stores)) test))
    | inr last ↦ last_flushed (rounds [] stores) last ∙ ap (λ (d : List Deed). Flushes line ∷ d)
        (sym (ap (λ b. deeds_at lines (cond b (Flushing (i + 1)) Fencing) stores) (le-ltb (i + 1) (length lines) last)))
  ]

-- a round that takes no store comes to its end, and the next one begins
ends_now : (lines : List ℕ) (stores : List (ℕ × ℕ)) → has_room lines (next_of stores) ≡ false → rounds lines (lines_of stores) ≡ ends_round lines (rounds [] (lines_of stores))
ends_now lines [] room = refl
ends_now lines (store ∷ stores) room =
    ap (λ b. cond b (Stores (line_of store.0) ∷ rounds (touched lines (line_of store.0)) (lines_of stores))
    (ends_round lines (Stores (line_of store.0) ∷ rounds (line_of store.0 ∷ []) (lines_of stores)))) room

-- ---- one event
module _ (r : Rounds) (stores : List (ℕ × ℕ)) (want : Want) where
  abbrev after : Rounds
  after = rounds_taken r (next_of stores)

  abbrev rest : List (ℕ × ℕ)
  rest = rest_by (rounds_stores r (next_of stores)) stores

  -- the deeds that are left, by the sort of the event
  deeds_by : (what : Want) (then : Rounds) (stored : Bool) → want ≡ what → after ≡ then → rounds_stores r (next_of stores) ≡ stored
      → deed_by what (deeds_left then (lines_of (rest_by stored stores))) ≡ deed_by want (deeds_left after (lines_of rest))
  deeds_by what then stored is leaves stores_is =
      ap (λ (w : Want). deed_by w (deeds_left then (lines_of (rest_by stored stores)))) (sym is)
      ∙ ap (λ (t : Rounds). deed_by want (deeds_left t (lines_of (rest_by stored stores)))) (sym leaves)
      ∙ ap (λ b. deed_by want (deeds_left after (lines_of (rest_by b stores)))) (sym stores_is)

  flush_step : IsFlush r (next_of stores) want → deeds_left r (lines_of stores) ≡ deed_by want (deeds_left after (lines_of rest))
  flush_step f = elim f.step [
    | inl first ↦
        ap (λ (t : RoundStep). deeds_at r.round t (lines_of stores)) first.0
        ∙ ends_now r.round stores (subst (λ (t : RoundStep). rounds_stores (at_step r.round t) (next_of stores) ≡ false) first.0 f.stores)
        ∙ ap (λ i. ends_round (drop i r.round) (rounds [] (lines_of stores))) (sym first.1)
        ∙ all
    | inr more ↦
        ap (λ (t : RoundStep). deeds_at r.round t (lines_of stores)) more
        ∙ ap (λ b. cond b (ends_round (drop f.number r.round) (rounds [] (lines_of stores))) (Fences ∷ rounds [] (lines_of stores))) (lt-ltb f.number (length r.round) f.low)
        ∙ all
  ]
    where
      all : ends_round (drop f.number r.round) (rounds [] (lines_of stores)) ≡ deed_by want (deeds_left after (lines_of rest))
      all = flush_deeds r.round f.number f.low (lines_of stores)
          ∙ deeds_by (Flush (slice_index r.round f.number)) (at_step r.round (flushed_to r.round f.number)) false f.wants f.leaves f.stores

  fence_step : IsFence r (next_of stores) want → deeds_left r (lines_of stores) ≡ deed_by want (deeds_left after (lines_of rest))
  fence_step f = elim f.step [
    | inl fencing ↦ ap (λ (t : RoundStep). deeds_at r.round t (lines_of stores)) fencing ∙ deeds_by Fence begun false f.wants f.leaves f.stores
    | inr past ↦
        ap (λ (t : RoundStep). deeds_at r.round t (lines_of stores)) past.1
        ∙ ap (λ b. cond b (ends_round (drop past.0 r.round) (rounds [] (lines_of stores))) (Fences ∷ rounds [] (lines_of stores))) (le-ltb past.0 (length r.round) past.2)
        ∙ deeds_by Fence begun false f.wants f.leaves f.stores
  ]

-- the store of the first of them
module _ (r : Rounds) (store : ℕ × ℕ) (stores : List (ℕ × ℕ)) (want : Want) (s : IsStore r (Some store) want) where
  is_first : (s.word, s.value) ≡ store
  is_first = sym (same_Some _ _ s.comes)

  first_wanted : want ≡ Store store.0 store.1
  first_wanted = s.wants ∙ ap (λ (p : ℕ × ℕ). Store p.0 p.1) is_first

  first_step : deeds_left r (lines_of (store ∷ stores))
      ≡ deed_by want (deeds_left (rounds_taken r (Some store)) (lines_of (rest_by (rounds_stores r (Some store)) (store ∷ stores))))
  first_step =
      ap (λ (t : RoundStep). deeds_at r.round t (lines_of (store ∷ stores))) s.step
      ∙ ap (λ b. cond b (Stores (line_of store.0) ∷ rounds (touched r.round (line_of store.0)) (lines_of stores))
      (ends_round r.round (Stores (line_of store.0) ∷ rounds (line_of store.0 ∷ []) (lines_of stores))))
      (subst (λ (p : ℕ × ℕ). takes r.round (line_of p.0) ≡ true) is_first s.takes)
      ∙ deeds_by r (store ∷ stores) want (Store store.0 store.1) (at_step (touched r.round (line_of store.0)) Storing) true first_wanted
      (subst (λ (p : ℕ × ℕ). rounds_taken r (Some store) ≡ at_step (touched r.round (line_of p.0)) Storing) is_first s.leaves) s.stores

  first_stored : stored_by want (rest_by (rounds_stores r (Some store)) (store ∷ stores)) ≡ store ∷ stores
  first_stored = ap (λ (w : Want). stored_by w (rest_by (rounds_stores r (Some store)) (store ∷ stores))) first_wanted
      ∙ ap (λ b. store ∷ rest_by b (store ∷ stores)) s.stores

-- ---- the step of each event
module _ (r : Rounds) (want : Want) where
  deeds_step : (stores : List (ℕ × ℕ)) → rounds_wanted r (next_of stores) ≡ Some want
      → deeds_left r (lines_of stores) ≡ deed_by want (deeds_left (rounds_taken r (next_of stores)) (lines_of (rest_by (rounds_stores r (next_of stores)) stores)))
  deeds_step stores e = elim (event_cases r (next_of stores) want e) [
    | inl s ↦ by_store stores s
    | inr f ↦ elim f [ inl f ↦ flush_step r stores want f | inr f ↦ fence_step r stores want f ]
  ]
    where
      by_store : (stores : List (ℕ × ℕ)) → IsStore r (next_of stores) want
          → deeds_left r (lines_of stores) ≡ deed_by want (deeds_left (rounds_taken r (next_of stores)) (lines_of (rest_by (rounds_stores r (next_of stores)) stores)))
      by_store [] s = absurd (none-some _ s.comes)
      by_store (store ∷ stores) s = first_step r store stores want s

  stored_step : (stores : List (ℕ × ℕ)) → rounds_wanted r (next_of stores) ≡ Some want → stored_by want (rest_by (rounds_stores r (next_of stores)) stores) ≡ stores
  stored_step stores e = elim (event_cases r (next_of stores) want e) [
    | inl s ↦ by_store stores s
    | inr f ↦ elim f [
      | inl f ↦ ap (λ (w : Want). stored_by w (rest_by (rounds_stores r (next_of stores)) stores)) f.wants ∙ ap (λ b. rest_by b stores) f.stores
      | inr f ↦ ap (λ (w : Want). stored_by w (rest_by (rounds_stores r (next_of stores)) stores)) f.wants ∙ ap (λ b. rest_by b stores) f.stores
    ]
  ]
    where
      by_store : (stores : List (ℕ × ℕ)) → IsStore r (next_of stores) want → stored_by want (rest_by (rounds_stores r (next_of stores)) stores) ≡ stores
      by_store [] s = absurd (none-some _ s.comes)
      by_store (store ∷ stores) s = first_stored r store stores want s

  -- fewer events are left
  left_step : (stores : List (ℕ × ℕ)) → rounds_wanted r (next_of stores) ≡ Some want
      → rounds_left (rounds_taken r (next_of stores)) (length (rest_by (rounds_stores r (next_of stores)) stores)) < rounds_left r (length stores)
  left_step stores e = elim (cases_Bool (rounds_stores r (next_of stores))) [
    | inl on ↦ by_store stores on
    | inr off ↦ subst (λ b. rounds_left (rounds_taken r (next_of stores)) (length (rest_by b stores)) < rounds_left r (length stores)) (sym off)
        (rounds_fall.others r (next_of stores) (length stores) (λ none. none-some _ (sym none ∙ e)) off)
  ]
    where
      by_store : (stores : List (ℕ × ℕ)) → rounds_stores r (next_of stores) ≡ true
          → rounds_left (rounds_taken r (next_of stores)) (length (rest_by (rounds_stores r (next_of stores)) stores)) < rounds_left r (length stores)
      by_store [] on = absurd (none_stored r on)
      by_store (store ∷ stores) on = subst (λ b. rounds_left (rounds_taken r (Some store)) (length (rest_by b (store ∷ stores))) < rounds_left r (suc (length stores))) (sym on)
          (rounds_fall.stores r (Some store) (length stores) on)

-- ---- all events
run_deeds : (wants : List Want) (r : Rounds) (stores : List (ℕ × ℕ)) → Runs r stores wants → deeds_of wants ≡ deeds_left r (lines_of stores)
run_deeds [] r [] runs = ap (λ (r : Rounds). deeds_left r []) (sym (events_end r None runs).0)
run_deeds [] r (store ∷ stores) runs = absurd (none-some _ (sym (events_end r (Some store) runs).1))
run_deeds (want ∷ wants) r stores runs =
    ap (deed_by want) (run_deeds wants (rounds_taken r (next_of stores)) (rest_by (rounds_stores r (next_of stores)) stores) runs.1) ∙ sym (deeds_step r want stores runs.0)

run_stored : (wants : List Want) (r : Rounds) (stores : List (ℕ × ℕ)) → Runs r stores wants → stored_of wants ≡ stores
run_stored [] r [] runs = refl
run_stored [] r (store ∷ stores) runs = absurd (none-some _ (sym (events_end r (Some store) runs).1))
run_stored (want ∷ wants) r stores runs =
    ap (stored_by want) (run_stored wants (rounds_taken r (next_of stores)) (rest_by (rounds_stores r (next_of stores)) stores) runs.1) ∙ stored_step r want stores runs.0

run_length : (wants : List Want) (r : Rounds) (stores : List (ℕ × ℕ)) → Runs r stores wants → length wants ≤ rounds_left r (length stores)
run_length [] r stores runs = omega arith
run_length (want ∷ wants) r stores runs =
    let more = run_length wants (rounds_taken r (next_of stores)) (rest_by (rounds_stores r (next_of stores)) stores) runs.1 in
    let falls = left_step r want stores runs.0 in
    omega (arith, more, falls)

-- there are such events
runs_from : (n : ℕ) (r : Rounds) (stores : List (ℕ × ℕ)) → rounds_left r (length stores) ≤ n → (wants : List Want) × Runs r stores wants
runs_from zero r stores low = elim (cases_wanted (rounds_wanted r (next_of stores))) [
  | inl none ↦ ([], none)
  | inr some ↦ (let falls = left_step r some.0 stores some.1 in absurd (omega (arith, falls, low)))
]
runs_from (suc n) r stores low = elim (cases_wanted (rounds_wanted r (next_of stores))) [
  | inl none ↦ ([], none)
  | inr some ↦
      let falls = left_step r some.0 stores some.1 in
      let more = runs_from n (rounds_taken r (next_of stores)) (rest_by (rounds_stores r (next_of stores)) stores) (omega (arith, falls, low)) in
      (some.0 ∷ more.0, (some.1, more.1))
]

pub rounds_run : RoundsRun
rounds_run = record {
  run = λ stores. runs_from (rounds_left begun (length stores)) begun stores (omega arith);
  deeds = λ stores wants runs. run_deeds wants begun stores runs;
  stored = λ stores wants runs. run_stored wants begun stores runs;
  settles = λ stores wants runs. subst (Settles (lines_of stores)) (sym (run_deeds wants begun stores runs)) (settles (lines_of stores));
  length = λ stores wants runs. (let most = run_length wants begun stores runs in let all = rounds_fall.begins (length stores) in omega (arith, most, all));
}
