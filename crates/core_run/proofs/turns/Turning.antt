-- A turn of the end rule: it is over where the caller has no event left, where its attempt ends with its reply or in Again, and where the caller waits
-- for the guard of the directory. And a round: a turn of each caller.
use Rattle.std.proofs.Common.{◌≡◌, ℕ, zero, suc, ◌+◌, ◌≤◌, inl, inr, ◌⊎◌, Bool, true, false, Some, List, [], ◌∷◌, length, refl, sym, ◌∙◌, ap, subst, arith}
use Rattle.std.specs.Prelude.{if◌then◌else◌}
use Rattle.std.proofs.lemmas.Bool.{or_cases}
use Rattle.image_layout.specs.Places.{Shape}
use Rattle.op_core.specs.declared.want.Want.TheVariants as want
use Rattle.engine.specs.Engine.{wanted}
use Rattle.engine.specs.Core.{Caller, Core}
use Rattle.engine.specs.Causes.{Watched}
use Rattle.core_run.specs.declared.goal.Goal.{Goal}
use Rattle.core_run.specs.declared.goal.Goal.TheVariants.{Turn}
use Rattle.core_run.specs.State.{State, Deed}
use Rattle.core_run.specs.Run.{counts, ends_call, ends_in_again, stops, by_deed, drive, round}
use Rattle.core_run.specs.Running.{Setup, IsSetup, IsOpen, DeedsAreWell}
use Rattle.core_run.specs.Ends.{IsRun, most_of, DrivesAreEnough}
use Rattle.core_run.proofs.ends.Choices.{either}
use Rattle.core_run.proofs.ends.Stopping.{stays_there}
use Rattle.core_run.proofs.turns.Stepping.{at, at_is, HasEvent, IsIdle, Leads, EndsAt, event_or_idle, idle_none, core_after, its_deed, deed_is, open_after, longer, ended_or_goes_on, next, after}

-- with nothing more to count a caller stops
drive_none : (shape : Shape) (m c : ℕ) (goal : Goal) (s : State) → drive shape m c goal 0 s ≡ s
drive_none shape zero c goal s = refl
drive_none shape (suc m) c goal s = refl

-- with events enough one more changes nothing
pub enough_events : DrivesAreEnough → (t : Setup) → IsSetup t → (most : ℕ) → most_of t ≤ most → (c : ℕ) (core : Core) (Q : Watched → Type 0) → IsOpen t core → Leads t core Q
    → drive t.shape (suc most) c Turn 1 (at core) ≡ drive t.shape most c Turn 1 (at core)
enough_events enough t is most low c core Q o h =
    let run : IsRun t (at core) = record { running = o; along = record { turns = h.turns; core_is = h.core_is } } in
    enough t (suc most) c Turn 1 (at core) is (omega (arith, low)) run ∙ sym (enough t most c Turn 1 (at core) is low run)

module _ (t : Setup) (j : ℕ) where
  -- AN EVENT ENDS THE TURN: the attempt has ended, with its reply or in Again, or the caller waits
  pub data IsOver (core : Core) (v : HasEvent core j) : Type 0 where
    over_told : wanted (next t core j v) ≡ want.Done → ends_call (its_deed t core j v).end ≡ true → IsOver core v
    over_again : wanted (next t core j v) ≡ want.Done → ends_in_again (its_deed t core j v).end ≡ true → IsOver core v
    over_waits : (its_deed t core j v).waits ≡ true → ((wanted (next t core j v) ≡ want.Done) ⊎ ((after t core j v).engine ≡ Some (next t core j v))) → IsOver core v

  module _ (core : Core) (v : HasEvent core j) where
    abbrev d : Deed
    d = its_deed t core j v

    told_over : ends_call d.end ≡ true → IsOver core v
    told_over told = elim (ended_or_goes_on t core j v) [
      | inl done ↦ over_told done told
      | inr on ↦ absurd (let no : false ≡ true = ap ends_call (sym on.1) ∙ told in cc)
    ]

    stop_over : stops Turn d ≡ true → IsOver core v
    stop_over stop = elim (or_cases (ends_in_again d.end) d.waits stop) [
      | inl again ↦ elim (ended_or_goes_on t core j v) [
        | inl done ↦ over_again done again
        | inr on ↦ absurd (let no : false ≡ true = ap ends_in_again (sym on.1) ∙ again in cc)
      ]
      | inr waits ↦ over_waits waits (elim (ended_or_goes_on t core j v) [ inl done ↦ inl done | inr on ↦ inr on.0 ])
    ]

  -- ---- what holds of the core from event to event, and at the end of the turn
  module _ (is : IsSetup t) (wells : DeedsAreWell) (Goes Ends : Core → Type 0)
      (idle : (core : Core) → IsOpen t core → Goes core → IsIdle core j → Ends core)
      (over : (core : Core) → IsOpen t core → Goes core → (v : HasEvent core j) → IsOver core v → Ends (core_after t core j v))
      (on : (core : Core) → IsOpen t core → Goes core → (v : HasEvent core j) → ends_call (its_deed t core j v).end ≡ false → Goes (core_after t core j v)) where
    -- where one more event would change nothing
    abbrev TurnEnds : ℕ → Type 0
    TurnEnds m = (core : Core) → IsOpen t core → Goes core → drive t.shape (suc m) (suc j) Turn 1 (at core) ≡ drive t.shape m (suc j) Turn 1 (at core)
        → EndsAt t Ends (drive t.shape m (suc j) Turn 1 (at core))

    module _ (core : Core) (o : IsOpen t core) (g : Goes core) (v : HasEvent core j) where
      -- there would be one
      some_more : drive t.shape 1 (suc j) Turn 1 (at core) ≡ at core → ⊥
      some_more same =
          let one : State = by_deed Turn (Some (d core v)) (at core) (λ x. drive t.shape 0 (suc j) Turn (if counts Turn x then 0 else 1) x.state) in
          let is_one : one ≡ at core = subst (λ q. by_deed Turn q (at core) (λ x. drive t.shape 0 (suc j) Turn (if counts Turn x then 0 else 1) x.state) ≡ at core) (deed_is t core j v) same in
          let more : length one.core.trace ≡ suc (length core.trace)
          = either (λ (x : State). length x.core.trace ≡ suc (length core.trace)) (stops Turn (d core v)) (d core v).state (d core v).state (longer t core j v) (longer t core j v) in
          let fewer : length one.core.trace ≡ length core.trace = ap (λ (x : State). length x.core.trace) is_one in
          omega (arith, more, fewer)

      -- behind an event: the turn is over, or goes on
      abbrev after_event : ℕ → Bool → Bool → State
      after_event m stop told = if stop then (d core v).state else drive t.shape m (suc j) Turn (if told then 0 else 1) (d core v).state

      goes : (m : ℕ) → TurnEnds m → (stop told : Bool) → stops Turn (d core v) ≡ stop → ends_call (d core v).end ≡ told
          → after_event (suc m) stop told ≡ after_event m stop told → EndsAt t Ends (after_event m stop told)
      goes m rest true told stops tells same = record { still_open = refl; opened = open_after t core j v is wells o; good = over core o g v (stop_over core v stops) }
      goes m rest false true stops tells same = subst (EndsAt t Ends) (sym (drive_none t.shape m (suc j) Turn (d core v).state))
          (record { still_open = refl; opened = open_after t core j v is wells o; good = over core o g v (told_over core v tells) })
      goes m rest false false stops tells same = rest (core_after t core j v) (open_after t core j v is wells o) (on core o g v tells) same

      event_ends : (m : ℕ) → TurnEnds m → drive t.shape (suc (suc m)) (suc j) Turn 1 (at core) ≡ drive t.shape (suc m) (suc j) Turn 1 (at core)
          → EndsAt t Ends (drive t.shape (suc m) (suc j) Turn 1 (at core))
      event_ends m rest same =
          subst (λ q. EndsAt t Ends (by_deed Turn q (at core) (λ x. drive t.shape m (suc j) Turn (if counts Turn x then 0 else 1) x.state))) (sym (deed_is t core j v))
          (goes m rest (stops Turn (d core v)) (ends_call (d core v).end) refl refl
          (subst (λ q. by_deed Turn q (at core) (λ x. drive t.shape (suc m) (suc j) Turn (if counts Turn x then 0 else 1) x.state)
          ≡ by_deed Turn q (at core) (λ x. drive t.shape m (suc j) Turn (if counts Turn x then 0 else 1) x.state)) (deed_is t core j v) same))

    stays : (m : ℕ) (core : Core) → IsOpen t core → Goes core → IsIdle core j → EndsAt t Ends (drive t.shape m (suc j) Turn 1 (at core))
    stays m core o g none = subst (EndsAt t Ends) (sym (stays_there t.shape Turn (suc j) m 1 (at core) (idle_none t core j (λ c there. (none c there).1))))
        (record { still_open = refl; opened = o; good = idle core o g none })

    pub turn_ends : (m : ℕ) → TurnEnds m
    turn_ends zero core o g same = elim (event_or_idle t core o j) [
      | inl v ↦ absurd (some_more core o g v same)
      | inr none ↦ stays zero core o g none
    ]
    turn_ends (suc m) core o g same = elim (event_or_idle t core o j) [
      | inl v ↦ event_ends core o g v m (turn_ends m) same
      | inr none ↦ stays (suc m) core o g none
    ]

-- ---- a round, turn by turn
module _ (t : Setup) (most : ℕ) (P : ℕ → Core → Type 0)
    (turn : (j : ℕ) (core : Core) → IsOpen t core → P j core → EndsAt t (P (suc j)) (drive t.shape most (suc j) Turn 1 (at core))) where
  pub round_ends : (callers : List Caller) (j n : ℕ) → length callers + j ≡ n → (core : Core) → IsOpen t core → P j core → EndsAt t (P n) (round t.shape most (suc j) callers (at core))
  round_ends [] j n is core o p = record { still_open = refl; opened = o; good = subst (λ k. P k core) (let same : j ≡ n = omega (arith, is) in same) p }
  round_ends (c ∷ callers) j n is core o p =
      let s : State = drive t.shape most (suc j) Turn 1 (at core) in
      let e = turn j core o p in
      subst (λ x. EndsAt t (P n) (round t.shape most (suc (suc j)) callers x)) (at_is s e.still_open)
      (round_ends callers (suc j) n (omega (arith, is)) s.core e.opened e.good)
