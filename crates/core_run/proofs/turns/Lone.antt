-- Where one caller alone has calls it is alone from the beginning, and all others rest, so each of its turns ends a call.
use Rattle.std.proofs.Common.{◌≡◌, ◌≢◌, ℕ, zero, suc, ◌+◌, ◌≤◌, inl, inr, Option, Some, None, List, [], ◌∷◌, ◌++◌, length, map, option_map, slice_get, refl, sym, ◌∙◌, ap, subst}
use Rattle.std.proofs.lemmas.Bool.{cases_eq}
use Rattle.std.proofs.lemmas.Option.{none-some, same_Some, slice_get-map}
use Rattle.map_model.specs.declared.call.Call.{Call}
use Rattle.engine.specs.Core.{Caller, Core, current, turn_of_call, turn_of_caller}
use Rattle.engine.specs.Causes.{Watched, doings_of_call, doings_of_caller, watched_turn, watched_run, WatchingChangesNothing}
use Rattle.engine.specs.Laws.{CallsAreScripts}
use Rattle.engine.specs.Alone.{IsResting, IsAlone, at_start, along, AllRestAtStart, AloneAtStart}
use Rattle.engine.proofs.attempts.Doing.{one_more_turn}
use Rattle.core_run.specs.State.{State}
use Rattle.core_run.specs.Run.{rounds}
use Rattle.core_run.specs.Running.{Setup, IsSetup, IsOpen}
use Rattle.core_run.specs.Along.{HasTurns, all_behind, behind as behind_of}
use Rattle.core_run.specs.Ends.{most_of}
use Rattle.core_run.specs.Rounds.{turn_of, HasAllCalls, HasAnswered, HasRunOut, OneCallersTurnEndsCall, OneCallersRoundsEnd}
use Rattle.core_run.proofs.turns.Stepping.{at, at_is, HasEvent, Leads, EndsAt, event_or_idle}
use Rattle.core_run.proofs.turns.Standing.{TurnLaws, scripts_are}
use Rattle.core_run.proofs.turns.Resting.{open_of, turns_of}
use Rattle.core_run.proofs.turns.Ending.{StepsAlone, HasEnded, OneFewer, EachEndsCall, call_ends_alone, rounds_run_out}

-- the laws of one caller that are used
pub record LoneLaws : Type 0 where
  pub turns : TurnLaws
  pub rest : AllRestAtStart
  pub alone : AloneAtStart
  pub calls : CallsAreScripts
  pub watching : WatchingChangesNothing

module _ (lone : LoneLaws) (t : Setup) (is : IsSetup t) (j : ℕ) (only : HasAllCalls t j) (most : ℕ) (low : most_of t ≤ most) where
  abbrev after : List ℕ → Watched
  after turns = along t.shape t.first t.scripts turns

  abbrev IsOneStepping : Watched → Type 0
  IsOneStepping w = StepsAlone lone.turns t is most low j w

  -- ---- nobody else has a call
  none_else : (callers : List Caller) → map (λ c. c.calls) callers ≡ t.scripts → (i : ℕ) (c : Caller) → i ≢ j → slice_get callers i ≡ Some c → current c ≡ None
  none_else callers scripts i c other there =
      let calls : slice_get t.scripts i ≡ Some c.calls =
      ap (λ xs. slice_get xs i) (sym scripts) ∙ slice_get-map (λ (x : Caller). x.calls) callers i ∙ ap (option_map (λ (x : Caller). x.calls)) there in
      ap (λ (calls : List Call). slice_get calls (length c.entries)) (only i c.calls other calls)

  scripts_after : (turns : List ℕ) → map (λ c. c.calls) (after turns).core.callers ≡ t.scripts
  scripts_after turns =
      ap (λ (core : Core). map (λ c. c.calls) core.callers) (lone.watching t.shape (at_start t.shape t.first t.scripts) turns)
      ∙ lone.calls t.shape t.first t.scripts turns

  abbrev turned_by : List ℕ → ℕ → Option Caller → Watched
  turned_by turns i caller = record { core = turn_of_caller t.shape i (after turns).core caller; doings = doings_of_caller t.shape i (after turns) caller }

  -- so a turn of anybody else changes nothing
  others_change_nothing : (turns : List ℕ) (i : ℕ) → i ≢ j → watched_turn t.shape (suc i) (after turns) ≡ after turns
  others_change_nothing turns i other = by (slice_get (after turns).core.callers i) refl
    where
      by : (q : Option Caller) → slice_get (after turns).core.callers i ≡ q → watched_turn t.shape (suc i) (after turns) ≡ after turns
      by None there = ap (turned_by turns i) there
      by (Some c) there = ap (turned_by turns i) there ∙ ap (λ (call : Option Call). record {
        core = turn_of_call t.shape i (after turns).core c call c.engine;
        doings = doings_of_call t.shape i (after turns) call c.engine;
      }) (none_else (after turns).core.callers (scripts_after turns) i c other there)

  -- ---- it is alone, and all others rest, whatever turns were taken
  stands_on : (turns : List ℕ) (x : ℕ) → IsOneStepping (after turns) → IsOneStepping (watched_turn t.shape x (after turns))
  stands_on turns zero one = one
  stands_on turns (suc i) one = elim (cases_eq i j) [
    | inl same ↦ record {
      alone = subst (λ n. IsAlone t.shape j (watched_turn t.shape (suc n) (after turns))) (sym same)
          (lone.turns.own t.shape t.first is.served t.scripts (scripts_are t is) turns j one.alone);
      others = λ k other. lone.turns.others t.shape (after turns) k i (λ q. other (q ∙ same)) (one.others k other);
    }
    | inr other ↦ subst IsOneStepping (sym (others_change_nothing turns i other)) one
  ]

  stands_behind : (done turns : List ℕ) → IsOneStepping (after done) → IsOneStepping (watched_run t.shape turns (after done))
  stands_behind done [] one = one
  stands_behind done (x ∷ turns) one =
      let more = one_more_turn t.shape done x (at_start t.shape t.first t.scripts) in
      subst (λ (w : Watched). IsOneStepping (watched_run t.shape turns w)) more
      (stands_behind (done ++ x ∷ []) turns (subst IsOneStepping (sym more) (stands_on done x one)))

  steps_alone : (core : Core) → HasTurns t core → Leads t core (StepsAlone lone.turns t is most low j)
  steps_alone core h = record {
    turns = h.turns;
    core_is = h.core_is;
    holds = stands_behind [] h.turns (record {
      alone = lone.alone t.shape t.first t.scripts j;
      others = λ i other. lone.rest t.shape t.first t.scripts i;
    });
  }

  -- ---- its turn
  turn_ends : (core : Core) → IsOpen t core → HasTurns t core → (v : HasEvent core j)
      → EndsAt t (HasEnded lone.turns t is most low (all_behind core.callers) (behind_of v.caller) j) (turn_of t most (suc j) (at core))
  turn_ends core o h v = call_ends_alone lone.turns t is most low j core o (steps_alone core h) v

  lone_turn : (core : Core) (c : Caller) (call : Call) → IsOpen t core → HasTurns t core → slice_get core.callers j ≡ Some c → current c ≡ Some call
      → HasAnswered j c (at core) (turn_of t most (suc j) (at core))
  lone_turn core c call o h there calls = elim (event_or_idle t core o j) [
    | inl v ↦
        let e = turn_ends core o h v in
        record {
          still_open = e.still_open;
          fewer = e.good.fewer;
          caller = e.good.caller;
          there = e.good.there;
          own = e.good.own ∙ ap behind_of (same_Some v.caller c (sym v.there ∙ there));
        }
    | inr idle ↦ absurd (none-some call (sym (idle c there).1 ∙ calls))
  ]

  -- ---- and each of its turns, in each round
  each_ends : EachEndsCall lone.turns t is most low IsOneStepping
  each_ends k core o h v = elim (cases_eq k j) [
    | inl same ↦ here k same v
    | inr other ↦ absurd (none-some v.call (sym (none_else core.callers o.scripts k v.caller other v.there) ∙ v.calls))
  ]
    where
      here : (k : ℕ) → k ≡ j → HasEvent core k → EndsAt t (OneFewer lone.turns t is most low IsOneStepping (all_behind core.callers)) (turn_of t most (suc k) (at core))
      here k same v =
          let e = turn_ends core o (record { turns = h.turns; core_is = h.core_is }) (subst (HasEvent core) same v) in
          subst (λ n. EndsAt t (OneFewer lone.turns t is most low IsOneStepping (all_behind core.callers)) (turn_of t most (suc n) (at core))) (sym same) (record {
            still_open = e.still_open;
            opened = e.opened;
            good = record {
              leads = steps_alone (turn_of t most (suc j) (at core)).core (record { turns = e.good.leads.turns; core_is = e.good.leads.core_is });
              fewer = e.good.fewer;
            };
          })

pub one_callers_turn : LoneLaws → OneCallersTurnEndsCall
one_callers_turn lone t most j s c call is only low r here there calls =
    subst (λ x. HasAnswered j c x (turn_of t most (suc j) x)) (at_is s here) (lone_turn lone t is j only most low s.core c call (open_of t s here r) (turns_of t s here r) there calls)

pub one_callers_rounds : LoneLaws → OneCallersRoundsEnd
one_callers_rounds lone t most j n s is only low r here few =
    subst (λ x. HasRunOut t most (rounds t.shape most n x)) (at_is s here)
    (rounds_run_out lone.turns t is most low (IsOneStepping lone t is j only most low) (each_ends lone t is j only most low) n s.core (open_of t s here r)
    (steps_alone lone t is j only most low s.core (turns_of t s here r)) few)
