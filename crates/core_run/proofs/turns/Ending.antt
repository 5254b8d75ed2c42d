-- From the third round of the end rule on: where all rest each turn of a caller that has a call left ends that call, and so the calls run out.
use Rattle.std.proofs.Common.{◌≡◌, ◌≢◌, ℕ, zero, suc, ◌+◌, ◌*◌, ◌<◌, ◌≤◌, inl, inr, ◌⊎◌, Bool, true, false, Option, Some, None, List, [], ◌∷◌, length, map, slice_get, refl, sym, ◌∙◌, ap, subst, arith}
use Rattle.std.specs.Prelude.{is_some, if◌then◌else◌}
use Rattle.std.specs.List.{AllByRecursion, AllZip}
use Rattle.std.proofs.lemmas.Bool.{cases_eq}
use Rattle.std.proofs.lemmas.Option.{none-some, same_Some, slice_get_within}
use Rattle.image_layout.specs.Places.{Shape, words_of}
use Rattle.op_core.specs.declared.want.Want.TheVariants as want
use Rattle.op_core.specs.declared.why.Why.{Why}
use Rattle.map_model.specs.declared.call.Call.{Call}
use Rattle.world.specs.Ground.{Ground}
use Rattle.world.specs.Views.{View}
use Rattle.part.specs.Outcomes.{Outcome, again}
use Rattle.engine.specs.declared.engine.Engine.{Engine}
use Rattle.engine.specs.Engine.{wanted, end_of, says_again, is_again}
use Rattle.engine.specs.Core.{Caller, Core, current}
use Rattle.engine.specs.Holding.{DoesCall, CallerFits}
use Rattle.engine.specs.Left.{most_alone, events_of_call}
use Rattle.engine.specs.Causes.{Watched, engine_next, watched_turn}
use Rattle.engine.specs.Alone.{IsResting, IsAlone, along}
use Rattle.core_run.specs.declared.keeper.Keeper.TheVariants.{Open}
use Rattle.core_run.specs.declared.goal.Goal.TheVariants.{Turn}
use Rattle.core_run.specs.State.{State, end_by}
use Rattle.core_run.specs.Run.{ends_call, ends_in_again, has_calls, rounds, all_calls}
use Rattle.core_run.specs.Running.{Setup, IsSetup, site_in, IsOpen}
use Rattle.core_run.specs.Along.{all_behind, behind as behind_of}
use Rattle.core_run.specs.Ends.{IsRun, most_of}
use Rattle.core_run.specs.Rounds.{AllRest, turn_of, one_round, HasAnswered, HasRunOut, TurnEndsCall, TurnOfNone, RoundsEnd, RoundsAreEnough}
use Rattle.core_run.proofs.ends.Calls.{past_calls, has_none}
use Rattle.core_run.proofs.ends.Stopping.{stays_there}
use Rattle.core_run.proofs.ends.Working.{call_two, within_most}
use Rattle.core_run.proofs.turns.Stepping.{at, at_is, HasEvent, Leads, EndsAt, event_or_idle, idle_none, next, after, core_after, its_deed, there_after, as_many, one_fewer, own_as_many, own_fewer, still_calls, is_next, leads_on}
use Rattle.core_run.proofs.turns.Turning.{IsOver, over_told, over_again, over_waits, enough_events, turn_ends, round_ends}
use Rattle.core_run.proofs.turns.Standing.{TurnLaws, scripts_are, rest_is_either, never_waits, other_rests, own_rests}
use Rattle.core_run.proofs.turns.Resting.{open_of, as_many_callers, first_round_rests, second_round_rests}

-- ---- callers without a call
abbrev NoneCalls : List Caller → Type 0
NoneCalls callers = AllByRecursion (λ c. current c ≡ None) callers

none_behind : (callers : List Caller) → NoneCalls callers → all_behind callers ≡ 0
none_behind [] none = refl
none_behind (c ∷ callers) none = let first = past_calls c none.0 in let rest = none_behind callers none.1 in omega (arith, first, rest)

none_run : (site : Ground) (callers : List Caller) (views : List View) → AllZip (CallerFits site) callers views → NoneCalls callers → AllByRecursion (λ c. c.engine ≡ None) callers
none_run site [] views fits none = tt
none_run site (c ∷ callers) [] fits none = absurd fits
none_run site (c ∷ callers) (v ∷ views) fits none = (by c.engine refl fits.0.does, none_run site callers views fits.1 none.1)
  where
    by : (q : Option Engine) → c.engine ≡ q → DoesCall site c q v → c.engine ≡ None
    by None runs does = runs
    by (Some e) runs does = absurd (none-some does.call (sym none.0 ∙ does.is_current))

module _ (shape : Shape) (most : ℕ) where
  none_call : (callers : List Caller) → has_calls shape most callers ≡ false → NoneCalls callers
  none_call [] none = tt
  none_call (c ∷ callers) none = by (none_call callers) (current c) refl none
    where
      by : (has_calls shape most callers ≡ false → NoneCalls callers) → (q : Option Call) → current c ≡ q → (if is_some q then true else has_calls shape most callers) ≡ false
          → (current c ≡ None) × NoneCalls callers
      by rest None is none = (is, rest none)
      by rest (Some call) is none = absurd (let no : true ≡ false = none in cc)

none_at : (callers : List Caller) → ((i : ℕ) (c : Caller) → slice_get callers i ≡ Some c → current c ≡ None) → NoneCalls callers
none_at [] none = tt
none_at (c ∷ callers) none = (none 0 c refl, none_at callers (λ i d there. none (suc i) d there))

-- who is not told to try again does not say so
says_no : (o : Outcome) → ((why : Why) → o ≡ again why → ⊥) → says_again (Some o) ≡ false
says_no (again why) never = absurd (never why refl)
says_no o never = refl

module _ (laws : TurnLaws) (t : Setup) (is : IsSetup t) (most : ℕ) (low : most_of t ≤ most) where
  -- ---- the turn of a caller with a call
  abbrev pub AllResting : Watched → Type 0
  AllResting w = (i : ℕ) → IsResting w i

  pub record StepsAlone (k : ℕ) (w : Watched) : Type 0 where
    pub alone : IsAlone t.shape k w
    pub others : (i : ℕ) → i ≢ k → IsResting w i

  -- while its call goes on, and once that has ended: so many calls are behind, and so many of its caller's
  record InCall (b n k : ℕ) (core : Core) : Type 0 where
    leads : Leads t core (StepsAlone k)
    behind : all_behind core.callers ≡ b
    caller : Caller
    there : slice_get core.callers k ≡ Some caller
    own : behind_of caller ≡ n
    call : Call
    calls : current caller ≡ Some call

  pub record HasEnded (b n k : ℕ) (core : Core) : Type 0 where
    pub leads : Leads t core AllResting
    pub fewer : all_behind core.callers + 1 ≡ b
    pub caller : Caller
    pub there : slice_get core.callers k ≡ Some caller
    pub own : behind_of caller + 1 ≡ n

  module _ (k : ℕ) (core : Core) (v : HasEvent core k) (h : Leads t core (StepsAlone k)) where
    abbrev w : Watched
    w = along t.shape t.first t.scripts h.turns

    -- its attempt does not end in Again
    abbrev IsCalm : Core → Type 0
    IsCalm x = wanted (engine_next t.shape x.words v.engine) ≡ want.Done → is_again (end_of (engine_next t.shape x.words v.engine)) ≡ false

    calm : IsCalm core
    calm = subst IsCalm (sym h.core_is) (λ done.
        let o = laws.tell t.shape t.first is.served t.scripts (scripts_are t is) h.turns k v.engine (is_next t core k v (StepsAlone k) h) done in
        ap says_again o.2 ∙ says_no o.0 (λ why q. laws.never t.shape t.first is.served t.scripts (scripts_are t is) h.turns k v.engine h.holds.alone
        (is_next t core k v (StepsAlone k) h) why (o.1 ∙ ap (λ x. Some x) q)))

    not_again : wanted (next t core k v) ≡ want.Done → ends_in_again (its_deed t core k v).end ≡ true → ⊥
    not_again done told =
        let same : ends_in_again (its_deed t core k v).end ≡ is_again (end_of (next t core k v)) = ap (λ x. ends_in_again (end_by t.shape (next t core k v) x)) done in
        let no : true ≡ false = sym told ∙ same ∙ calm done in cc

    not_waits : (its_deed t core k v).waits ≡ true → ⊥
    not_waits waits = never_waits laws t is core k v (StepsAlone k) h (λ i other. rest_is_either w i (h.holds.others i other)) waits

    all_rest : wanted (next t core k v) ≡ want.Done → Leads t (core_after t core k v) AllResting
    all_rest done = leads_on t core k v (StepsAlone k) h AllResting (λ i. elim (cases_eq i k) [
      | inl same ↦ subst (λ n. IsResting (watched_turn t.shape (suc k) w) n) (sym same) (own_rests laws t is core k v (StepsAlone k) h done)
      | inr other ↦ other_rests laws t is core k v (StepsAlone k) h i other (h.holds.others i other)
    ])

    still_alone : Leads t (core_after t core k v) (StepsAlone k)
    still_alone = leads_on t core k v (StepsAlone k) h (StepsAlone k) (record {
      alone = laws.own t.shape t.first is.served t.scripts (scripts_are t is) h.turns k h.holds.alone;
      others = λ i other. other_rests laws t is core k v (StepsAlone k) h i other (h.holds.others i other);
    })

  -- so many calls of who has the event
  own_now : (b n k : ℕ) (core : Core) → InCall b n k core → (v : HasEvent core k) → behind_of v.caller ≡ n
  own_now b n k core g v = ap behind_of (same_Some v.caller g.caller (sym v.there ∙ g.there)) ∙ g.own

  call_over : (b n k : ℕ) (core : Core) → InCall b n k core → (v : HasEvent core k) → IsOver t k core v → HasEnded b n k (core_after t core k v)
  call_over b n k core g v (over_told done told) = record {
    leads = all_rest k core v g.leads done;
    fewer = one_fewer t core k v told ∙ g.behind;
    caller = after t core k v;
    there = there_after t core k v;
    own = own_fewer t core k v told ∙ own_now b n k core g v;
  }
  call_over b n k core g v (over_again done told) = absurd (not_again k core v g.leads done told)
  call_over b n k core g v (over_waits waits which) = absurd (not_waits k core v g.leads waits)

  call_on : (b n k : ℕ) (core : Core) → InCall b n k core → (v : HasEvent core k) → ends_call (its_deed t core k v).end ≡ false → InCall b n k (core_after t core k v)
  call_on b n k core g v untold = record {
    leads = still_alone k core v g.leads;
    behind = as_many t core k v untold ∙ g.behind;
    caller = after t core k v;
    there = (still_calls t core k v untold).0;
    own = own_as_many t core k v untold ∙ own_now b n k core g v;
    call = v.call;
    calls = (still_calls t core k v untold).1;
  }

  -- of a caller that is alone, while all others rest
  pub call_ends_alone : (k : ℕ) (core : Core) → IsOpen t core → Leads t core (StepsAlone k) → (v : HasEvent core k)
      → EndsAt t (HasEnded (all_behind core.callers) (behind_of v.caller) k) (turn_of t most (suc k) (at core))
  call_ends_alone k core o h v =
      turn_ends t k is laws.wells (InCall (all_behind core.callers) (behind_of v.caller) k) (HasEnded (all_behind core.callers) (behind_of v.caller) k)
      (λ x opened g idle. absurd (none-some g.call (sym (idle g.caller g.there).1 ∙ g.calls)))
      (λ x opened g u over. call_over (all_behind core.callers) (behind_of v.caller) k x g u over)
      (λ x opened g u untold. call_on (all_behind core.callers) (behind_of v.caller) k x g u untold)
      most core o
      (record { leads = h; behind = refl; caller = v.caller; there = v.there; own = refl; call = v.call; calls = v.calls })
      (enough_events laws.enough t is most low (suc k) core (StepsAlone k) o h)

  -- and so of one where all rest
  call_ends : (k : ℕ) (core : Core) → IsOpen t core → Leads t core AllResting → (v : HasEvent core k)
      → EndsAt t (HasEnded (all_behind core.callers) (behind_of v.caller) k) (turn_of t most (suc k) (at core))
  call_ends k core o h v =
      let w : Watched = along t.shape t.first t.scripts h.turns in
      call_ends_alone k core o
      (record {
        turns = h.turns;
        core_is = h.core_is;
        holds = record {
          alone = laws.rests t.shape w k v.caller v.engine h.holds (subst (λ (x : Core). slice_get x.callers k ≡ Some v.caller) h.core_is v.there) v.runs;
          others = λ i other. h.holds i;
        };
      })
      v

  -- ---- the calls run out
  run_out : (s : State) → s.keeper ≡ Open → IsOpen t s.core → has_calls t.shape most s.core.callers ≡ false → HasRunOut t most s
  run_out s here o none =
      let calls = none_call t.shape most s.core.callers none in
      record {
        still_open = here;
        no_calls = none;
        none_behind = none_behind s.core.callers calls;
        none_runs = none_run (site_in t) s.core.callers o.holds.views o.holds.each calls;
      }

  -- one round more, where a call is left
  one_more : (n : ℕ) (s : State) → s.keeper ≡ Open → IsOpen t s.core → HasRunOut t most (rounds t.shape most n (one_round t most s)) → HasRunOut t most (rounds t.shape most (suc n) s)
  one_more n s here o rest = by (has_calls t.shape most s.core.callers) refl
    where
      by : (b : Bool) → has_calls t.shape most s.core.callers ≡ b → HasRunOut t most (if b then rounds t.shape most n (one_round t most s) else s)
      by true some = rest
      by false none = run_out s here o none

  -- ---- rounds in which the turn of each caller with a call ends one
  -- one call fewer than so many is behind, and turns led there after which this holds
  pub record OneFewer (Q : Watched → Type 0) (b : ℕ) (core : Core) : Type 0 where
    pub leads : Leads t core Q
    pub fewer : all_behind core.callers + 1 ≡ b

  abbrev pub EachEndsCall : (Watched → Type 0) → Type 0
  EachEndsCall Q = (k : ℕ) (core : Core) → IsOpen t core → Leads t core Q → HasEvent core k → EndsAt t (OneFewer Q (all_behind core.callers)) (turn_of t most (suc k) (at core))

  module _ (Q : Watched → Type 0) (ends : EachEndsCall Q) where
    -- within a round: a call fewer than so many is behind, or no caller so far has one
    record Later (b k : ℕ) (core : Core) : Type 0 where
      leads : Leads t core Q
      no_more : all_behind core.callers ≤ b
      fewer : (all_behind core.callers + 1 ≤ b) ⊎ ((i : ℕ) (c : Caller) → i < k → slice_get core.callers i ≡ Some c → current c ≡ None)

    later_turn : (b k : ℕ) (core : Core) → IsOpen t core → Later b k core → EndsAt t (Later b (suc k)) (turn_of t most (suc k) (at core))
    later_turn b k core o l = elim (event_or_idle t core o k) [
      | inl v ↦
          let e = ends k core o l.leads v in
          let one = e.good.fewer in
          let few = l.no_more in
          record { still_open = e.still_open; opened = e.opened; good = record { leads = e.good.leads; no_more = omega (arith, one, few); fewer = inl (omega (arith, one, few)) } }
      | inr idle ↦ subst (EndsAt t (Later b (suc k))) (sym (stays_there t.shape Turn (suc k) most 1 (at core) (idle_none t core k (λ c there. (idle c there).1)))) (record {
        still_open = refl;
        opened = o;
        good = record {
          leads = l.leads;
          no_more = l.no_more;
          fewer = elim l.fewer [
            | inl less ↦ inl less
            | inr none ↦ inr (λ i c within there. elim (cases_eq i k) [
              | inl same ↦ (idle c (subst (λ n. slice_get core.callers n ≡ Some c) same there)).1
              | inr other ↦ none i c (omega (arith, within, other)) there
            ])
          ];
        };
      })
    ]

    later_round : (core : Core) → IsOpen t core → Leads t core Q → EndsAt t (Later (all_behind core.callers) (length core.callers)) (one_round t most (at core))
    later_round core o h = round_ends t most (Later (all_behind core.callers)) (later_turn (all_behind core.callers)) core.callers 0 (length core.callers) (omega arith) core o
        (record { leads = h; no_more = omega arith; fewer = inr (λ i c within there. absurd (omega (arith, within))) })

    later_low : (b n : ℕ) (core : Core) → IsOpen t core → Later b (length t.scripts) core → b ≤ suc n → all_behind core.callers ≤ n
    later_low b n core o l few = elim l.fewer [
      | inl less ↦ omega (arith, less, few)
      | inr none ↦
          let nothing = none_behind core.callers (none_at core.callers (λ i c there. (let within = slice_get_within core.callers i c there in
          let many = as_many_callers t core o in none i c (omega (arith, within, many)) there))) in
          omega (arith, nothing)
    ]

    pub rounds_run_out : (n : ℕ) (core : Core) → IsOpen t core → Leads t core Q → all_behind core.callers ≤ n → HasRunOut t most (rounds t.shape most n (at core))
    rounds_run_out zero core o h few = run_out (at core) refl o (has_none t.shape most core.callers (omega (arith, few)))
    rounds_run_out (suc n) core o h few =
        let s : State = one_round t most (at core) in
        let e = later_round core o h in
        let last : Later (all_behind core.callers) (length t.scripts) s.core = subst (λ k. Later (all_behind core.callers) k s.core) (as_many_callers t core o) e.good in
        one_more n (at core) refl o
        (subst (λ x. HasRunOut t most (rounds t.shape most n x)) (at_is s e.still_open)
        (rounds_run_out n s.core e.opened last.leads (later_low (all_behind core.callers) n s.core e.opened last few)))

  -- where all rest it is so
  each_ends : EachEndsCall AllResting
  each_ends k core o h v =
      let e = call_ends k core o h v in
      record { still_open = e.still_open; opened = e.opened; good = record { leads = e.good.leads; fewer = e.good.fewer } }

  -- ---- what is said of it
  rest_of : (core : Core) → Leads t core AllResting → AllRest t core
  rest_of core h = record { turns = h.turns; core_is = h.core_is; each = λ j c there. h.holds j c (subst (λ (x : Core). slice_get x.callers j ≡ Some c) h.core_is there) }

  leads_of : (core : Core) → AllRest t core → Leads t core AllResting
  leads_of core rest = record {
    turns = rest.turns;
    core_is = rest.core_is;
    holds = λ j c there. rest.each j c (subst (λ (x : Core). slice_get x.callers j ≡ Some c) (sym rest.core_is) there);
  }

  answered_by : (j : ℕ) (core : Core) (c : Caller) (call : Call) → IsOpen t core → AllRest t core → slice_get core.callers j ≡ Some c → current c ≡ Some call
      → HasAnswered j c (at core) (turn_of t most (suc j) (at core)) × AllRest t (turn_of t most (suc j) (at core)).core
  answered_by j core c call o rest there calls = elim (event_or_idle t core o j) [
    | inl v ↦
        let e = call_ends j core o (leads_of core rest) v in (
          record {
            still_open = e.still_open;
            fewer = e.good.fewer;
            caller = e.good.caller;
            there = e.good.there;
            own = e.good.own ∙ ap behind_of (same_Some v.caller c (sym v.there ∙ there));
          },
          rest_of (turn_of t most (suc j) (at core)).core e.good.leads,
        )
    | inr idle ↦ absurd (none-some call (sym (idle c there).1 ∙ calls))
  ]

pub turn_ends_call : TurnLaws → TurnEndsCall
turn_ends_call laws t most j s c call is low r here rest there calls =
    subst (λ x. HasAnswered j c x (turn_of t most (suc j) x) × AllRest t (turn_of t most (suc j) x).core) (at_is s here)
    (answered_by laws t is most low j s.core c call (open_of t s here r) rest there calls)

pub turn_of_none : TurnOfNone
turn_of_none t most j s c here there none =
    subst (λ x. turn_of t most (suc j) x ≡ x) (at_is s here) (stays_there t.shape Turn (suc j) most 1 (at s.core) (idle_none t s.core j (λ d is. subst (λ (x : Caller). current x ≡ None)
    (same_Some c d (sym there ∙ is)) none)))

pub rounds_end : TurnLaws → RoundsEnd
rounds_end laws t most zero s is low r here few = absurd (omega (arith, few))
rounds_end laws t most (suc zero) s is low r here few = absurd (omega (arith, few))
rounds_end laws t most (suc (suc n)) s is low r here few =
    let one : State = one_round t most s in
    let two : State = one_round t most one in
    let first = first_round_rests laws t most s is low r here in
    let run : IsRun t one = laws.stays t most 1 s.core.callers s is r in
    let second = second_round_rests laws t most one is low run first.0.still_open first.1 in
    let run_two : IsRun t two = laws.stays t most 1 one.core.callers one is run in
    let fewer = first.0.no_more in
    let few_more = second.0.no_more in
    let low_now : all_behind two.core.callers ≤ n = omega (arith, few, fewer, few_more) in
    one_more laws t is most low (suc n) s here (open_of t s here r)
    (one_more laws t is most low n one first.0.still_open (open_of t one first.0.still_open run)
    (subst (λ x. HasRunOut t most (rounds t.shape most n x)) (at_is two second.0.still_open)
    (rounds_run_out laws t is most low (AllResting laws t is most low) (each_ends laws t is most low) n two.core (open_of t two second.0.still_open run_two)
    (leads_of laws t is most low two.core second.1) low_now)))

-- ---- there are no more calls than events
calls_behind : (callers : List Caller) → all_behind callers ≤ all_calls (map (λ c. c.calls) callers)
calls_behind [] = omega arith
calls_behind (c ∷ callers) = let rest = calls_behind callers in omega (arith, rest)

two_of : (m of_call : ℕ) → 2 * m + 2 ≤ of_call → 2 ≤ of_call
two_of m of_call low = omega (arith, low)

pub rounds_are_enough : RoundsAreEnough
rounds_are_enough t s is r here =
    let o = open_of t s here r in
    within_most (events_of_call t.shape) (all_behind s.core.callers) (all_calls t.scripts) (2 * words_of t.shape) (two_of most_alone (events_of_call t.shape) (call_two t.shape))
    (subst (λ scripts. all_behind s.core.callers ≤ all_calls scripts) o.scripts (calls_behind s.core.callers))
