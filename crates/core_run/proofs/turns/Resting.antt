-- The first two rounds of the end rule: after the first each caller rests or waits, and after the second all rest.
use Rattle.std.proofs.Common.{◌≡◌, ◌≢◌, ℕ, suc, ◌<◌, ◌≤◌, inl, inr, ◌⊎◌, Some, length, slice_get, sym, ◌∙◌, ap, subst, arith}
use Rattle.std.proofs.lemmas.Bool.{cases_eq}
use Rattle.std.proofs.lemmas.List.{length-map}
use Rattle.std.proofs.lemmas.Option.{slice_get_within}
use Rattle.engine.specs.Core.{Caller, Core}
use Rattle.engine.specs.Causes.{Watched, watched_turn}
use Rattle.engine.specs.Alone.{IsRestingBy, IsResting, along}
use Rattle.core_run.specs.declared.keeper.Keeper.TheVariants.{Open}
use Rattle.core_run.specs.State.{State}
use Rattle.core_run.specs.Running.{Setup, IsSetup, IsOpen, IsRunningBy}
use Rattle.core_run.specs.Along.{HasTurns, IsAlongBy, all_behind}
use Rattle.core_run.specs.Ends.{IsRun, most_of}
use Rattle.core_run.specs.Rounds.{IsWaiting, RestOrWait, AllRest, turn_of, one_round, StaysOpen, FirstRoundRests, SecondRoundRests}
use Rattle.core_run.proofs.turns.Stepping.{at, at_is, HasEvent, Leads, EndsAt, core_after, no_more, leads_on}
use Rattle.core_run.proofs.turns.Turning.{IsOver, over_told, over_again, over_waits, enough_events, turn_ends, round_ends}
use Rattle.core_run.proofs.turns.Standing.{TurnLaws, RestsOrWaits, rest_is_either, never_waits, other_rests, other_either, own_rests, own_either, idle_rests}

-- ---- an open image
pub open_of : (t : Setup) (s : State) → s.keeper ≡ Open → IsRun t s → IsOpen t s.core
open_of t s here r = subst (λ k. IsRunningBy t k s.core) here r.running

pub turns_of : (t : Setup) (s : State) → s.keeper ≡ Open → IsRun t s → HasTurns t s.core
turns_of t s here r = subst (λ k. IsAlongBy t k s.core) here r.along

pub run_of : (t : Setup) (s : State) (Q : Watched → Type 0) → s.keeper ≡ Open → IsOpen t s.core → Leads t s.core Q → IsRun t s
run_of t s Q here o h = record {
  running = subst (λ k. IsRunningBy t k s.core) (sym here) o;
  along = subst (λ k. IsAlongBy t k s.core) (sym here) (record { turns = h.turns; core_is = h.core_is });
}

module _ (laws : TurnLaws) (t : Setup) (is : IsSetup t) (most : ℕ) (low : most_of t ≤ most) (b : ℕ) where
  -- ---- the first round
  -- callers below a place rest or wait
  abbrev EitherBelow : ℕ → Watched → Type 0
  EitherBelow k w = (i : ℕ) → i < k → RestsOrWaits w i

  abbrev First : ℕ → Core → Type 0
  First k core = Leads t core (EitherBelow k) × (all_behind core.callers ≤ b)

  apart : (i k : ℕ) → i < k → i ≢ k
  apart i k less same = omega (arith, less, same)

  next_below : (k : ℕ) (P : ℕ → Type 0) → ((i : ℕ) → i < k → P i) → P k → (i : ℕ) → i < suc k → P i
  next_below k P below own i less = elim (cases_eq i k) [
    | inl same ↦ subst P (sym same) own
    | inr other ↦ below i (omega (arith, less, other))
  ]

  first_turn : (k : ℕ) (core : Core) → IsOpen t core → First k core → EndsAt t (First (suc k)) (turn_of t most (suc k) (at core))
  first_turn k core o f =
      turn_ends t k is laws.wells (First k) (First (suc k))
      (λ core o f none. (
        record {
          turns = f.0.turns;
          core_is = f.0.core_is;
          holds = next_below k (λ i. RestsOrWaits (along t.shape t.first t.scripts f.0.turns) i) f.0.holds
              (rest_is_either (along t.shape t.first t.scripts f.0.turns) k (idle_rests t core k (EitherBelow k) f.0 none));
        },
        f.1,
      ))
      (λ core o f v over. (
        leads_on t core k v (EitherBelow k) f.0 (EitherBelow (suc k))
            (next_below k (λ i. RestsOrWaits (watched_turn t.shape (suc k) (along t.shape t.first t.scripts f.0.turns)) i)
            (λ i less. other_either laws t is core k v (EitherBelow k) f.0 i (apart i k less) (f.0.holds i less)) (own_either laws t is core k v (EitherBelow k) f.0 over)),
        (let fewer = no_more t core k v in let few = f.1 in omega (arith, fewer, few)),
      ))
      (λ core o f v untold. (
        leads_on t core k v (EitherBelow k) f.0 (EitherBelow k) (λ i less. other_either laws t is core k v (EitherBelow k) f.0 i (apart i k less) (f.0.holds i less)),
        (let fewer = no_more t core k v in let few = f.1 in omega (arith, fewer, few)),
      ))
      most core o f (enough_events laws.enough t is most low (suc k) core (EitherBelow k) o f.0)

  -- ---- the second round
  -- all rest or wait, and those below a place rest
  record RestBelow (k : ℕ) (w : Watched) : Type 0 where
    either : (i : ℕ) → RestsOrWaits w i
    below : (i : ℕ) → i < k → IsResting w i

  -- so it is of all others while the caller at that place steps
  record OthersRest (k : ℕ) (w : Watched) : Type 0 where
    either : (i : ℕ) → i ≢ k → RestsOrWaits w i
    below : (i : ℕ) → i < k → IsResting w i

  abbrev Second : ℕ → Core → Type 0
  Second k core = Leads t core (RestBelow k) × (all_behind core.callers ≤ b)

  abbrev InTurn : ℕ → Core → Type 0
  InTurn k core = Leads t core (OthersRest k) × (all_behind core.callers ≤ b)

  rests_below : (k : ℕ) (w : Watched) → OthersRest k w → IsResting w k → RestBelow (suc k) w
  rests_below k w others own = record {
    either = λ i. elim (cases_eq i k) [
      | inl same ↦ subst (λ n. RestsOrWaits w n) (sym same) (rest_is_either w k own)
      | inr other ↦ others.either i other
    ];
    below = next_below k (λ i. IsResting w i) others.below own;
  }

  others_on : (k : ℕ) (core : Core) (v : HasEvent core k) (h : Leads t core (OthersRest k)) → OthersRest k (watched_turn t.shape (suc k) (along t.shape t.first t.scripts h.turns))
  others_on k core v h = record {
    either = λ i other. other_either laws t is core k v (OthersRest k) h i other (h.holds.either i other);
    below = λ i less. other_rests laws t is core k v (OthersRest k) h i (apart i k less) (h.holds.below i less);
  }

  second_over : (k : ℕ) (core : Core) (f : InTurn k core) (v : HasEvent core k) → IsOver t k core v → Second (suc k) (core_after t core k v)
  second_over k core f v over = (
    leads_on t core k v (OthersRest k) f.0 (RestBelow (suc k))
        (rests_below k (watched_turn t.shape (suc k) (along t.shape t.first t.scripts f.0.turns)) (others_on k core v f.0) (own over)),
    (let fewer = no_more t core k v in let few = f.1 in omega (arith, fewer, few)),
  )
    where
      own : IsOver t k core v → IsResting (watched_turn t.shape (suc k) (along t.shape t.first t.scripts f.0.turns)) k
      own (over_told done told) = own_rests laws t is core k v (OthersRest k) f.0 done
      own (over_again done again) = own_rests laws t is core k v (OthersRest k) f.0 done
      own (over_waits waits which) = absurd (never_waits laws t is core k v (OthersRest k) f.0 f.0.holds.either waits)

  second_turn : (k : ℕ) (core : Core) → IsOpen t core → Second k core → EndsAt t (Second (suc k)) (turn_of t most (suc k) (at core))
  second_turn k core o f =
      turn_ends t k is laws.wells (InTurn k) (Second (suc k))
      (λ core o f none. (
        record {
          turns = f.0.turns;
          core_is = f.0.core_is;
          holds = rests_below k (along t.shape t.first t.scripts f.0.turns) f.0.holds (idle_rests t core k (OthersRest k) f.0 none);
        },
        f.1,
      ))
      (λ core o f v over. second_over k core f v over)
      (λ core o f v untold. (
        leads_on t core k v (OthersRest k) f.0 (OthersRest k) (others_on k core v f.0),
        (let fewer = no_more t core k v in let few = f.1 in omega (arith, fewer, few)),
      ))
      most core o
      (record { turns = f.0.turns; core_is = f.0.core_is; holds = record { either = λ i other. f.0.holds.either i; below = f.0.holds.below } }, f.1)
      (enough_events laws.enough t is most low (suc k) core (RestBelow k) o f.0)

  -- ---- the rounds
  first_round : (core : Core) → IsOpen t core → HasTurns t core → all_behind core.callers ≤ b → EndsAt t (First (length core.callers)) (one_round t most (at core))
  first_round core o h few = round_ends t most First first_turn core.callers 0 (length core.callers) (omega arith) core o
      (record { turns = h.turns; core_is = h.core_is; holds = λ i less. absurd (omega (arith, less)) }, few)

  second_round : (core : Core) → IsOpen t core → Second 0 core → EndsAt t (Second (length core.callers)) (one_round t most (at core))
  second_round core o f = round_ends t most Second second_turn core.callers 0 (length core.callers) (omega arith) core o f

-- there are as many callers as scripts
pub as_many_callers : (t : Setup) (core : Core) → IsOpen t core → length core.callers ≡ length t.scripts
as_many_callers t core o = sym (length-map core.callers (λ c. c.calls)) ∙ ap length o.scripts

pub stays_open : (t : Setup) (P : Core → Type 0) (s : State) → (after : State) → EndsAt t P after → all_behind after.core.callers ≤ all_behind s.core.callers → StaysOpen s after
stays_open t P s after e low = record { still_open = e.still_open; no_more = low }

pub first_round_rests : TurnLaws → FirstRoundRests
first_round_rests laws t most s is low r here =
    subst (λ x. StaysOpen s (one_round t most x) × RestOrWait t (one_round t most x).core) (at_is s here)
    (stays_open t (First laws t is most low b (length s.core.callers)) s end e e.good.1, record { turns = e.good.0.turns; core_is = e.good.0.core_is; each = each })
  where
    b : ℕ
    b = all_behind s.core.callers

    end : State
    end = one_round t most (at s.core)

    o : IsOpen t s.core
    o = open_of t s here r

    e : EndsAt t (First laws t is most low b (length s.core.callers)) end
    e = first_round laws t is most low b s.core o (turns_of t s here r) (omega arith)

    each : (j : ℕ) (c : Caller) → slice_get end.core.callers j ≡ Some c → IsRestingBy c ((along t.shape t.first t.scripts e.good.0.turns).doings j) ⊎ IsWaiting c
    each j c there =
        let within = slice_get_within end.core.callers j c there in
        let now = as_many_callers t end.core e.opened in
        let before = as_many_callers t s.core o in
        e.good.0.holds j (omega (arith, within, now, before)) c (subst (λ (k : Core). slice_get k.callers j ≡ Some c) e.good.0.core_is there)

pub second_round_rests : TurnLaws → SecondRoundRests
second_round_rests laws t most s is low r here stands =
    subst (λ x. StaysOpen s (one_round t most x) × AllRest t (one_round t most x).core) (at_is s here)
    (stays_open t (Second laws t is most low b (length s.core.callers)) s end e e.good.1, record { turns = e.good.0.turns; core_is = e.good.0.core_is; each = each })
  where
    b : ℕ
    b = all_behind s.core.callers

    end : State
    end = one_round t most (at s.core)

    o : IsOpen t s.core
    o = open_of t s here r

    e : EndsAt t (Second laws t is most low b (length s.core.callers)) end
    e = second_round laws t is most low b s.core o (
      record {
        turns = stands.turns;
        core_is = stands.core_is;
        holds = record {
          either = λ i c at. stands.each i c (subst (λ (k : Core). slice_get k.callers i ≡ Some c) (sym stands.core_is) at);
          below = λ i less. absurd (omega (arith, less));
        };
      },
      omega arith,
    )

    each : (j : ℕ) (c : Caller) → slice_get end.core.callers j ≡ Some c → IsRestingBy c ((along t.shape t.first t.scripts e.good.0.turns).doings j)
    each j c there =
        let within = slice_get_within end.core.callers j c there in
        let now = as_many_callers t end.core e.opened in
        let before = as_many_callers t s.core o in
        e.good.0.holds.below j (omega (arith, within, now, before)) c (subst (λ (k : Core). slice_get k.callers j ≡ Some c) e.good.0.core_is there)
