-- The guard is taken, and then lock after lock: each event is of its kind, which the view may take, and what it leaves.
use Rattle.std.proofs.Common.{◌≡◌, ℕ, ◌+◌, ◌^◌, ◌<◌, Bool, true, false, List, ◌∷◌, refl, sym, ap, ◌∙◌, subst, arith, length-set}
use Rattle.std.specs.Prelude.{◌==◌, nat_lt, if◌then◌else◌}
use Rattle.std.proofs.lemmas.Bool.{ltb-true, ltb-false}
use Rattle.op_core.specs.declared.want.Want.TheVariants as want
use Rattle.op_core.specs.declared.want.Ans.TheVariants.{Won, Lost}
use Rattle.op_core.specs.declared.why.Why.TheVariants.{Busy, Moved}
use Rattle.image_layout.specs.Places.{buckets}
use Rattle.map_model.specs.declared.call.Call.{Call}
use Rattle.world.specs.declared.site.Site.{Site}
use Rattle.world.specs.Ground.{Ground}
use Rattle.world.specs.Views.{View, Has}
use Rattle.world.specs.Wants.{answer_to}
use Rattle.world.specs.Kinds.{view_after}
use Rattle.world.specs.areas.Areas.{Area, Segment}
use Rattle.world.specs.areas.Kinds.{with_guard, of_segment}
use Rattle.world.specs.StepKinds.{AsksOfView, wanted_of, view_by, MayTake}
use Rattle.phase.specs.declared.take.Take.{Take}
use Rattle.phase.specs.declared.take.Take.TheVariants.{Look, Try}
use Rattle.phase.specs.declared.take.Taken.{Taken}
use Rattle.phase.specs.declared.take.Taken.TheVariants as taken
use Rattle.phase.specs.Takes.{take_wanted, take_taken}
use Rattle.phase.specs.Taking.{take_kind, MayBeTaken, HasTaken}
use Rattle.phase.specs.Giving.{IsLocated}
use Rattle.phase.proofs.locks.Taking.{take_fits, take_stands}
use Rattle.enclose_op.specs.declared.enclosed.Enclosed.{Enclosed}
use Rattle.enclose_op.specs.declared.op.NotEnclosed.TheVariants.{Again}
use Rattle.enclose_op.specs.declared.op.EncloseStep.TheVariants.{Guard, Lock, Head}
use Rattle.enclose_op.specs.declared.op.EncloseOp.{EncloseOp}
use Rattle.enclose_op.specs.Whole.{IsOf}
use Rattle.enclose_op.specs.Giving.{lock_of, give_from}
use Rattle.enclose_op.specs.Steps.{go, giving, next_lock, with_lock, locked_to, next_in, wanted_in}
use Rattle.enclose_op.specs.Fits.{kind_at, HoldsPart, IsTakingLock, SuitsGive, SuitsStep}
use Rattle.enclose_op.specs.EnclosePart.{EnclosureStands}
use Rattle.enclose_op.proofs.Places.{guard_is, known_lock}
use Rattle.enclose_op.proofs.Held.{no_whole, hold_none, hold_same, hold_more}
use Rattle.enclose_op.proofs.Backing.{quiet_still, give_suits}

-- what runs is the same with another lock
pub is_with_lock : (site : Ground) (here : Site) (call : Call) (e : Enclosed) (b free : ℕ) → IsOf site here call e → IsOf site here call (with_lock e b free)
is_with_lock site here call e b free is = record {
  at = is.at;
  same = is.same;
  insert = is.insert;
  located = record { shape = is.located.shape; within = is.located.within };
  hashed = is.hashed;
  fits = is.fits;
  version = is.version;
  numbered = is.numbered;
  caller = is.caller;
  each_lock = length-set e.locks b free ∙ is.each_lock;
  each_word = is.each_word;
}

module _ (site : Ground) (here : Site) (call : Call) (e : Enclosed) (is : IsOf site here call e) (v : View) where
  abbrev l : IsLocated site e.site e.segment
  l = is.located

  -- ---- the guard
  pub guard_wants : wanted_in e Guard ≡ wanted_of site.shape (kind_at e Guard)
  guard_wants = ap (λ (n : ℕ). want.Exchange n 0 e.site.caller) (guard_is site e l)

  pub guard_may : SuitsStep site here call e Guard v → MayTake site (kind_at e Guard) v
  guard_may s = (is.numbered, s.1.lives)

  -- it is taken, or another has it
  guard_by : (t : Bool) (n : ℕ) → SuitsStep site here call e Guard v
      → EnclosureStands site here call (next_in e Guard (if t then Won else Lost n)) (with_guard t (of_segment e.segment) v)
  guard_by true n s =
      let u : View = with_guard true (of_segment e.segment) v in
      let none = s.0 in
      record {
        is = is;
        view = (
          record {
            near = omega arith;
            there = s.1;
            part = record {
              areas = ap (λ (l : List Area). Segment e.segment ∷ l) none.areas;
              locks = hold_none site e 0 u none.held;
              known = λ p has. absurd (subst (λ (l : List (ℕ × ℕ)). Has p l) none.known has);
              quiet = record { dirty = none.dirty; flushed = none.flushed; planned = none.planned; moving = none.moving; owed = none.owed };
            };
          },
          omega arith,
          tt,
          s.2,
        );
      }
  guard_by false n s = record { is = is; view = s.0 }

  pub guard_stands : (n : ℕ) → SuitsStep site here call e Guard v
      → EnclosureStands site here call (next_in e Guard (answer_to (wanted_in e Guard) n)) (view_by site.shape (kind_at e Guard) n v)
  guard_stands n s = guard_by (n == 0) n s

  -- ---- a lock
  module _ (b : ℕ) (take : Take) (s : SuitsStep site here call e (Lock b take) v) where
    pub lock_wants : wanted_in e (Lock b take) ≡ wanted_of site.shape (kind_at e (Lock b take))
    lock_wants = take_fits.wants site.shape (lock_of e b) take s.2

    asks : (t : Take) → AsksOfView site (take_kind (lock_of e b) t) v
    asks Look = no_whole e v s.0.part.areas
    asks (Try free) = no_whole e v s.0.part.areas

    pub lock_may : MayTake site (kind_at e (Lock b take)) v
    lock_may = (take_fits.may site (lock_of e b) take v (known_lock site e l b v s.1 s.0.there) s.2, asks take)

    -- the view is another but for lock words that were found spent
    part_still : (locks : List ℕ) → HoldsPart site e 0 b (record v { spent_locks = locks })
    part_still locks = record {
      areas = s.0.part.areas;
      locks = hold_same site e 0 b v (record v { spent_locks = locks }) e refl refl refl s.0.part.locks;
      known = s.0.part.known;
      quiet = quiet_still v (record v { spent_locks = locks }) refl refl refl refl refl s.0.part.quiet;
    }

    taking_still : (locks : List ℕ) → IsTakingLock site e b (record v { spent_locks = locks })
    taking_still locks = record { near = s.0.near; there = s.0.there; part = part_still locks }

    -- the lock after it, or the header
    module _ (free : ℕ) (may : MayBeTaken free) where
      abbrev u : View
      u = record v { held = (lock_of e b, free + 1) ∷ v.held }

      taking_more : IsTakingLock site (with_lock e b free) (b + 1) u
      taking_more = record {
        near = (let low = s.1 in omega (arith, low));
        there = s.0.there;
        part = record {
          areas = s.0.part.areas;
          locks = hold_more site e l b free v s.1 is.each_lock may s.0.part.locks u refl;
          known = s.0.part.known;
          quiet = quiet_still v u refl refl refl refl refl s.0.part.quiet;
        };
      }

      next_by : (t : Bool) → nat_lt b 65 ≡ t → SuitsStep site here call (with_lock e b free) (if t then Lock (b + 1) Look else Head) u
      next_by true low = (taking_more, (let below = ltb-true b 65 low in omega (arith, below)), tt, s.3)
      next_by false high = (
        subst (λ (n : ℕ). IsTakingLock site (with_lock e b free) n u) (let above = ltb-false b 65 high in let near = s.1 in let same : b + 1 ≡ buckets = omega (arith, above, near) in same) taking_more,
        s.3,
      )

      lock_next : EnclosureStands site here call (go (with_lock e b free) (next_lock b)) u
      lock_next = record { is = is_with_lock site here call e b free is; view = next_by (nat_lt b 65) refl }

    abbrev Stood : EncloseOp → View → Type 0
    Stood op u = EnclosureStands site here call op u

    -- all is given back
    back : (locks : List ℕ) → SuitsGive site e (give_from 0 b) (record v { spent_locks = locks })
    back locks = give_suits site e 0 b (record v { spent_locks = locks }) (omega arith) (let low = s.1 in omega (arith, low)) (part_still locks)

    taken_by : (t : Taken) (u : View) → HasTaken (lock_of e b) v t u → Stood (locked_to e b t) u
    taken_by (taken.On more) u has =
        subst (λ (u : View). Stood (go e (Lock b more)) u) (sym has.1.1) (record { is = is; view = (taking_still has.1.0, s.1, has.0, s.3) })
    taken_by (taken.Held free) u has =
        subst (λ (u : View). Stood (go (with_lock e b free) (next_lock b)) u) (sym has.1) (lock_next free has.0)
    taken_by (taken.Busy seen) u has =
        subst (λ (u : View). Stood (go e (giving b (Again (Busy (lock_of e b) seen)))) u) (sym has.1) (record { is = is; view = back has.0 })
    taken_by (taken.Moved first later) u has =
        subst (λ (u : View). Stood (go e (giving b (Again (Moved (lock_of e b) first later)))) u) (sym has.1) (record { is = is; view = back has.0 })
    taken_by taken.Spent u has = record {
      is = is;
      view = (
        subst (λ (u : View). HoldsPart site e 0 b u) (sym has.1.1) (part_still has.1.0),
        (let low = s.1 in omega (arith, low)),
        (lock_of e b, has.0),
      );
    }

    pub lock_stands : (n : ℕ) → n < 2 ^ 64 → Stood (next_in e (Lock b take) (answer_to (wanted_in e (Lock b take)) n)) (view_by site.shape (kind_at e (Lock b take)) n v)
    lock_stands n small =
        taken_by (take_taken take (answer_to (take_wanted (lock_of e b) take) n)) (view_after site.shape (take_kind (lock_of e b) take) n v)
        (take_stands site.shape (lock_of e b) take v n s.2 small)
