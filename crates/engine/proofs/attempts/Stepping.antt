-- By what the next event of a machine decides the outcome, and what is remembered behind it: of the machines of the call itself, of those of a
-- split, and of those of a repair.
use Rattle.std.proofs.Common.{◌≡◌, ◌≢◌, ℕ, ◌^◌, ◌<◌, false, None, Some, List, refl, sym, ap, ◌∙◌}
use Rattle.std.specs.Prelude.{⊤}
use Rattle.op_core.specs.declared.want.Want.TheVariants.{Done}
use Rattle.op_core.specs.declared.want.Ans.{Ans}
use Rattle.op_core.specs.declared.why.Why.TheVariants.{Busy}
use Rattle.trace.specs.Events.{Words}
use Rattle.map_model.specs.declared.call.Call.{Call}
use Rattle.world.specs.declared.site.Site.{Site}
use Rattle.world.specs.Ground.{Ground}
use Rattle.world.specs.Views.{View, At, HasLock}
use Rattle.world.specs.Wants.{answer_to}
use Rattle.world.specs.Invariant.{Holds}
use Rattle.part.specs.Doings.{Doings, with_event_of}
use Rattle.part.specs.Outcomes.{Outcome, again, finished}
use Rattle.part.specs.Part.{Suits, finds, next}
use Rattle.part.specs.Causes.{HasCause as HasCallCause}
use Rattle.part.specs.Splits.{HasSplitCause}
use Rattle.part.specs.Repairs.{HasRepairCause}
use Rattle.part.specs.Either.{one, other}
use Rattle.repair_op.specs.Finishing.{HasImageVersion}
use Rattle.engine.specs.declared.engine.Op.{Op}
use Rattle.engine.specs.declared.engine.Op.TheVariants.{Read, Write, Move, Stash, Release, Enclose, Split, Publish, Rest, Repair, Redirect, Mend}
use Rattle.engine.specs.OpPart.{OpState, state_of, named, call_part, whole_split, whole_repair, op_part, split_segment_in, repaired_segment_in, Work, calls, splits, repairs, work_of}
use Rattle.engine.specs.Causes.{OpCauses}
use Rattle.engine.proofs.machines.Ops.{either_ops, each_named, renamed_at}
use Rattle.engine.proofs.machines.Deciding.{IsAsking, call_steps, split_steps, repair_steps, remembers_on}

-- ---- what a state works on
abbrev pub work_in : OpState → Work
work_in (one m) = calls
work_in (other (one m)) = splits (split_segment_in m)
work_in (other (other m)) = repairs (repaired_segment_in m)

pub work_is : (op : Op) → work_of op ≡ work_in (state_of op)
work_is (Read op) = refl
work_is (Write op) = refl
work_is (Move op) = refl
work_is (Stash op) = refl
work_is (Release op) = refl
work_is (Enclose op) = refl
work_is (Split op) = refl
work_is (Publish op) = refl
work_is (Rest op) = refl
work_is (Repair op) = refl
work_is (Redirect op) = refl
work_is (Mend op) = refl

pub work_named : (m : OpState) → work_of (named m) ≡ work_in m
work_named m = work_is (named m) ∙ ap work_in (each_named m)

-- a machine of the call itself goes on to one of the call
pub next_work : (site : Ground) (words : Words) (op : Op) → work_of op ≡ calls → work_of (next op_part site words op) ≡ calls
next_work site words (Read op) own = work_named (next either_ops site words (state_of (Read op)))
next_work site words (Write op) own = work_named (next either_ops site words (state_of (Write op)))
next_work site words (Move op) own = work_named (next either_ops site words (state_of (Move op)))
next_work site words (Stash op) own = work_named (next either_ops site words (state_of (Stash op)))
next_work site words (Release op) own = work_named (next either_ops site words (state_of (Release op)))
next_work site words op own = absurd (cc)

-- ---- what is decided stays so
stays_in : OpCauses → (m : OpState) (a : Ans) (outcome : Outcome) → either_ops.outcome m ≡ Some outcome → either_ops.outcome (either_ops.taken m a) ≡ Some outcome
stays_in causes (one m) a outcome some = causes.call.stays m a outcome some
stays_in causes (other (one m)) a outcome some = causes.split.stays m a outcome some
stays_in causes (other (other m)) a outcome some = causes.repair.stays m a outcome some

pub op_stays : OpCauses → (op : Op) (a : Ans) (outcome : Outcome) → op_part.outcome op ≡ Some outcome → op_part.outcome (op_part.taken op a) ≡ Some outcome
op_stays causes op a outcome some = renamed_at (λ m. either_ops.outcome m ≡ Some outcome) (either_ops.taken (state_of op) a) (stays_in causes (state_of op) a outcome some)

-- where nothing more is wanted, an outcome is decided
decided_in : OpCauses → (site : Ground) (here : Site) (call : Call) (m : OpState) (v : View) → either_ops.Stands site here call m v → either_ops.wanted m ≡ Done → either_ops.hands_on m ≡ false
    → (outcome : Outcome) × (either_ops.outcome m ≡ Some outcome)
decided_in causes site here call (one m) v s done closed = causes.call.decided site here call m v s done closed
decided_in causes site here call (other (one m)) v s done closed = causes.split.decided site here call m v s done closed
decided_in causes site here call (other (other m)) v s done closed = causes.repair.decided site here call m v s done closed

pub op_decided : OpCauses → (site : Ground) (here : Site) (call : Call) (op : Op) (v : View) → op_part.Stands site here call op v → op_part.wanted op ≡ Done
    → op_part.hands_on op ≡ false → (outcome : Outcome) × (op_part.outcome op ≡ Some outcome)
op_decided causes site here call op v s done closed = decided_in causes site here call (state_of op) v s done closed

-- ---- the next event of a machine, in the world, for the caller with this view
module _ (causes : OpCauses) (site : Ground) (here : Site) (call : Call) (words : Words) (views : List View) (j : ℕ) (before v : View) (h : Holds site words views) (at : At views j v) (did : Doings) where
  abbrev Asks : OpState → Type 0
  Asks m = IsAsking causes.call causes.split causes.repair site here call words views j before v h at did m

  -- THE CAUSE of an outcome, by the machines
  abbrev pub CausedIn : OpState → Outcome → Type 0
  CausedIn (one m) outcome = HasCallCause site.shape words did call (call_part.wanted m) here outcome
  CausedIn (other (one m)) outcome = HasSplitCause site.shape words did call (split_segment_in m) (whole_split.wanted m) outcome
  CausedIn (other (other m)) outcome = HasRepairCause site.shape words did call (repaired_segment_in m) (whole_repair.wanted m) outcome

  caused_in : (m : OpState) → Asks m → (outcome : Outcome) → either_ops.outcome m ≡ None → either_ops.outcome (next either_ops site words m) ≡ Some outcome → CausedIn m outcome
  caused_in (one m) a outcome none some = (call_steps causes.call causes.split causes.repair site here call words views j before v h at did m a).caused outcome none some
  caused_in (other (one m)) a outcome none some = (split_steps causes.call causes.split causes.repair site here call words views j before v h at did m a).caused outcome none some
  caused_in (other (other m)) a outcome none some = (repair_steps causes.call causes.split causes.repair site here call words views j before v h at did m a).caused outcome none some

  -- where a repair tells that it has finished, the segment has the image's version
  abbrev pub CurrentIn : OpState → Outcome → Type 0
  CurrentIn (one m) outcome = ⊤
  CurrentIn (other (one m)) outcome = ⊤
  CurrentIn (other (other m)) outcome = outcome ≡ finished → HasImageVersion site words (repaired_segment_in m)

  current_in : (m : OpState) → Asks m → (outcome : Outcome) → either_ops.outcome m ≡ None → either_ops.outcome (next either_ops site words m) ≡ Some outcome → CurrentIn m outcome
  current_in (one m) a outcome none some = tt
  current_in (other (one m)) a outcome none some = tt
  current_in (other (other m)) a outcome none some = λ is.
      causes.current site here call words views j m before v h at (record { stands = a.suits.stands; enters = a.suits.enters; callers = a.suits.callers }) none (some ∙ ap Some is)

  not_own_in : (m : OpState) → Asks m → (word value : ℕ) → either_ops.outcome m ≡ None → either_ops.outcome (next either_ops site words m) ≡ Some (again (Busy word value)) → HasLock v.held word → ⊥
  not_own_in (one m) a word value none some = (call_steps causes.call causes.split causes.repair site here call words views j before v h at did m a).not_own word value none some
  not_own_in (other (one m)) a word value none some = (split_steps causes.call causes.split causes.repair site here call words views j before v h at did m a).not_own word value none some
  not_own_in (other (other m)) a word value none some = (repair_steps causes.call causes.split causes.repair site here call words views j before v h at did m a).not_own word value none some

  module _ (op : Op) (s : Suits op_part site here call op before v) (asks : op_part.wanted op ≢ Done) (small : finds op_part site words op < 2 ^ 64) (r : op_part.Remembers site op did) where
    asking : Asks (state_of op)
    asking = record { suits = record { stands = s.stands; enters = s.enters; callers = s.callers }; asks = asks; small = small; remembers = r }

    abbrev after : OpState
    after = next either_ops site words (state_of op)

    -- a state of the machines behind the event has the outcome of the machine
    told : (outcome : Outcome) → op_part.outcome (next op_part site words op) ≡ Some outcome → either_ops.outcome after ≡ Some outcome
    told outcome some = ap either_ops.outcome (sym (each_named after)) ∙ some

    pub op_remembers : op_part.Remembers site (next op_part site words op) (with_event_of (op_part.wanted op) (answer_to (op_part.wanted op) (finds op_part site words op)) did)
    op_remembers =
        renamed_at (λ m. either_ops.Remembers site m (with_event_of (op_part.wanted op) (answer_to (op_part.wanted op) (finds op_part site words op)) did)) after
        (remembers_on causes.call causes.split causes.repair site here call words views j before v h at did (state_of op) asking)

    pub op_caused : (outcome : Outcome) → op_part.outcome op ≡ None → op_part.outcome (next op_part site words op) ≡ Some outcome → CausedIn (state_of op) outcome
    op_caused outcome none some = caused_in (state_of op) asking outcome none (told outcome some)

    pub op_not_own : (word value : ℕ) → op_part.outcome op ≡ None → op_part.outcome (next op_part site words op) ≡ Some (again (Busy word value)) → HasLock v.held word → ⊥
    op_not_own word value none some = not_own_in (state_of op) asking word value none (told (again (Busy word value)) some)

    pub op_current : (outcome : Outcome) → op_part.outcome op ≡ None → op_part.outcome (next op_part site words op) ≡ Some outcome → CurrentIn (state_of op) outcome
    op_current outcome none some = current_in (state_of op) asking outcome none (told outcome some)
