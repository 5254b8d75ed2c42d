-- The beginning of a repair as a part: with what it may begin, how it ends, and what it hands on.
use Rattle.std.specs.Prelude.{◌≡◌, ℕ, ◌+◌, ◌^◌, ◌<◌, true, false, Option, None, Some, []}
use Rattle.op_core.specs.declared.want.Want.TheVariants as want
use Rattle.frame_facts.specs.Facts.{Lives}
use Rattle.map_model.specs.declared.call.Call.{Call}
use Rattle.world.specs.declared.site.Site.{Site}
use Rattle.world.specs.Ground.{Ground, version_of}
use Rattle.world.specs.Views.{View, Has}
use Rattle.world.specs.Attempts.{HoldsOnly}
use Rattle.part.specs.Outcomes.{Outcome, again, finished}
use Rattle.part.specs.Doings.{Doings}
use Rattle.part.specs.Part.{Part}
use Rattle.part.specs.Repairs.{HasRepaired}
use Rattle.repair_op.specs.declared.step.RepairEnd.{RepairEnd}
use Rattle.repair_op.specs.declared.step.RepairEnd.TheVariants as ends
use Rattle.repair_op.specs.declared.step.Settling.{Settling}
use Rattle.repair_op.specs.declared.step.Settling.TheVariants as settling
use Rattle.repair_op.specs.declared.step.RepairStep.{RepairStep}
use Rattle.repair_op.specs.declared.step.RepairStep.TheVariants.{Guard, Head, Link, Side, Slots, Free, GiveSlots, Unmark, Give, Ended}
use Rattle.repair_op.specs.declared.op.RepairOp.{RepairOp}
use Rattle.repair_op.specs.Guarded.{RunsHere, KeepsGuarded}
use Rattle.repair_op.specs.Steps.{begun, wanted, taken, end_of, is_guarded}
use Rattle.repair_op.specs.Stands.{kind_at, SuitsStep}
use Rattle.repair_op.specs.Remembers.{RemembersAt, RemembersGuarded}

-- ---- what is decided
-- by its end: a segment that has the image's version is repaired, and nothing is decided where another machine goes on
abbrev pub outcome_of : RepairEnd → Option Outcome
outcome_of ends.Current = Some finished
outcome_of (ends.Again why) = Some (again why)
outcome_of ends.Guarded = None

-- from there on the guard is given back
abbrev pub outcome_at : RepairStep → Option Outcome
outcome_at (Give end) = outcome_of end
outcome_at (Ended end) = outcome_of end
outcome_at step = None

-- ---- at most so many events are left
abbrev pub settle_left : Settling → ℕ
settle_left settling.Store = 3
settle_left settling.Flush = 2
settle_left settling.Fence = 1

abbrev pub left_at : RepairStep → ℕ
left_at Guard = 12
left_at Head = 11
left_at Link = 10
left_at (Side slot) = 9
left_at (Slots slot side) = 8
left_at (Free slot side settling) = 4 + settle_left settling
left_at GiveSlots = 4
left_at (Unmark settling) = settle_left settling
left_at (Give end) = 1
left_at (Ended end) = 0

abbrev pub most_events : ℕ
most_events = 12

-- ---- lines that are flushed and not fenced
abbrev pub settle_waiting : Settling → ℕ
settle_waiting settling.Fence = 1
settle_waiting more = 0

abbrev pub waiting_at : RepairStep → ℕ
waiting_at (Free slot side settling) = settle_waiting settling
waiting_at (Unmark settling) = settle_waiting settling
waiting_at step = 0

-- ---- THE VIEW
pub record RepairStands (site : Ground) (here : Site) (call : Call) (op : RepairOp) (v : View) : Type 0 where
  pub here_is : RunsHere site here op.guarded
  pub view : SuitsStep site here call op.guarded op.step v

-- THE BEGINNING OF A REPAIR AS A PART
abbrev pub repair_part : Part RepairOp
repair_part = record {
  wanted = wanted;
  taken = taken;
  kind = λ op n. kind_at op.guarded op.step;
  Stands = RepairStands;
  outcome = λ op. outcome_at op.step;
  Remembers = λ site op did. RemembersAt site op.guarded did op.step;
  HasWorked = λ site op did. HasRepaired site.shape (version_of site) op.guarded.segment did;
  HasMade = λ op. ⊥;
  left = λ op. left_at op.step;
  most_events = most_events;
  is_waiting = λ op. false;
  waiting = λ op. waiting_at op.step;
  most_waiting = 1;
  hands_on = λ op. is_guarded op.step;
}

-- the segment that is repaired
abbrev pub segment_of : RepairOp → ℕ
segment_of op = op.guarded.segment

-- ---- where it begins
-- by a caller that has a number, in an image of this version; its caller holds, knows and owes nothing, and knows the segment to be live
abbrev pub BeginsAsRepair : Type 0
BeginsAsRepair = (site : Ground) (here : Site) (call : Call) (segment : ℕ) (v : View) → here.geometry ≡ site.shape → here.version ≡ version_of site → 0 < here.caller → here.caller < 2 ^ 64
    → HoldsOnly [] v → Has (Lives segment) v.facts → RepairStands site here call (begun here segment) v

-- and nothing is decided
abbrev pub BeginsUndecided : Type 0
BeginsUndecided = (here : Site) (segment : ℕ) → outcome_at (begun here segment).step ≡ None

-- in an attempt that has changed no word so far
abbrev pub BeginsRemembering : Type 0
BeginsRemembering = (site : Ground) (here : Site) (segment : ℕ) (did : Doings) → did.changed ≡ [] → repair_part.Remembers site (begun here segment) did

-- ---- how it ends
-- WHERE IT HANDS ON the segment is guarded
abbrev pub HandsOnGuarded : Type 0
HandsOnGuarded = (site : Ground) (here : Site) (call : Call) (op : RepairOp) (v : View) → RepairStands site here call op v → is_guarded op.step ≡ true → KeepsGuarded site here call op.guarded v

-- and what the attempt did is remembered of that
abbrev pub HandsOnRemembered : Type 0
HandsOnRemembered = (site : Ground) (op : RepairOp) (did : Doings) → is_guarded op.step ≡ true → repair_part.Remembers site op did → RemembersGuarded site op.guarded did

-- WHERE IT WANTS NOTHING MORE, the end that it tells is the outcome that was decided
abbrev pub EndsAsSaid : Type 0
EndsAsSaid = (op : RepairOp) → wanted op ≡ want.Done → (end : RepairEnd) × (end_of op ≡ Some end) × (outcome_at op.step ≡ outcome_of end)
