-- What the beginning of a repair wants in each step, and what an answer makes of it; and how it ends.
use Rattle.std.specs.Prelude.{ℕ, ◌==◌, Bool, true, false, Option, None, Some, if◌then◌else◌}
use Rattle.trace.specs.Events.{line_of}
use Rattle.segment_head.specs.HeadWord.{version_in, state_in, depth_in, pattern_in, free, normal, splitting, linked_in}
pub use Rattle.segment_head.specs.SplitHeads.{with_state}
use Rattle.image_layout.specs.Volatile.{allocation_guard, free_guard}
use Rattle.way.specs.Ways.{head_word}
use Rattle.op_core.specs.declared.want.Want.{Want}
use Rattle.op_core.specs.declared.want.Want.TheVariants as want
use Rattle.op_core.specs.declared.want.Ans.{Ans}
use Rattle.op_core.specs.declared.want.Ans.TheVariants.{Value, Won, Lost, Passed}
use Rattle.op_core.specs.declared.why.Why.TheVariants.{Busy}
use Rattle.world.specs.declared.site.Site.{Site}
use Rattle.world.specs.areas.Kinds.{is_new_side, is_ready_side}
use Rattle.repair_op.specs.declared.guarded.Guarded.{Guarded}
use Rattle.repair_op.specs.declared.step.RepairEnd.{RepairEnd}
use Rattle.repair_op.specs.declared.step.RepairEnd.TheVariants as ends
use Rattle.repair_op.specs.declared.step.Settling.{Settling}
use Rattle.repair_op.specs.declared.step.Settling.TheVariants as settling
use Rattle.repair_op.specs.declared.step.RepairStep.{RepairStep}
use Rattle.repair_op.specs.declared.step.RepairStep.TheVariants.{Guard, Head, Link, Side, Slots, Free, GiveSlots, Unmark, Give, Ended}
use Rattle.repair_op.specs.declared.op.RepairOp.{RepairOp}
use Rattle.repair_op.specs.Guarded.{guard_of, link_of}

-- ---- a word is settled
-- the event that comes next, of a value in a word
abbrev pub settle_wanted : Settling → ℕ → ℕ → Want
settle_wanted settling.Store word value = want.Store word value
settle_wanted settling.Flush word value = want.Flush (line_of word)
settle_wanted settling.Fence word value = want.Fence

-- and what comes after it; none where the word is settled
abbrev pub settled : Settling → Option Settling
settled settling.Store = Some settling.Flush
settled settling.Flush = Some settling.Fence
settled settling.Fence = None

-- ---- what an answer makes of it
-- the same, at another step
abbrev pub go : RepairOp → RepairStep → RepairOp
go op step = record op { step = step }

-- the segment is guarded, as it is or with another header or side
abbrev pub guarded_as : Guarded → RepairOp
guarded_as g = record { guarded = g; step = Ended ends.Guarded }

abbrev pub with_head : Guarded → ℕ → Guarded
with_head g head = record g { head = head }

abbrev pub with_side : Guarded → ℕ → Guarded
with_side g slot = record g { side = Some slot }

-- the end of an attempt that found a guard taken
abbrev pub busy : ℕ → ℕ → RepairEnd
busy word seen = ends.Again (Busy word seen)

-- behind the load of the header: the segment may have the image's version by now; one that is not splitting is handed on as it is
abbrev pub headed_to : Guarded → RepairStep
headed_to g =
    if version_in g.head == g.site.version then Give ends.Current
    else if state_in g.head == splitting then Link else Ended ends.Guarded

abbrev pub headed : RepairOp → ℕ → RepairOp
headed op head = record { guarded = with_head op.guarded head; step = headed_to (with_head op.guarded head) }

-- behind that of the link, by the slot that it names
abbrev pub linked_by : Option ℕ → RepairStep
linked_by None = Unmark settling.Store
linked_by (Some slot) = Side slot

abbrev pub linked : ℕ → RepairStep
linked link = linked_by (linked_in link)

-- behind that of the header of the slot that is linked
abbrev pub met_side : RepairOp → ℕ → ℕ → RepairOp
met_side op slot side =
    if is_ready_side (depth_in op.guarded.head) (pattern_in op.guarded.head) side then guarded_as (with_side op.guarded slot)
    else if is_new_side (depth_in op.guarded.head) (pattern_in op.guarded.head) side then go op (Slots slot side)
    else go op (Unmark settling.Store)

-- behind an event by which a slot becomes free, and one by which the segment becomes normal
abbrev pub freed_by : Option Settling → ℕ → ℕ → RepairStep
freed_by (Some more) slot side = Free slot side more
freed_by None slot side = GiveSlots

abbrev pub freed : ℕ → ℕ → Settling → RepairStep
freed slot side settling = freed_by (settled settling) slot side

abbrev pub unmarked_by : Option Settling → RepairOp → RepairOp
unmarked_by (Some more) op = go op (Unmark more)
unmarked_by None op = guarded_as (with_head op.guarded (with_state op.guarded.head normal))

abbrev pub unmarked : RepairOp → Settling → RepairOp
unmarked op settling = unmarked_by (settled settling) op

-- ---- the machine
module _ (op : RepairOp) where
  -- THE EVENT that it wants
  abbrev pub wanted_in : RepairStep → Want
  wanted_in Guard = want.Exchange (guard_of op.guarded) free_guard op.guarded.site.caller
  wanted_in Head = want.Load (head_word op.guarded.site.geometry op.guarded.segment)
  wanted_in Link = want.Load (link_of op.guarded)
  wanted_in (Side slot) = want.Load (head_word op.guarded.site.geometry slot)
  wanted_in (Slots slot side) = want.Exchange (allocation_guard op.guarded.site.geometry) free_guard op.guarded.site.caller
  wanted_in (Free slot side settling) = settle_wanted settling (head_word op.guarded.site.geometry slot) (with_state side free)
  wanted_in GiveSlots = want.Store (allocation_guard op.guarded.site.geometry) free_guard
  wanted_in (Unmark settling) = settle_wanted settling (head_word op.guarded.site.geometry op.guarded.segment) (with_state op.guarded.head normal)
  wanted_in (Give end) = want.Store (guard_of op.guarded) free_guard
  wanted_in (Ended end) = want.Done

  -- WHAT AN ANSWER makes of it; one of another kind than was asked for leaves it as it is
  abbrev pub next_in : RepairStep → Ans → RepairOp
  next_in Guard Won = go op Head
  next_in Guard (Lost seen) = go op (Ended (busy (guard_of op.guarded) seen))
  next_in Head (Value head) = headed op head
  next_in Link (Value link) = go op (linked link)
  next_in (Side slot) (Value side) = met_side op slot side
  next_in (Slots slot side) Won = go op (Free slot side settling.Store)
  next_in (Slots slot side) (Lost seen) = go op (Give (busy (allocation_guard op.guarded.site.geometry) seen))
  next_in (Free slot side settling) Passed = go op (freed slot side settling)
  next_in GiveSlots Passed = go op (Unmark settling.Store)
  next_in (Unmark settling) Passed = unmarked op settling
  next_in (Give end) Passed = go op (Ended end)
  next_in same ans = go op same

abbrev pub wanted : RepairOp → Want
wanted op = wanted_in op op.step

abbrev pub taken : RepairOp → Ans → RepairOp
taken op ans = next_in op op.step ans

-- one that has done nothing yet
abbrev pub begun : Site → ℕ → RepairOp
begun here segment = record { guarded = record { site = here; segment = segment; head = 0; side = None }; step = Guard }

-- ---- how it ended, once it has
abbrev pub end_at : RepairStep → Option RepairEnd
end_at (Ended end) = Some end
end_at more = None

abbrev pub end_of : RepairOp → Option RepairEnd
end_of op = end_at op.step

-- the segment is guarded, and another machine goes on
abbrev pub is_guarded : RepairStep → Bool
is_guarded (Ended ends.Guarded) = true
is_guarded step = false
