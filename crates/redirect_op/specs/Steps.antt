-- What the redirecting of entries wants in each step, and what an answer makes of it; and how it ends.
use Rattle.std.specs.Prelude.{ℕ, ◌+◌, nat_le, nat_lt, min, Bool, true, false, Option, None, Some, if◌then◌else◌}
use Rattle.segment_head.specs.HeadWord.{depth_in, free}
use Rattle.segment_head.specs.SplitHeads.{one_side_head}
use Rattle.image_layout.specs.Places.{Shape, root_word}
use Rattle.image_layout.specs.StateWord.{no_version}
use Rattle.image_layout.specs.Volatile.{directory_guard, free_guard}
use Rattle.op_core.specs.declared.want.Want.{Want}
use Rattle.op_core.specs.declared.want.Want.TheVariants as want
use Rattle.op_core.specs.declared.want.Ans.{Ans}
use Rattle.op_core.specs.declared.want.Ans.TheVariants.{Value, Won, Lost, Passed}
use Rattle.op_core.specs.declared.why.Why.TheVariants.{Busy}
use Rattle.way.specs.Ways.{head_word}
use Rattle.rounds.specs.Steps.{rounds_stores, rounds_wanted, event_wanted, rounds_taken}
use Rattle.rounds.specs.Steps as rounds
use Rattle.directory_op.specs.Places.{entry_word_at, side_first, side_last}
use Rattle.repair_op.specs.declared.guarded.Guarded.{Guarded}
use Rattle.repair_op.specs.Guarded.{guard_of}
use Rattle.redirect_op.specs.declared.step.RedirectEnd.{RedirectEnd}
use Rattle.redirect_op.specs.declared.step.RedirectEnd.TheVariants as ends
use Rattle.redirect_op.specs.declared.step.RedirectStep.{RedirectStep}
use Rattle.redirect_op.specs.declared.step.RedirectStep.TheVariants.{Guard, Root, Entry, Head, Store, Settle, Fence, GiveDirectory, Give, Ended}
use Rattle.redirect_op.specs.declared.op.RedirectOp.{RedirectOp}

abbrev pub shape_of : RedirectOp → Shape
shape_of op = op.guarded.site.geometry

-- ---- which entries
-- a header with the depth and the pattern of the 1-side; entries are found by these two alone, so its version and its state do not matter: it has
-- the version that no image has, and is that of a free slot
abbrev pub side_region_head : ℕ → ℕ
side_region_head head = one_side_head no_version free head

-- the first and the last entry of the 1-side
abbrev pub first_entry : RedirectOp → ℕ
first_entry op = side_first op.root (side_region_head op.guarded.head)

abbrev pub last_entry : RedirectOp → ℕ
last_entry op = side_last op.root (side_region_head op.guarded.head)

-- the slot of the side, and 0 where there is none
abbrev pub slot_or_zero : Option ℕ → ℕ
slot_or_zero (Some slot) = slot
slot_or_zero None = 0

abbrev pub side_of : RedirectOp → ℕ
side_of op = slot_or_zero op.guarded.side

-- the store to an entry: its word and its value
abbrev pub store_to : RedirectOp → ℕ → ℕ × ℕ
store_to op index = (entry_word_at (shape_of op) op.root index, side_of op)

-- ---- what an answer makes of it
-- the same, at another step
abbrev pub go : RedirectOp → RedirectStep → RedirectOp
go op step = record op { step = step }

-- behind the last entry all is settled that was stored; where nothing was, there is a fence all the same
abbrev pub settle_by : Option Want → RedirectStep
settle_by (Some want) = Settle
settle_by None = Fence

-- behind an entry comes the next one
abbrev pub behind : RedirectOp → ℕ → RedirectOp
behind op index = go op (if nat_lt index (last_entry op) then Entry (index + 1) else settle_by (rounds_wanted op.rounds None))

-- the root is this: the first entry comes next, and nothing is stored yet
abbrev pub rooted_at : RedirectOp → ℕ → RedirectOp
rooted_at op root = record op { root = root; rounds = rounds.begun; step = Entry (side_first root (side_region_head op.guarded.head)) }

-- the root was loaded; a deeper one than the image may have counts as the deepest
abbrev pub rooted : RedirectOp → ℕ → RedirectOp
rooted op root = rooted_at op (min root (shape_of op).depth)

-- the header of the segment was loaded that an entry names: where it is no deeper than the stale one, the entry is to name the side
abbrev pub met_head : RedirectOp → ℕ → ℕ → RedirectOp
met_head op index head = if nat_le (depth_in head) (depth_in op.guarded.head) then go op (Store index) else behind op index

-- an event of the rounds was done: the store to an entry, or a flush or a fence before it
abbrev pub stored_by : Bool → RedirectOp → ℕ → RedirectOp
stored_by true op index = behind op index
stored_by false op index = op

abbrev pub with_rounds : RedirectOp → Option (ℕ × ℕ) → RedirectOp
with_rounds op next = record op { rounds = rounds_taken op.rounds next }

abbrev pub stored : RedirectOp → ℕ → RedirectOp
stored op index = stored_by (rounds_stores op.rounds (Some (store_to op index))) (with_rounds op (Some (store_to op index))) index

-- and once all is stored
abbrev pub settled_to : Option Want → RedirectStep
settled_to (Some want) = Settle
settled_to None = GiveDirectory

abbrev pub settled : RedirectOp → RedirectOp
settled op = go (with_rounds op None) (settled_to (rounds_wanted (rounds_taken op.rounds None) None))

-- the end of an attempt that found a guard taken
abbrev pub busy : ℕ → ℕ → RedirectEnd
busy word seen = ends.Again (Busy word seen)

-- ---- the machine
module _ (op : RedirectOp) where
  -- THE EVENT that it wants
  abbrev pub wanted_in : RedirectStep → Want
  wanted_in Guard = want.Exchange (directory_guard (shape_of op)) free_guard op.guarded.site.caller
  wanted_in Root = want.Load root_word
  wanted_in (Entry index) = want.Load (entry_word_at (shape_of op) op.root index)
  wanted_in (Head index slot) = want.Load (head_word (shape_of op) slot)
  wanted_in (Store index) = event_wanted op.rounds (Some (store_to op index))
  wanted_in Settle = event_wanted op.rounds None
  wanted_in Fence = want.Fence
  wanted_in GiveDirectory = want.Store (directory_guard (shape_of op)) free_guard
  wanted_in (Give end) = want.Store (guard_of op.guarded) free_guard
  wanted_in (Ended end) = want.Done

  -- WHAT AN ANSWER makes of it; one of another kind than was asked for leaves it as it is
  abbrev pub next_in : RedirectStep → Ans → RedirectOp
  next_in Guard Won = go op Root
  next_in Guard (Lost seen) = go op (Give (busy (directory_guard (shape_of op)) seen))
  next_in Root (Value root) = rooted op root
  next_in (Entry index) (Value slot) = go op (Head index slot)
  next_in (Head index slot) (Value head) = met_head op index head
  next_in (Store index) Passed = stored op index
  next_in Settle Passed = settled op
  next_in Fence Passed = go op GiveDirectory
  next_in GiveDirectory Passed = go op (Ended ends.Guarded)
  next_in (Give end) Passed = go op (Ended end)
  next_in same ans = go op same

abbrev pub wanted : RedirectOp → Want
wanted op = wanted_in op op.step

abbrev pub taken : RedirectOp → Ans → RedirectOp
taken op ans = next_in op op.step ans

-- one that has done nothing yet; without a ready side there is nothing to do
abbrev pub begun_at : Option ℕ → RedirectStep
begun_at (Some side) = Guard
begun_at None = Ended ends.Guarded

abbrev pub begun : Guarded → RedirectOp
begun guarded = record { guarded = guarded; root = 0; rounds = rounds.begun; step = begun_at guarded.side }

-- ---- how it ended, once it has
abbrev pub end_at : RedirectStep → Option RedirectEnd
end_at (Ended end) = Some end
end_at more = None

abbrev pub end_of : RedirectOp → Option RedirectEnd
end_of op = end_at op.step

-- no entry leads past the side, and another machine goes on
abbrev pub is_redirected : RedirectStep → Bool
is_redirected (Ended ends.Guarded) = true
is_redirected step = false
