-- The machine as a part of a call: the kind of each event, how the view stands, how it ends, and that it wins a guard that is free.
use Rattle.std.specs.Prelude.{◌≡◌, ◌≢◌, ℕ, ◌+◌, ◌<◌, ◌≤◌, ⊤, Bool, true, false, Option, None, Some, List, [], ◌∷◌}
use Rattle.op_core.specs.declared.want.Want.{Want}
use Rattle.op_core.specs.declared.want.Want.TheVariants as want
use Rattle.trace.specs.Events.{Words}
use Rattle.segment_head.specs.HeadWord.{depth_in, pattern_in}
use Rattle.segment_head.specs.SplitHeads.{side_depth_in, side_pattern_in}
use Rattle.image_layout.specs.Places.{root_word, depth_above, entry_above}
use Rattle.image_layout.specs.Volatile.{directory_guard, free_guard}
use Rattle.way.specs.Ways.{head_word}
use Rattle.whole_segment.specs.Rounds.{most_lines}
use Rattle.frame_facts.specs.Facts.{Fact, Lacks, Deep}
use Rattle.map_model.specs.declared.call.Call.{Call}
use Rattle.world.specs.declared.site.Site.{Site}
use Rattle.world.specs.Ground.{Ground, IsGround}
use Rattle.world.specs.Views.{View, Has}
use Rattle.world.specs.Kinds.{peeks, asks_power}
use Rattle.world.specs.areas.Areas.{Directory}
use Rattle.world.specs.areas.Rows.{goes_live}
use Rattle.world.specs.areas.Kinds.{of_directory, takes, gives, reads, moves, settles_side}
use Rattle.world.specs.StepKinds.{StepKind, of_call, of_structure}
use Rattle.part.specs.Outcomes.{Outcome, off}
use Rattle.part.specs.Part.{Part, Suits, next}
use Rattle.rounds.specs.Steps.{rounds_wanted}
use Rattle.rounds.specs.Stands.{kind_of}
use Rattle.split_op.specs.Splitting.{KeepsSplit}
use Rattle.split_op.specs.declared.copied.Copied.{Copied}
use Rattle.split_op.specs.Copied.{KeepsCopied}
use Rattle.directory_op.specs.declared.op.DirectoryEnd.TheVariants.{Published, Off}
use Rattle.directory_op.specs.declared.op.Stage.{Stage}
use Rattle.directory_op.specs.declared.op.Stage.TheVariants.{GoLive, Live, Entered}
use Rattle.directory_op.specs.declared.op.DirectoryStep.{DirectoryStep}
use Rattle.directory_op.specs.declared.op.DirectoryStep.TheVariants.{LoadHead, LoadSideHead, TakeGuard, AskPower, LoadRoot, LoadEntry, Store, GiveGuard, Ended}
use Rattle.directory_op.specs.declared.op.DirectoryOp.{DirectoryOp}
use Rattle.directory_op.specs.Places.{entry_word_at}
use Rattle.directory_op.specs.Steps.{directed, shape_of, next_store, wanted, taken}
use Rattle.directory_op.specs.Left.{left_of, events_in, most_events, is_trying, left_alone, waiting_of}
use Rattle.directory_op.specs.Fits.{SuitsStep, KeepsPublished}

-- ---- the kind of each event
-- what is relied on behind the fences of a stage: behind the last one, that of the 1-side all entries name a deeper segment, and that the
-- segment which is split has nothing of it
abbrev pub facts_of : DirectoryOp → Stage → List Fact
facts_of op Entered = Deep (depth_in op.head) (side_depth_in op.head) (side_pattern_in op.head) ∷ Lacks op.copied.whole.segment (side_depth_in op.head) (side_pattern_in op.head) ∷ []
facts_of op other = []

-- the store of the side's header makes it live, and the fence behind that settles it as live; all else is an event of the rounds
abbrev pub stage_kind : DirectoryOp → Stage → Option Want → StepKind
stage_kind op GoLive (Some (want.Store word value)) = of_structure (moves (goes_live op.copied.whole.segment) op.copied.side value)
stage_kind op Live (Some want.Fence) = of_structure (settles_side op.copied.side (depth_in op.side_head) (pattern_in op.side_head))
stage_kind op stage event = kind_of (facts_of op stage) event

abbrev pub kind_in : DirectoryOp → DirectoryStep → StepKind
kind_in op LoadHead = of_structure (reads (head_word (shape_of op) op.copied.whole.segment))
kind_in op LoadSideHead = of_structure (reads (head_word (shape_of op) op.copied.side))
kind_in op TakeGuard = of_structure (takes of_directory op.copied.whole.site.caller)
kind_in op AskPower = of_call asks_power
kind_in op LoadRoot = of_structure (reads root_word)
kind_in op (LoadEntry place) = of_structure (reads (entry_word_at (shape_of op) (depth_above op.root) (entry_above place)))
kind_in op (Store stage) = stage_kind op stage (rounds_wanted op.rounds (next_store op stage))
kind_in op GiveGuard = of_structure (gives of_directory)
kind_in op (Ended end) = of_call (peeks root_word)

-- ---- how it ends
abbrev pub outcome_at : DirectoryStep → Option Outcome
outcome_at (Ended Off) = Some off
outcome_at step = None

-- once the side is published, another machine goes on
abbrev pub goes_on : DirectoryStep → Bool
goes_on (Ended Published) = true
goes_on step = false

-- THE MACHINE AS A PART
abbrev pub directory_part : Part DirectoryOp
directory_part = record {
  wanted = wanted;
  taken = taken;
  kind = λ op n. kind_in op op.step;
  Stands = λ site here call op v. SuitsStep site here op call op.step v;
  outcome = λ op. outcome_at op.step;
  Remembers = λ site op did. ⊤;
  HasWorked = λ site op did. ⊥;
  HasMade = λ op. ⊥;
  left = left_of;
  most_events = most_events;
  is_waiting = λ op. is_trying op.step;
  waiting = waiting_of;
  most_waiting = most_lines;
  hands_on = λ op. goes_on op.step;
}

-- the segment that is split
abbrev pub segment_of : DirectoryOp → ℕ
segment_of op = op.copied.whole.segment

-- ---- where it begins, and what it hands on
-- with what a split has copied
abbrev pub BeginsAsPart : Type 0
BeginsAsPart = (site : Ground) (here : Site) (call : Call) (c : Copied) (v : View) → KeepsCopied site here call c v → directory_part.Stands site here call (directed c) v

-- with nothing decided
abbrev pub BeginsUndecided : Type 0
BeginsUndecided = (c : Copied) → directory_part.outcome (directed c) ≡ None

-- with as many events left as the shape of the image allows
abbrev pub BeginsWithinImage : Type 0
BeginsWithinImage = (c : Copied) → left_of (directed c) ≡ events_in c.whole.site.geometry

-- it hands on what is published of that
abbrev pub HandsOnPublished : Type 0
HandsOnPublished = (site : Ground) (here : Site) (call : Call) (op : DirectoryOp) (v : View) → directory_part.Stands site here call op v → directory_part.hands_on op ≡ true
    → KeepsPublished site here call op.copied v

-- and where it wants nothing more, and does not hand on, the power was off
abbrev pub EndsOff : Type 0
EndsOff = (site : Ground) (here : Site) (call : Call) (op : DirectoryOp) (v : View) → directory_part.Stands site here call op v → wanted op ≡ want.Done → directory_part.hands_on op ≡ false
    → directory_part.outcome op ≡ Some off

-- so the rest of the split may begin
abbrev pub HandsOnSplit : Type 0
HandsOnSplit = (site : Ground) (here : Site) (call : Call) (op : DirectoryOp) (v : View) → IsGround site → directory_part.Stands site here call op v → directory_part.hands_on op ≡ true
    → KeepsSplit site here call op.copied.whole v

-- ---- how long it waits
-- WHERE THE GUARD IS FREE IT IS WON: while its word is that of a free one whenever it is waited for, each event leaves fewer events, which
-- are one more at the most than are left where others may have it; and who waits for it has it not
pub record WinsWhereFree : Type 0 where
  pub falls : (site : Ground) (here : Site) (call : Call) (words : Words) (op : DirectoryOp) (before v : View) → Suits directory_part site here call op before v → wanted op ≢ want.Done
      → (directory_part.is_waiting op ≡ true → words (directory_guard site.shape) ≡ free_guard) → left_alone (next directory_part site words op) < left_alone op
  pub most : (op : DirectoryOp) → left_alone op ≤ left_of op + 1
  pub others : (site : Ground) (here : Site) (call : Call) (op : DirectoryOp) (v : View) → directory_part.Stands site here call op v → directory_part.is_waiting op ≡ true → Has Directory v.areas → ⊥
