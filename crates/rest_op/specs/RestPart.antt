-- The rest of a split as a part of a call: with what it may begin, and how it ends.
use Rattle.std.specs.Prelude.{◌≡◌, ℕ, suc, ◌+◌, ◌-◌, ⊤, Bool, true, false, Option, None, Some}
use Rattle.op_core.specs.declared.want.Want.TheVariants as want
use Rattle.op_core.specs.declared.want.Ans.{Ans}
use Rattle.segment_head.specs.HeadWord.{version_in, pattern_in, normal}
use Rattle.segment_head.specs.Prefixes.{pattern_of_zero_side}
use Rattle.segment_head.specs.SplitHeads.{finished_head}
use Rattle.image_layout.specs.Places.{buckets, note_words}
use Rattle.map_model.specs.declared.call.Call.{Call}
use Rattle.way.specs.Ways.{head_word}
use Rattle.world.specs.declared.site.Site.{Site}
use Rattle.world.specs.Ground.{Ground, IsGround}
use Rattle.world.specs.Views.{View}
use Rattle.world.specs.areas.Splitting.{IsHeader}
use Rattle.part.specs.Outcomes.{Outcome, finished}
use Rattle.part.specs.Part.{Part}
use Rattle.whole_segment.specs.Rounds.{most_lines}
use Rattle.rounds.specs.declared.rounds.Rounds.{Rounds}
use Rattle.rounds.specs.Left.{rounds_left, few_left}
use Rattle.rounds.specs.Waiting.{rounds_waiting}
use Rattle.enclose_op.specs.declared.enclosed.Enclosed.{Enclosed}
use Rattle.enclose_op.specs.Whole.{IsOf, IsWhole}
use Rattle.enclose_op.specs.Fits.{give_left}
use Rattle.enclose_op.specs.Splitting.{KeepsSplit}
use Rattle.rest_op.specs.declared.op.RestEnd.TheVariants as ends
use Rattle.rest_op.specs.declared.op.RestStep.{RestStep}
use Rattle.rest_op.specs.declared.op.RestStep.TheVariants.{Clear, Head, HeadFlush, HeadFence, Note, Open, Give, Ended}
use Rattle.rest_op.specs.declared.op.RestOp.{RestOp}
use Rattle.rest_op.specs.Steps.{wanted, taken, begun_in, end_of}
use Rattle.rest_op.specs.Reckoned.{side_depth, IsReckoned, rest_of}
use Rattle.rest_op.specs.Stands.{kind_at, SuitsStep}

-- ---- what is decided
abbrev pub outcome_at : RestStep → Option Outcome
outcome_at Ended = Some finished
outcome_at step = None

-- ---- at most so many events are left
-- the notes, the locks and the guard
abbrev pub after_head : ℕ
after_head = note_words + (buckets + 1)

-- a word of the notes and those behind it, the locks and the guard
abbrev pub notes_left : ℕ → ℕ
notes_left n = suc (note_words - 1 - n) + (buckets + 1)

-- while buckets are cleared, no round has touched more lines than it may
abbrev pub clear_left : ℕ → Rounds → ℕ
clear_left b rounds = few_left rounds (rounds_left rounds (buckets - b) + 3 + after_head)

abbrev pub left_at : RestStep → ℕ
left_at (Clear b rounds) = clear_left b rounds
left_at Head = 3 + after_head
left_at HeadFlush = 2 + after_head
left_at HeadFence = 1 + after_head
left_at (Note n) = notes_left n
left_at Open = buckets + 1
left_at (Give give) = give_left give
left_at Ended = 0

abbrev pub most_events : ℕ
most_events = 405

-- ---- lines that are flushed and not fenced
abbrev pub waiting_at : RestStep → ℕ
waiting_at (Clear b rounds) = rounds_waiting rounds
waiting_at HeadFence = 1
waiting_at step = 0

-- ---- THE VIEW
-- it goes on from a whole segment of this call, by what was reckoned right of it
pub record RestStands (site : Ground) (here : Site) (call : Call) (op : RestOp) (v : View) : Type 0 where
  pub is : IsOf site here call op.whole
  pub whole : IsWhole site op.whole
  pub reckoned : IsReckoned op
  pub view : SuitsStep site op op.step v

-- THE REST OF A SPLIT AS A PART
abbrev pub rest_part : Part RestOp
rest_part = record {
  wanted = wanted;
  taken = taken;
  kind = λ op n. kind_at op op.step;
  Stands = RestStands;
  outcome = λ op. outcome_at op.step;
  Remembers = λ site op did. ⊤;
  HasWorked = λ site op did. ⊥;
  HasMade = λ op. ⊥;
  left = λ op. left_at op.step;
  most_events = most_events;
  is_waiting = λ op. false;
  waiting = λ op. waiting_at op.step;
  most_waiting = most_lines;
  hands_on = λ op. false;
}

-- the segment that is split
abbrev pub segment_of : RestOp → ℕ
segment_of op = op.whole.segment

-- ---- where it begins
-- with such a view, where it was reckoned right
abbrev pub BeginsAsPart : Type 0
BeginsAsPart = (site : Ground) (here : Site) (call : Call) (op : RestOp) (v : View) → KeepsSplit site here call op.whole v → IsReckoned op → op.step ≡ begun_in op → RestStands site here call op v

-- what is reckoned of a whole segment is right
abbrev pub ReckonsRight : Type 0
ReckonsRight = (site : Ground) (here : Site) (call : Call) (e : Enclosed) → IsGround site → IsOf site here call e → IsWhole site e → IsReckoned (rest_of e)

-- and nothing is decided
abbrev pub BeginsUndecided : Type 0
BeginsUndecided = (op : RestOp) → outcome_at (begun_in op) ≡ None

-- ---- IT ENDS with the split made
abbrev pub EndsAsSplit : Type 0
EndsAsSplit = (site : Ground) (here : Site) (call : Call) (op : RestOp) (v : View) → RestStands site here call op v → wanted op ≡ want.Done → (outcome_at op.step ≡ Some finished) × (end_of op ≡ ends.Split)

-- ---- the header
-- it was stored
abbrev pub is_headed : RestStep → Bool
is_headed (Clear b rounds) = false
is_headed Head = false
is_headed step = true

-- THE SPLIT IS MADE BY THE STORE OF THE HEADER, of a normal segment that is one deeper, with a 0 behind its pattern: that is not stored at first, is
-- stored by one event, whatever is answered, and was where the split is told as made
pub record StoresHeader : Type 0 where
  pub begins : (op : RestOp) → is_headed (begun_in op) ≡ false
  pub stores : (op : RestOp) (a : Ans) → is_headed op.step ≡ false → is_headed (taken op a).step ≡ true
      → wanted op ≡ want.Store (head_word op.whole.site.geometry op.whole.segment) (finished_head op.whole.head)
  pub same : (op : RestOp) (a : Ans) → (taken op a).whole ≡ op.whole
  pub ends : (op : RestOp) → outcome_at op.step ≡ Some finished → is_headed op.step ≡ true
  pub header : (site : Ground) (here : Site) (call : Call) (e : Enclosed) → IsGround site → IsOf site here call e → IsWhole site e
      → IsHeader (finished_head e.head) normal (side_depth e) (pattern_of_zero_side (pattern_in e.head)) (version_in e.head)
