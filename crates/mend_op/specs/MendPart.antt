-- A mending as a part of a call: with what it begins, and how it ends.
use Rattle.std.specs.Prelude.{◌≡◌, ℕ, suc, ◌+◌, ◌-◌, ◌*◌, ◌^◌, ◌<◌, ⊤, false, Option, None, Some, length, slice_index}
use Rattle.op_core.specs.declared.want.Want.TheVariants as want
use Rattle.image_layout.specs.Places.{note_words, words_of_buckets}
use Rattle.map_model.specs.declared.call.Call.{Call}
use Rattle.world.specs.declared.site.Site.{Site}
use Rattle.world.specs.Ground.{Ground, version_of}
use Rattle.world.specs.Views.{View, Has}
use Rattle.world.specs.areas.Areas.{header_word}
use Rattle.part.specs.Doings.{Doings}
use Rattle.part.specs.Outcomes.{Outcome, finished}
use Rattle.part.specs.Part.{Part}
use Rattle.part.specs.Repairs.{HasRepaired}
use Rattle.whole_segment.specs.Rounds.{most_lines}
use Rattle.rounds.specs.declared.rounds.Rounds.{Rounds}
use Rattle.rounds.specs.Left.{rounds_left, few_left}
use Rattle.rounds.specs.Waiting.{rounds_waiting}
use Rattle.repair_op.specs.declared.guarded.Guarded.{Guarded}
use Rattle.repair_op.specs.Guarded.{RunsHere, IsOld, KeepsRedirected}
use Rattle.mend_op.specs.declared.stage.Stage.{Stage}
use Rattle.mend_op.specs.declared.stage.Stage.TheVariants as stage
use Rattle.mend_op.specs.declared.op.MendEnd.TheVariants as ends
use Rattle.mend_op.specs.declared.op.MendStep.{MendStep}
use Rattle.mend_op.specs.declared.op.MendStep.TheVariants.{Fill, Round, Finish, FinishFlush, FinishFence, Note, Renew, RenewFlush, RenewFence, Give, Ended}
use Rattle.mend_op.specs.declared.op.MendOp.{MendOp}
use Rattle.mend_op.specs.Stages.{most}
use Rattle.mend_op.specs.Steps.{wanted, taken, begun, end_of}
use Rattle.mend_op.specs.Stands.{kind_at, SuitsStep}

-- ---- what is decided
abbrev pub outcome_at : MendStep → Option Outcome
outcome_at Ended = Some finished
outcome_at step = None

-- ---- at most so many events are left
-- the header with the image's version, and the guard
abbrev pub after_notes : ℕ
after_notes = 4

-- the notes from one on
abbrev pub notes_left : ℕ → ℕ
notes_left n = note_words - n + after_notes

-- behind the rounds of a stage: those that follow store each of their words at most
abbrev pub after_stage : Stage → ℕ
after_stage stage.Clear = 3 + 3 * most stage.Mend + notes_left 0
after_stage stage.Mend = notes_left 0
after_stage stage.Note = after_notes

-- while words are stored in rounds, no round has touched more lines than it may
abbrev pub round_left : Stage → ℕ → Rounds → ℕ
round_left stage n rounds = few_left rounds (rounds_left rounds (most stage - n) + after_stage stage)

-- the words from one on are loaded, and all stages are to come
abbrev pub fills_left : ℕ → ℕ
fills_left i = words_of_buckets - i + 3 * most stage.Clear + after_stage stage.Clear

abbrev pub left_at : MendStep → ℕ
left_at (Fill i) = suc (fills_left (i + 1))
left_at (Round stage n rounds) = round_left stage n rounds
left_at Finish = after_stage stage.Clear
left_at FinishFlush = 2 + 3 * most stage.Mend + notes_left 0
left_at FinishFence = 1 + 3 * most stage.Mend + notes_left 0
left_at (Note n) = suc (notes_left (n + 1))
left_at Renew = 4
left_at RenewFlush = 3
left_at RenewFence = 2
left_at Give = 1
left_at Ended = 0

abbrev pub most_events : ℕ
most_events = 2841

-- ---- lines that are flushed and not fenced
abbrev pub waiting_at : MendStep → ℕ
waiting_at (Round stage n rounds) = rounds_waiting rounds
waiting_at FinishFence = 1
waiting_at RenewFence = 1
waiting_at step = 0

-- ---- THE VIEW
-- what it has is of a stale segment here, and is words
pub record IsOf (site : Ground) (here : Site) (op : MendOp) : Type 0 where
  pub here_is : RunsHere site here op.guarded
  pub old : IsOld site op.guarded
  pub each_word : length op.words ≡ words_of_buckets
  pub small : (i : ℕ) → slice_index op.words i < 2 ^ 64
  pub next_small : (i : ℕ) → slice_index op.next i < 2 ^ 64

pub record MendStands (site : Ground) (here : Site) (call : Call) (op : MendOp) (v : View) : Type 0 where
  pub is : IsOf site here op
  pub view : SuitsStep site op op.step v

-- ---- what is remembered of what its attempt did: that it stored the header, once that has the image's version
abbrev pub HasStoredHeader : Ground → MendOp → Doings → Type 0
HasStoredHeader site op did = Has (header_word site.shape op.guarded.segment) did.changed

abbrev pub RemembersAt : Ground → MendOp → Doings → MendStep → Type 0
RemembersAt site op did RenewFlush = HasStoredHeader site op did
RemembersAt site op did RenewFence = HasStoredHeader site op did
RemembersAt site op did Give = HasStoredHeader site op did
RemembersAt site op did Ended = HasStoredHeader site op did
RemembersAt site op did step = ⊤

-- A MENDING AS A PART: it has worked where the segment is repaired
abbrev pub mend_part : Part MendOp
mend_part = record {
  wanted = wanted;
  taken = taken;
  kind = λ op n. kind_at op op.step;
  Stands = MendStands;
  outcome = λ op. outcome_at op.step;
  Remembers = λ site op did. RemembersAt site op did op.step;
  HasWorked = λ site op did. HasRepaired site.shape (version_of site) op.guarded.segment did;
  HasMade = λ op. ⊥;
  left = λ op. left_at op.step;
  most_events = most_events;
  is_waiting = λ op. false;
  waiting = λ op. waiting_at op.step;
  most_waiting = most_lines;
  hands_on = λ op. false;
}

-- the segment that is repaired
abbrev pub segment_of : MendOp → ℕ
segment_of op = op.guarded.segment

-- ---- where it begins: with a segment whose entries are in order, having done nothing
abbrev pub BeginsAsPart : Type 0
BeginsAsPart = (site : Ground) (here : Site) (call : Call) (guarded : Guarded) (v : View) → KeepsRedirected site here call guarded v → MendStands site here call (begun guarded) v

-- and nothing is decided
abbrev pub BeginsUndecided : Type 0
BeginsUndecided = (guarded : Guarded) → outcome_at (begun guarded).step ≡ None

-- and nothing is remembered
abbrev pub BeginsRemembering : Type 0
BeginsRemembering = (site : Ground) (guarded : Guarded) (did : Doings) → mend_part.Remembers site (begun guarded) did

-- ---- IT ENDS with the segment repaired, and tells so
abbrev pub EndsRepaired : Type 0
EndsRepaired = (site : Ground) (here : Site) (call : Call) (op : MendOp) (v : View) → MendStands site here call op v → wanted op ≡ want.Done → (outcome_at op.step ≡ Some finished) × (end_of op ≡ Some ends.Repaired)
