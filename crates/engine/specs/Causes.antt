-- What the running attempt of each caller did so far, and the cause of each end of an attempt, at the event that decides it.
use Rattle.std.specs.Prelude.{◌≡◌, ℕ, zero, suc, ◌==◌, if◌then◌else◌, Option, None, Some, List, [], ◌∷◌, slice_get}
use Rattle.op_core.specs.declared.want.Want.{Want}
use Rattle.op_core.specs.declared.want.Want.TheVariants as want
use Rattle.op_core.specs.declared.want.Ans.{Ans}
use Rattle.trace.specs.Events.{Words}
use Rattle.segment_head.specs.HeadWord.{version_in}
use Rattle.image_layout.specs.Places.{Shape}
use Rattle.map_model.specs.declared.call.Call.{Call}
use Rattle.world.specs.declared.site.Site.{Site}
use Rattle.world.specs.Ground.{Ground}
use Rattle.world.specs.Views.{View}
use Rattle.world.specs.Wants.{answer_to, word_of}
use Rattle.world.specs.Attempts.{HoldsOnly}
use Rattle.world.specs.areas.Areas.{header_word}
use Rattle.part.specs.Doings.{Doings, nothing_done, with_event_of}
use Rattle.part.specs.Outcomes.{Outcome, replied, again, stale, need_split, off, finished}
use Rattle.part.specs.Part.{IsPart}
use Rattle.part.specs.Causes.{HasReplyCause, HasAgainCause, FindsNoRoom, IsStale, EndsByCause}
use Rattle.part.specs.Splits.{HasSplitCause, EndsBySplitCause}
use Rattle.part.specs.Repairs.{HasRepairCause, EndsByRepairCause}
use Rattle.repair_op.specs.Finishing.{FinishesCurrent}
use Rattle.engine.specs.declared.engine.Engine.{Engine}
use Rattle.engine.specs.Engine.{wanted, taken, end_of, outcome_of_end, IsFresh}
use Rattle.engine.specs.OpPart.{call_part, whole_split, split_segment_in, whole_repair, repaired_segment_in, Work, calls, splits, repairs, work_of, op_part}
use Rattle.engine.specs.Core.{Caller, Core, current, turn, run}
use Rattle.engine.specs.Laws.{IsServedImage, opened, AreScripts}

-- ---- what an attempt did
-- with what an event did, by what the engine wants after it: where that is nothing more the attempt has ended, and the next has
-- done nothing
abbrev pub doings_by : Want → Want → Ans → Doings → Doings
doings_by want.Done w a d = nothing_done
doings_by next w a d = with_event_of w a d

-- a core, and what the running attempt of the caller at each place did
pub record Watched : Type 0 where
  pub core : Core
  pub doings : ℕ → Doings

abbrev pub watched : Core → Watched
watched core = record { core = core; doings = λ j. nothing_done }

-- these, but for the caller at place j
abbrev pub with_doings : ℕ → Doings → (ℕ → Doings) → ℕ → Doings
with_doings j d doings i = if i == j then d else doings i

module _ (shape : Shape) where
  -- what the next event of an engine is answered, and the engine after it
  abbrev pub answer_now : Words → Engine → Ans
  answer_now words e = answer_to (wanted e) (words (word_of shape (wanted e)))

  abbrev pub engine_next : Words → Engine → Engine
  engine_next words e = taken e (answer_now words e)

  -- what each caller did after a turn of the one at place j
  abbrev pub doings_of_call : ℕ → Watched → Option Call → Option Engine → ℕ → Doings
  doings_of_call j w None engine = w.doings
  doings_of_call j w (Some call) None = w.doings
  doings_of_call j w (Some call) (Some e) =
      with_doings j (doings_by (wanted (engine_next w.core.words e)) (wanted e) (answer_now w.core.words e) (w.doings j)) w.doings

  abbrev pub doings_of_caller : ℕ → Watched → Option Caller → ℕ → Doings
  doings_of_caller j w None = w.doings
  doings_of_caller j w (Some caller) = doings_of_call j w (current caller) caller.engine

  abbrev pub doings_after : ℕ → Watched → ℕ → Doings
  doings_after zero w = w.doings
  doings_after (suc j) w = doings_of_caller j w (slice_get w.core.callers j)

  -- A TURN that is watched, and turns one after another
  abbrev pub watched_turn : ℕ → Watched → Watched
  watched_turn c w = record { core = turn shape c w.core; doings = doings_after c w }

  abbrev pub watched_run : List ℕ → Watched → Watched
  watched_run [] w = w
  watched_run (c ∷ turns) w = watched_run turns (watched_turn c w)

-- ---- the event that decides
-- THE NEXT EVENT of the engine decides the outcome of its attempt, and nothing was decided before
pub record Decides (shape : Shape) (words : Words) (e : Engine) (outcome : Outcome) : Type 0 where
  pub undecided : op_part.outcome e.op ≡ None
  pub decides : op_part.outcome (engine_next shape words e).op ≡ Some outcome

-- an attempt begins with nothing held, known or owed, that of a call and those by which a segment is split or repaired
abbrev pub BeginsBare : Type 0
BeginsBare = (site : Ground) (here : Site) (call : Call) (e : Engine) (v : View) → IsFresh here e → op_part.Stands site here call e.op v → HoldsOnly [] v

-- EACH OUTCOME IS DECIDED by one event of its attempt: an attempt begins undecided; what is decided stays so; and where an engine
-- wants nothing more, its end is what was decided
abbrev pub BeginsUndecided : Type 0
BeginsUndecided = (here : Site) (e : Engine) → IsFresh here e → op_part.outcome e.op ≡ None

abbrev pub DecidedStays : Type 0
DecidedStays = (e : Engine) (a : Ans) (outcome : Outcome) → op_part.outcome e.op ≡ Some outcome → op_part.outcome (taken e a).op ≡ Some outcome

abbrev pub EndsAreDecided : Type 0
EndsAreDecided = (site : Ground) (here : Site) (call : Call) (e : Engine) (v : View) → op_part.Stands site here call e.op v → wanted e ≡ want.Done
    → op_part.outcome e.op ≡ outcome_of_end (end_of e)

-- ---- causes
-- EACH OUTCOME OF A MACHINE HAS ITS CAUSE, of those of the call itself, of those of a split, and of those of a repair; and where a repair has finished,
-- its segment has the image's version
pub record OpCauses : Type 0 where
  pub call : EndsByCause call_part
  pub split : EndsBySplitCause whole_split split_segment_in
  pub repair : EndsByRepairCause whole_repair repaired_segment_in
  pub current : FinishesCurrent whole_repair repaired_segment_in

-- an attempt that has done nothing remembers nothing
abbrev pub RemembersNothing : Type 0
RemembersNothing = (site : Ground) (here : Site) (e : Engine) → IsFresh here e → op_part.Remembers site e.op nothing_done

-- what is used of the machines of a call: they are a part, each outcome has its cause, and none of the call itself ends as one that has finished
pub record CallCauses : Type 0 where
  pub part : IsPart op_part
  pub causes : OpCauses
  pub begins : RemembersNothing
  pub never : (e : Engine) → work_of e.op ≡ calls → op_part.outcome e.op ≡ Some finished → ⊥

-- THE CAUSE of an outcome of one of the call's own machines, in an image of this version: no attempt finds the power off, and none ends as
-- one that has done its work
abbrev pub HasCallCause : Shape → ℕ → Words → Doings → Call → Want → Outcome → Type 0
HasCallCause shape version words did call event (replied reply place) = HasReplyCause shape words did call reply
HasCallCause shape version words did call event (again why) = HasAgainCause shape words did call event version why
HasCallCause shape version words did call event (need_split segment) = FindsNoRoom shape words did call segment
HasCallCause shape version words did call event (stale segment byte) = IsStale shape words did call event version segment byte
HasCallCause shape version words did call event outcome = ⊥

-- of one that splits this segment, and of one that repairs it: they do not find the power off; and who has finished a repair leaves the header
-- of the segment with the image's version
abbrev pub HasSplittingCause : Shape → Words → Doings → Call → ℕ → Want → Outcome → Type 0
HasSplittingCause shape words did call segment event off = ⊥
HasSplittingCause shape words did call segment event outcome = HasSplitCause shape words did call segment event outcome

abbrev pub HasRepairingCause : Shape → ℕ → Words → Doings → Call → ℕ → Want → Outcome → Type 0
HasRepairingCause shape version words did call segment event off = ⊥
HasRepairingCause shape version words did call segment event finished = version_in (words (header_word shape segment)) ≡ version
HasRepairingCause shape version words did call segment event outcome = HasRepairCause shape words did call segment event outcome

abbrev pub HasCauseBy : Work → Shape → ℕ → Words → Doings → Call → Want → Outcome → Type 0
HasCauseBy calls shape version words did call event outcome = HasCallCause shape version words did call event outcome
HasCauseBy (splits segment) shape version words did call event outcome = HasSplittingCause shape words did call segment event outcome
HasCauseBy (repairs segment) shape version words did call event outcome = HasRepairingCause shape version words did call segment event outcome

-- by what the attempt works on
abbrev pub HasCause : Shape → ℕ → Words → Doings → Call → Engine → Outcome → Type 0
HasCause shape version words did call e outcome = HasCauseBy (work_of e.op) shape version words did call (wanted e) outcome

-- ---- the laws
-- watching changes nothing
abbrev pub WatchingChangesNothing : Type 0
WatchingChangesNothing = (shape : Shape) (w : Watched) (turns : List ℕ) → (watched_run shape turns w).core ≡ run shape turns w.core

-- whichever caller has its turn next, where its event decides the attempt the cause is there
abbrev pub CausesAreThere : Shape → Watched → Type 0
CausesAreThere shape w = (j : ℕ) (caller : Caller) (call : Call) (e : Engine) (outcome : Outcome) → slice_get w.core.callers j ≡ Some caller
    → current caller ≡ Some call → caller.engine ≡ Some e → Decides shape w.core.words e outcome → HasCause shape caller.site.version w.core.words (w.doings j) call e outcome

-- EACH END HAS ITS CAUSE, over all turns: from every image that is served, whatever calls up to 64 callers have, and
-- whatever turns they take
abbrev pub EndsHaveCauses : Type 0
EndsHaveCauses = (shape : Shape) (words : List ℕ) → IsServedImage shape words → (scripts : List (List Call)) → AreScripts scripts
    → (turns : List ℕ) → CausesAreThere shape (watched_run shape turns (watched (opened shape words scripts)))
