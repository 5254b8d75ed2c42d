-- One caller steps while all others stand between two attempts: nothing moves for it, no attempt of it ends in Again, and each of its calls
-- ends: where an attempt ends without a reply, fewer may still do so.
use Rattle.std.specs.Prelude.{◌≡◌, ◌≢◌, ℕ, suc, ◌<◌, ⊤, true, false, Option, None, Some, List, ◌⊎◌, slice_get}
use Rattle.op_core.specs.declared.want.Want.TheVariants as want
use Rattle.op_core.specs.declared.why.Why.{Why}
use Rattle.op_core.specs.declared.why.Why.TheVariants.{Busy}
use Rattle.trace.specs.Events.{Words}
use Rattle.image_layout.specs.Places.{Shape, header_word}
use Rattle.sound_image.specs.Records.{key_hash}
use Rattle.map_model.specs.declared.call.Call.{Call}
use Rattle.map_model.specs.Map.{key_of}
use Rattle.map_model.specs.declared.entry.Reply.{Reply}
use Rattle.world.specs.Ground.{Ground}
use Rattle.world.specs.Views.{View, Has, At, HasLock}
use Rattle.world.specs.areas.Kinds.{Guard, guard_word, area_of}
use Rattle.part.specs.Doings.{Doings, nothing_done, IsStill}
use Rattle.part.specs.Outcomes.{Outcome, again, stale, need_split, finished, reply_of}
use Rattle.part.specs.Room.{HasNoRoom}
use Rattle.engine.specs.declared.engine.Op.{Op}
use Rattle.engine.specs.declared.engine.Op.TheVariants.{Release, Enclose, Split, Publish, Rest, Repair, Redirect, Mend}
use Rattle.engine.specs.declared.engine.Engine.{Engine}
use Rattle.engine.specs.Engine.{wanted, end_of, outcome_of_end, reply_of_end, IsFresh, anew}
use Rattle.engine.specs.Left.{is_stale, is_renewed, events_left, events_of_call}
use Rattle.engine.specs.OpPart.{op_part}
use Rattle.engine.specs.Core.{Caller, Core, current}
use Rattle.engine.specs.Holding.{CoreHolds}
use Rattle.engine.specs.Laws.{IsServedImage, opened, AreScripts}
use Rattle.engine.specs.Causes.{Watched, watched, engine_next, watched_turn, watched_run, Decides}

-- ---- outcomes
-- an outcome that is to be told: a reply, and none that says to try again
abbrev pub IsReply : Option (Reply × ℕ) → Type 0
IsReply None = ⊥
IsReply (Some r) = ⊤

abbrev pub EndsCall : Option Outcome → Type 0
EndsCall outcome = IsReply (reply_of outcome)

-- it is one, or it says to try again, and why, or that a segment is to be split or repaired, or that this is done or need not be
pub data IsTold (outcome : Option Outcome) : Type 0 where
  told_reply : EndsCall outcome → IsTold outcome
  told_again : (why : Why) → outcome ≡ Some (again why) → IsTold outcome
  told_to_split : (segment : ℕ) → outcome ≡ Some (need_split segment) → IsTold outcome
  told_stale : (segment version : ℕ) → outcome ≡ Some (stale segment version) → IsTold outcome
  told_finished : outcome ≡ Some finished → IsTold outcome

-- ---- a caller between two attempts
-- no engine of it runs, or one that has done nothing yet
abbrev pub IsBetween : Caller → Type 0
IsBetween c = (c.engine ≡ None) ⊎ ((e : Engine) × (c.engine ≡ Some e) × IsFresh c.site e)

-- and its attempt is accounted for as one that has done nothing
abbrev pub IsRestingBy : Caller → Doings → Type 0
IsRestingBy c did = (c.engine ≡ None) ⊎ ((e : Engine) × (c.engine ≡ Some e) × IsFresh c.site e × (did ≡ nothing_done))

abbrev pub IsResting : Watched → ℕ → Type 0
IsResting w j = (c : Caller) → slice_get w.core.callers j ≡ Some c → IsRestingBy c (w.doings j)

-- ---- a caller alone
-- THE CALLER AT PLACE j IS ALONE: all others are between two attempts, what its attempt loaded is still so, and if its end is
-- decided it does not say to try again
pub record IsAlone (shape : Shape) (j : ℕ) (w : Watched) : Type 0 where
  pub others : (i : ℕ) (c : Caller) → i ≢ j → slice_get w.core.callers i ≡ Some c → IsBetween c
  pub still : IsStill shape w.core.words (w.doings j)
  pub calm : (c : Caller) (e : Engine) (why : Why) → slice_get w.core.callers j ≡ Some c → c.engine ≡ Some e → op_part.outcome e.op ≡ Some (again why) → ⊥

-- a segment of the image is stale, and an attempt of a call is not decided by one that is not
abbrev pub IsStaleIn : Shape → Words → ℕ → Type 0
IsStaleIn shape words segment = (segment < shape.segments) × (is_stale words (words (header_word shape segment)) ≡ true)

abbrev pub TellsStale : Shape → Words → Op → Type 0
TellsStale shape words op = (segment version : ℕ) → op_part.outcome op ≡ Some (stale segment version) → IsStaleIn shape words segment

-- and an attempt of a call is not decided by a segment that is to be split and has room
abbrev pub TellsFull : Shape → Words → Call → Op → Type 0
TellsFull shape words call op = (segment : ℕ) → op_part.outcome op ≡ Some (need_split segment) → HasNoRoom shape words segment (key_hash shape (key_of call))

-- WHAT AN ATTEMPT DOES BESIDE ITS CALL IS DUE. A segment that is being enclosed has no room for the call, and the attempt is not decided as one
-- that found room; nor has one that is to be split, while all is given back. A segment that is being repaired is stale until it has the image's
-- version, and the attempt is not decided before that; and so is one of which an attempt tells that it is
abbrev pub IsDue : Shape → Words → Call → Op → Type 0
IsDue shape words call (Enclose op) = HasNoRoom shape words op.enclosed.segment (key_hash shape (key_of call)) × (op_part.outcome (Enclose op) ≢ Some finished)
IsDue shape words call (Release op) = TellsStale shape words (Release op) × TellsFull shape words call (Release op)
IsDue shape words call (Repair op) = IsStaleIn shape words op.guarded.segment × (op_part.outcome (Repair op) ≢ Some finished)
IsDue shape words call (Redirect op) = IsStaleIn shape words op.guarded.segment
IsDue shape words call (Mend op) = is_renewed op.step ≡ false → IsStaleIn shape words op.guarded.segment
IsDue shape words call (Split op) = ⊤
IsDue shape words call (Publish op) = ⊤
IsDue shape words call (Rest op) = ⊤
IsDue shape words call op = TellsStale shape words op

-- so it is with the machine of the caller at place j
abbrev pub StandsDue : Shape → ℕ → Watched → Type 0
StandsDue shape j w = (c : Caller) (call : Call) (e : Engine) → slice_get w.core.callers j ≡ Some c → current c ≡ Some call → c.engine ≡ Some e
    → IsDue shape w.core.words call e.op

-- ---- the laws, along all turns from an image that is served
module _ (shape : Shape) (words : List ℕ) (scripts : List (List Call)) where
  abbrev pub at_start : Watched
  at_start = watched (opened shape words scripts)

  -- after these turns
  abbrev pub along : List ℕ → Watched
  along turns = watched_run shape turns at_start

abbrev pub AlongTurns : (Shape → List ℕ → List (List Call) → List ℕ → Type 0) → Type 0
AlongTurns P = (shape : Shape) (words : List ℕ) → IsServedImage shape words → (scripts : List (List Call)) → AreScripts scripts → (turns : List ℕ) → P shape words scripts turns

-- a view has the lock of this word, or the guard of which it is the word
pub data HasTaken (shape : Shape) (v : View) (word : ℕ) : Type 0 where
  has_lock : HasLock v.held word → HasTaken shape v word
  has_guard : (guard : Guard) → word ≡ guard_word shape guard → Has (area_of guard) v.areas → HasTaken shape v word

-- WHO FINDS A LOCK OR A GUARD TAKEN, by its word, is told so of another caller's, that is in the midst of an attempt
pub record IsOthers (core : Core) (j word : ℕ) : Type 0 where
  pub place : ℕ
  pub elsewhere : place ≢ j
  pub caller : Caller
  pub there : slice_get core.callers place ≡ Some caller
  pub midst : IsBetween caller → ⊥
  -- it has it, by its view in what holds of the core
  pub site : Ground
  pub start : Words
  pub holds : CoreHolds site start core
  pub view : View
  pub seated : At holds.views place view
  pub has : HasTaken site.shape view word

abbrev pub BusyIsOthers : Type 0
BusyIsOthers = AlongTurns (λ shape words scripts turns. (j : ℕ) (c : Caller) (call : Call) (e : Engine) (word value : ℕ)
    → slice_get (along shape words scripts turns).core.callers j ≡ Some c → current c ≡ Some call → c.engine ≡ Some e
    → Decides shape (along shape words scripts turns).core.words e (again (Busy word value)) → IsOthers (along shape words scripts turns).core j word)

-- AT THE BEGINNING all callers rest, and each is alone
abbrev pub AllRestAtStart : Type 0
AllRestAtStart = (shape : Shape) (words : List ℕ) (scripts : List (List Call)) (j : ℕ) → IsResting (at_start shape words scripts) j

abbrev pub AloneAtStart : Type 0
AloneAtStart = (shape : Shape) (words : List ℕ) (scripts : List (List Call)) (j : ℕ) → IsAlone shape j (at_start shape words scripts)

-- WHERE ALL REST, each that has an engine is alone
abbrev pub RestingIsAlone : Type 0
RestingIsAlone = (shape : Shape) (w : Watched) (j : ℕ) (c : Caller) (e : Engine) → ((i : ℕ) → IsResting w i) → slice_get w.core.callers j ≡ Some c → c.engine ≡ Some e
    → IsAlone shape j w

-- ITS OWN TURN leaves it alone
abbrev pub OwnTurnsStayAlone : Type 0
OwnTurnsStayAlone = AlongTurns (λ shape words scripts turns. (j : ℕ) → IsAlone shape j (along shape words scripts turns)
    → IsAlone shape j (watched_turn shape (suc j) (along shape words scripts turns)))

-- the caller at place j has its turn next, whose event is of this engine
pub record IsNext (w : Watched) (j : ℕ) (e : Engine) : Type 0 where
  pub caller : Caller
  pub there : slice_get w.core.callers j ≡ Some caller
  pub call : Call
  pub calls : current caller ≡ Some call
  pub runs : caller.engine ≡ Some e

-- AN ATTEMPT OF A CALLER ALONE never ends in Again
abbrev pub AloneNeverAgain : Type 0
AloneNeverAgain = AlongTurns (λ shape words scripts turns. (j : ℕ) (e : Engine) → IsAlone shape j (along shape words scripts turns) → IsNext (along shape words scripts turns) j e
    → (why : Why) → op_part.outcome (engine_next shape (along shape words scripts turns).core.words e).op ≡ Some (again why) → ⊥)

-- and whoever has its turn, its attempt ends in one of these ways
abbrev pub EndsAreTold : Type 0
EndsAreTold = AlongTurns (λ shape words scripts turns. (j : ℕ) (e : Engine) → IsNext (along shape words scripts turns) j e
    → (outcome : Outcome) → op_part.outcome (engine_next shape (along shape words scripts turns).core.words e).op ≡ Some outcome → IsTold (Some outcome))

-- where it wants nothing more, so does its end
abbrev pub EndsTell : Type 0
EndsTell = AlongTurns (λ shape words scripts turns. (j : ℕ) (e : Engine) → IsNext (along shape words scripts turns) j e
    → wanted (engine_next shape (along shape words scripts turns).core.words e) ≡ want.Done
    → (outcome : Outcome) × (op_part.outcome (engine_next shape (along shape words scripts turns).core.words e).op ≡ Some outcome)
    × (outcome_of_end (end_of (engine_next shape (along shape words scripts turns).core.words e)) ≡ Some outcome))

-- AN ATTEMPT THAT ENDED leaves its caller at rest, and a turn of another caller leaves it so
abbrev pub EndedRests : Type 0
EndedRests = (shape : Shape) (w : Watched) (j : ℕ) (e : Engine) → IsNext w j e → wanted (engine_next shape w.core.words e) ≡ want.Done
    → IsResting (watched_turn shape (suc j) w) j

abbrev pub OthersStayResting : Type 0
OthersStayResting = (shape : Shape) (w : Watched) (i j : ℕ) → i ≢ j → IsResting w i → IsResting (watched_turn shape (suc j) w) i

-- ---- what is to be split or repaired
-- where no caller has begun, none is
abbrev pub DueAtStart : Type 0
DueAtStart = (shape : Shape) (words : List ℕ) (scripts : List (List Call)) (j : ℕ) → StandsDue shape j (at_start shape words scripts)

-- ---- a call of a caller alone ends
-- no engine has more events left than a call has, or than an attempt has
abbrev pub EventsAreFew : Type 0
EventsAreFew = (shape : Shape) (words : Words) (e : Engine) → events_left shape words e < events_of_call shape

-- ITS OWN TURN leaves fewer events: of the same attempt, or of the next one of the call where the attempt ends without a reply
pub record LeavesFewer (shape : Shape) (w : Watched) (j : ℕ) (e : Engine) : Type 0 where
  pub goes_on : wanted (engine_next shape w.core.words e) ≢ want.Done
      → events_left shape (watched_turn shape (suc j) w).core.words (engine_next shape w.core.words e) < events_left shape w.core.words e
  pub anew : (c : Caller) (call : Call) → slice_get w.core.callers j ≡ Some c → current c ≡ Some call → wanted (engine_next shape w.core.words e) ≡ want.Done
      → reply_of_end (end_of (engine_next shape w.core.words e)) ≡ None
      → events_left shape (watched_turn shape (suc j) w).core.words (anew c.site call (end_of (engine_next shape w.core.words e))) < events_left shape w.core.words e

abbrev pub AloneLeavesFewer : Type 0
AloneLeavesFewer = AlongTurns (λ shape words scripts turns. (j : ℕ) (e : Engine) → IsAlone shape j (along shape words scripts turns) → StandsDue shape j (along shape words scripts turns)
    → IsNext (along shape words scripts turns) j e → LeavesFewer shape (along shape words scripts turns) j e)
