-- One caller is driven: it steps while all others stand still, each where it stands, be it in the midst of an attempt and with locks and guards held.
-- What it tries in vain is another's; all else goes on, and each attempt of its call comes to an end, by which nothing is left behind.
use Rattle.std.specs.Prelude.{◌≡◌, ◌≢◌, ℕ, suc, ◌<◌, ◌≤◌, ◌==◌, ◌&&◌, Bool, true, false, None, Some, [], slice_get}
use Rattle.op_core.specs.declared.want.Want.{Want}
use Rattle.op_core.specs.declared.want.Want.TheVariants as want
use Rattle.op_core.specs.declared.want.Ans.{Ans}
use Rattle.op_core.specs.declared.want.Ans.TheVariants.{Lost}
use Rattle.trace.specs.Events.{Words}
use Rattle.image_layout.specs.Places.{Shape}
use Rattle.image_layout.specs.Volatile.{directory_guard}
use Rattle.bucket_words.specs.Hits.{find}
use Rattle.map_model.specs.declared.call.Call.{Call}
use Rattle.world.specs.declared.site.Site.{Site}
use Rattle.world.specs.Ground.{Ground}
use Rattle.world.specs.Views.{View, Has, At}
use Rattle.world.specs.Attempts.{HoldsOnly}
use Rattle.world.specs.areas.Areas.{Directory}
use Rattle.part.specs.Doings.{IsStill}
use Rattle.engine.specs.declared.engine.Engine.{Engine}
use Rattle.engine.specs.Engine.{begun, wanted, end_of, reply_of_end, is_again, IsFresh, anew}
use Rattle.engine.specs.OpPart.{op_part, calls as of_calls, work_of}
use Rattle.engine.specs.Left.{left_alone, most_alone}
use Rattle.engine.specs.Core.{Caller, Core, turn}
use Rattle.engine.specs.Holding.{IsCalling, CoreHolds}
use Rattle.engine.specs.Causes.{Watched, watched, answer_now, engine_next, watched_turn}
use Rattle.engine.specs.Alone.{IsDue, StandsDue, IsNext, LeavesFewer, along, AlongTurns}

-- ---- the guard of the directory
-- an event with this answer tried in vain for it
abbrev pub tries_in_vain : Shape → Want → Ans → Bool
tries_in_vain shape (want.Exchange word old new) (Lost seen) = word == directory_guard shape
tries_in_vain shape w a = false

-- AND WHO MADE IT WAITS for the guard, with this engine behind it: a split tries again, while a repair gives all back and ends in Again
abbrev pub waits_after : Shape → Want → Ans → Engine → Bool
waits_after shape w a next = tries_in_vain shape w a && op_part.is_waiting next.op

module _ (shape : Shape) (words : Words) (e : Engine) where
  -- so it is with the next event of an engine on these words
  abbrev pub tries_now : Bool
  tries_now = tries_in_vain shape (wanted e) (answer_now shape words e)

  abbrev pub waits_now : Bool
  waits_now = waits_after shape (wanted e) (answer_now shape words e) (engine_next shape words e)

-- another caller than that at place j has the guard, is in the midst of an attempt, and does not wait for the guard itself
pub record IsHeldByOther (core : Core) (j : ℕ) : Type 0 where
  pub place : ℕ
  pub elsewhere : place ≢ j
  pub caller : Caller
  pub there : slice_get core.callers place ≡ Some caller
  pub engine : Engine
  pub runs : caller.engine ≡ Some engine
  pub midst : IsFresh caller.site engine → ⊥
  pub goes_on : op_part.is_waiting engine.op ≡ false
  -- the guard is its own, by its view in what holds of the core
  pub site : Ground
  pub start : Words
  pub holds : CoreHolds site start core
  pub view : View
  pub seated : At holds.views place view
  pub has : Has Directory view.areas

-- WHO TRIES IN VAIN FOR THE GUARD, a split or a repair, finds it with such a caller
abbrev pub TriesAreOthers : Type 0
TriesAreOthers = AlongTurns (λ shape words scripts turns. (j : ℕ) (e : Engine) → IsNext (along shape words scripts turns) j e
    → tries_now shape (along shape words scripts turns).core.words e ≡ true → IsHeldByOther (along shape words scripts turns).core j)

-- ---- one attempt
-- WHO DOES NOT WAIT GOES ON: its turn leaves fewer events of the attempt, whatever others hold
abbrev pub TurnsGoOn : Type 0
TurnsGoOn = AlongTurns (λ shape words scripts turns. (j : ℕ) (e : Engine) → IsNext (along shape words scripts turns) j e
    → waits_now shape (along shape words scripts turns).core.words e ≡ false
    → left_alone (engine_next shape (along shape words scripts turns).core.words e) < left_alone e)

-- of which there are never more than so many
abbrev pub AttemptsAreShort : Type 0
AttemptsAreShort = (e : Engine) → left_alone e ≤ most_alone

-- ---- its own turns
-- WHAT ITS ATTEMPT LOADED stays as it is, but for what it changes itself
abbrev pub OwnTurnsStayStill : Type 0
OwnTurnsStayStill = (shape : Shape) (w : Watched) (j : ℕ) → IsStill shape w.core.words (w.doings j)
    → IsStill shape (watched_turn shape (suc j) w).core.words ((watched_turn shape (suc j) w).doings j)

-- WHAT IT DOES BESIDE ITS CALL stays due
abbrev pub OwnTurnsStayDue : Type 0
OwnTurnsStayDue = AlongTurns (λ shape words scripts turns. (j : ℕ) → StandsDue shape j (along shape words scripts turns)
    → StandsDue shape j (watched_turn shape (suc j) (along shape words scripts turns)))

-- AND FEWER EVENTS ARE LEFT OF ITS CALL, where it does not wait and its attempt does not end in Again
abbrev pub OwnTurnsLeaveFewer : Type 0
OwnTurnsLeaveFewer = AlongTurns (λ shape words scripts turns. (j : ℕ) (e : Engine) → StandsDue shape j (along shape words scripts turns)
    → IsNext (along shape words scripts turns) j e → waits_now shape (along shape words scripts turns).core.words e ≡ false
    → (wanted (engine_next shape (along shape words scripts turns).core.words e) ≡ want.Done
    → is_again (end_of (engine_next shape (along shape words scripts turns).core.words e)) ≡ false)
    → LeavesFewer shape (along shape words scripts turns) j e)

-- A SPLIT OR A REPAIR THAT HAS DONE ITS WORK: behind it the call begins anew
abbrev pub EndsBeginAnew : Type 0
EndsBeginAnew = AlongTurns (λ shape words scripts turns. (j : ℕ) (e : Engine) (n : IsNext (along shape words scripts turns) j e)
    → wanted (engine_next shape (along shape words scripts turns).core.words e) ≡ want.Done → work_of e.op ≢ of_calls
    → reply_of_end (end_of (engine_next shape (along shape words scripts turns).core.words e)) ≡ None
    → is_again (end_of (engine_next shape (along shape words scripts turns).core.words e)) ≡ false
    → anew n.caller.site n.call (end_of (engine_next shape (along shape words scripts turns).core.words e)) ≡ begun n.caller.site n.call)

-- and what has just begun for its call is due
abbrev pub BegunIsDue : Type 0
BegunIsDue = (shape : Shape) (words : Words) (here : Site) (call : Call) → IsDue shape words call (begun here call).op

-- ---- what an end leaves
-- NOTHING IS LEFT BEHIND by the attempt of the caller at place j that ends with this turn: the caller holds and owes nothing, has drawn nothing, was
-- told what it had been told, and has seen no more by this turn; and each key has what it had
pub record LeavesNothing (site : Ground) (start : Words) (core : Core) (h : CoreHolds site start core) (j : ℕ) (c : Caller) (e : Engine) : Type 0 where
  -- the view of the caller before the turn
  pub before : View
  pub seat : At h.views j before
  pub calling : IsCalling site c e before
  -- and behind it
  pub holds : CoreHolds site start (turn site.shape (suc j) core)
  pub view : View
  pub seated : At holds.views j view
  pub nothing : HoldsOnly [] view
  pub own : view.own ≡ c.entries
  pub seen : view.seen ≡ calling.before.seen
  pub caller : Caller
  pub there : slice_get (turn site.shape (suc j) core).callers j ≡ Some caller
  pub entries : caller.entries ≡ c.entries
  pub drew : caller.drew ≡ None
  -- and its call has begun, so that it is told as open wherever the power is cut
  pub begun : caller.begun ≡ true
  pub pairs : (k : ℕ) → find site.shape (turn site.shape (suc j) core).words k ≡ find site.shape core.words k

-- AN ATTEMPT THAT ENDS WITHOUT A REPLY, in Again, with a segment that is to be split or repaired, or with a split or a repair, leaves nothing behind
abbrev pub EndsLeaveNothing : Type 0
EndsLeaveNothing = (site : Ground) (start : Words) (core : Core) (h : CoreHolds site start core) (j : ℕ) (e : Engine) (n : IsNext (watched core) j e)
    → wanted (engine_next site.shape core.words e) ≡ want.Done → reply_of_end (end_of (engine_next site.shape core.words e)) ≡ None
    → LeavesNothing site start core h j n.caller e
