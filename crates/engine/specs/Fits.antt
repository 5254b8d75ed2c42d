-- How an engine fits the world of many callers: the view of its caller in the midst of a call, and at the end of it.
use Rattle.std.specs.Prelude.{◌≡◌, ◌≢◌, ℕ, ◌^◌, ◌<◌, Option, None, Some, List, []}
use Rattle.op_core.specs.declared.want.Want.TheVariants.{Done}
use Rattle.trace.specs.Events.{Words}
use Rattle.image_layout.specs.Volatile.{power_word, power_on}
use Rattle.map_model.specs.declared.call.Call.{Call}
use Rattle.map_model.specs.Map.{key_of, value_of}
use Rattle.map_model.specs.Changes.{change_of}
use Rattle.world.specs.declared.site.Site.{Site}
use Rattle.world.specs.Ground.{Ground, IsGround, version_of}
use Rattle.world.specs.Facts.{Lives}
use Rattle.world.specs.Views.{View, Has, At}
use Rattle.world.specs.Wants.{answer_to, word_of}
use Rattle.world.specs.StepKinds.{wanted_of, view_by, MayTake}
use Rattle.world.specs.Invariant.{Holds}
use Rattle.world.specs.Attempts.{HoldsOnly, EntersReply}
use Rattle.part.specs.Doings.{Doings}
use Rattle.part.specs.Outcomes.{Outcome, off}
use Rattle.part.specs.Part.{Suits as SuitsPart}
use Rattle.restart_op.specs.AtRest.{IsOpenStructure}
use Rattle.engine.specs.declared.engine.Op.{Op}
use Rattle.engine.specs.declared.engine.Engine.{Engine}
use Rattle.engine.specs.Engine.{begun, repairing, wanted, taken, end_of, reply_of_end, anew_by, anew, kind_of}
use Rattle.engine.specs.OpPart.{op_part}

-- THE VIEW suits the machine in the midst of a call, whose attempt began with the view `before`; it has not found the power off, and remembers
-- what it did
pub record Suits (site : Ground) (here : Site) (call : Call) (e : Engine) (before v : View) : Type 0 where
  pub asks : wanted e ≢ Done
  pub on : op_part.outcome e.op ≢ Some off
  pub suits : SuitsPart op_part site here call e.op before v
  pub remembers : (did : Doings) × op_part.Remembers site e.op did

-- AN ATTEMPT HAS ENDED: the caller holds and owes nothing, and has its reply as its next entry; or there is none, and the view suits the
-- next attempt of the call
pub record HasEnded (site : Ground) (here : Site) (call : Call) (e : Engine) (before v : View) : Type 0 where
  pub nothing : HoldsOnly [] v
  pub callers : 0 < v.callers
  pub enters : EntersReply call (reply_of_end (end_of e)) before v
  pub anew : reply_of_end (end_of e) ≡ None → Suits site here call (anew here call (end_of e)) v v

-- ---- the laws
-- the key and the value of a call are words
abbrev pub IsWordCall : Call → Type 0
IsWordCall call = (key_of call < 2 ^ 64) × (value_of call < 2 ^ 64)

-- the caller has a number, which is a word
abbrev pub HasNumber : Site → Type 0
HasNumber here = (0 < here.caller) × (here.caller < 2 ^ 64)

-- a site is served whose structure is one on which callers run
abbrev pub IsServedGround : Ground → Type 0
IsServedGround site = IsOpenStructure site.shape site.front

-- a call begins, in an image of this shape and version, with any view that holds and owes nothing
abbrev pub BeginsSuited : Type 0
BeginsSuited = (site : Ground) (here : Site) (call : Call) (v : View) → IsGround site → here.geometry ≡ site.shape → here.version ≡ version_of site → IsWordCall call
    → HoldsOnly [] v → 0 < v.callers → Suits site here call (begun here call) v v

-- and so does the next attempt of a call behind one that was decided so, or not yet, for a caller that has a number: that which splits the segment that
-- is to be split, that which repairs the one that is stale, or the call begun anew
abbrev pub AnewSuited : Type 0
AnewSuited = (site : Ground) (here : Site) (call : Call) (v : View) → IsGround site → here.geometry ≡ site.shape → here.version ≡ version_of site → HasNumber here → IsWordCall call
    → HoldsOnly [] v → 0 < v.callers → (op : Op) → op_part.Stands site here call op v → (outcome : Option Outcome) → op_part.outcome op ≡ outcome
    → Suits site here call (anew_by here call (change_of call) outcome) v v

-- and so does the repair of a segment that the view knows to be live
abbrev pub RepairSuited : Type 0
RepairSuited = (site : Ground) (here : Site) (call : Call) (segment : ℕ) (v : View) → here.geometry ≡ site.shape → here.version ≡ version_of site → HasNumber here → HoldsOnly [] v
    → Has (Lives segment) v.facts → 0 < v.callers → Suits site here call (repairing here segment) v v

module _ (site : Ground) (e : Engine) (words : Words) where
  -- the value that the next event finds, the engine after it, and the view
  abbrev pub finds : ℕ
  finds = words (word_of site.shape (wanted e))

  abbrev pub next_engine : Engine
  next_engine = taken e (answer_to (wanted e) finds)

  abbrev pub next_view : View → View
  next_view v = view_by site.shape (kind_of e finds) finds v

  -- the event is that of its kind, which the view may take; and after it the view suits the engine, or the attempt has ended
  pub record StepsWell (here : Site) (call : Call) (before v : View) : Type 0 where
    pub wants : wanted e ≡ wanted_of site.shape (kind_of e finds)
    pub may : MayTake site (kind_of e finds) v
    pub suits : wanted next_engine ≢ Done → Suits site here call next_engine before (next_view v)
    pub ends : wanted next_engine ≡ Done → HasEnded site here call next_engine before (next_view v)

-- A STEP of an engine, beside any other callers, while the power is on
abbrev pub KeepsSuits : Type 0
KeepsSuits = (site : Ground) (here : Site) (call : Call) (e : Engine) (words : Words) (views : List View) (j : ℕ) (before v : View)
    → here.geometry ≡ site.shape → here.version ≡ version_of site → HasNumber here → IsWordCall call → words (power_word site.shape) ≡ power_on
    → Holds site words views → At views j v → Suits site here call e before v → finds site e words < 2 ^ 64 → StepsWell site e words here call before v
