-- When the view of a seat suits an engine in the midst of an attempt, and the cause of an outcome there.
use Rattle.std.specs.Prelude.{◌≡◌, ◌≢◌, ℕ}
use Rattle.op_core.specs.declared.want.Want.{Want}
use Rattle.op_core.specs.declared.want.Want.TheVariants.{Done}
use Rattle.trace.specs.Events.{Words}
use Rattle.map_model.specs.declared.call.Call.{Call}
use Rattle.world.specs.declared.site.Site.{Site}
use Rattle.world.specs.Ground.{Ground}
use Rattle.world.specs.Views.{View}
use Rattle.world.specs.Wants.{word_of}
use Rattle.part.specs.Doings.{Doings}
use Rattle.part.specs.Outcomes.{Outcome, finished}
use Rattle.part.specs.Part.{Suits as SuitsPart}
use Rattle.part.specs.Causes.{HasCause}
use Rattle.part.specs.Splits.{HasSplitCause}
use Rattle.part.specs.Repairs.{HasRepairCause}
use Rattle.engine.specs.Finishing.{HasImageVersion}
use Rattle.engine.specs.declared.engine.Engine.{Engine}
use Rattle.engine.specs.Engine.{wanted}
use Rattle.engine.specs.OpPart.{Work, calls, splits, repairs, work_of, op_part}
use Rattle.vlock.specs.Plays.{Moment}

-- THE VIEW SUITS an engine that wants an event more, in an attempt of this call that began with the view `before` and did this: the machine
-- that runs stands on the view, the view has the replies that it had then, or the one that is decided more, and the machine remembers what the
-- attempt did. Whether the power was found off before is not asked
pub record Suits (site : Ground) (here : Site) (call : Call) (e : Engine) (did : Doings) (before v : View) : Type 0 where
  pub asks : wanted e ≢ Done
  pub suits : SuitsPart op_part site here call e.op before v
  pub remembers : op_part.Remembers site e.op did

-- so it is for some call
pub record IsRunning (site : Ground) (e : Engine) (v : View) : Type 0 where
  pub here : Site
  pub call : Call
  pub did : Doings
  pub before : View
  pub suits : Suits site here call e did before v

-- the cause of an outcome of a repair; who tells that it has finished finds the segment with the image's version
pub record HasCauseOfRepair (site : Ground) (words : Words) (did : Doings) (call : Call) (segment : ℕ) (event : Want) (outcome : Outcome) : Type 0 where
  pub cause : HasRepairCause site.shape words did call segment event outcome
  pub current : outcome ≡ finished → HasImageVersion site words segment

-- THE CAUSE of an outcome, by what the attempt works on: its call, the split of a segment, or the repair of one
abbrev pub HasCauseOf : Work → Ground → Words → Doings → Call → Want → Site → Outcome → Type 0
HasCauseOf calls site words did call event here outcome = HasCause site.shape words did call event here outcome
HasCauseOf (splits segment) site words did call event here outcome = HasSplitCause site.shape words did call segment event outcome
HasCauseOf (repairs segment) site words did call event here outcome = HasCauseOfRepair site words did call segment event outcome

-- the cause is there at words and views that meet the invariant with this view there, where the word of the engine's event has this value
pub record IsCaused (site : Ground) (here : Site) (call : Call) (e : Engine) (did : Doings) (v : View) (found : ℕ) (outcome : Outcome) : Type 0 where
  pub moment : Moment site v
  pub value : moment.words (word_of site.shape (wanted e)) ≡ found
  pub cause : HasCauseOf (work_of e.op) site moment.words did call (wanted e) here outcome
