-- What a turn and an attempt rest on: laws of the machines, of an engine and of the world, each of which a contract of those crates says.
use Rattle.std.specs.Prelude.{◌≡◌, ℕ, ◌<◌, ◌≤◌, ◌⊎◌, false, Some}
use Rattle.op_core.specs.declared.want.Ans.{Ans}
use Rattle.op_core.specs.Answers.{IsAnswer}
use Rattle.map_model.specs.declared.call.Call.{Call}
use Rattle.map_model.specs.declared.call.Call.TheVariants.{Get}
use Rattle.world.specs.declared.site.Site.{Site}
use Rattle.world.specs.Ground.{Ground}
use Rattle.world.specs.Laws.{CallersStay}
use Rattle.world.specs.StepLaws.{RepliesComeLater}
use Rattle.world.specs.areas.Keeping.{StructureStepsReplyNothing}
use Rattle.part.specs.Doings.{nothing_done}
use Rattle.part.specs.Outcomes.{finished}
use Rattle.part.specs.Part.{IsPart, IsWait}
use Rattle.engine.specs.declared.engine.Engine.{Engine}
use Rattle.engine.specs.Engine.{begun, wanted, taken, IsFresh}
use Rattle.engine.specs.Left.{most_of_attempt, most_of_get, left}
use Rattle.engine.specs.OpPart.{op_part, calls, work_of}
use Rattle.engine.specs.Causes.{EndsAreDecided, OpCauses}
use Rattle.engine.specs.Fits.{BeginsSuited, AnewSuited, RepairSuited}

-- THE MACHINES are a part, each of whose outcomes has its cause; and where an engine wants nothing more its end is what was decided
pub record MachineLaws : Type 0 where
  pub part : IsPart op_part
  pub causes : OpCauses
  pub says : EndsAreDecided

-- A TURN: each answer leaves fewer events, or the engine goes on waiting; a step leaves a view for as many callers, and a later one
pub record TurnLaws : Type 0 where
  pub machines : MachineLaws
  pub falls : (e : Engine) (ans : Ans) → IsAnswer (wanted e) ans → (left (taken e ans) < left e) ⊎ IsWait op_part e.op ans
  pub callers : CallersStay
  pub structure : StructureStepsReplyNothing
  pub later : RepliesComeLater

-- AN ATTEMPT OF A CALL begins with a view that suits it, having done nothing, and so does the next one, and the repair of a segment; it never waits, takes few
-- events, and does no other work
pub record AttemptLaws : Type 0 where
  pub machines : MachineLaws
  pub begins : BeginsSuited
  pub remembers : (site : Ground) (here : Site) (e : Engine) → IsFresh here e → op_part.Remembers site e.op nothing_done
  pub finishes : (e : Engine) → work_of e.op ≡ calls → op_part.outcome e.op ≡ Some finished → ⊥
  pub waits : (e : Engine) → work_of e.op ≡ calls → op_part.is_waiting e.op ≡ false
  pub few : (here : Site) (call : Call) → left (begun here call) ≤ most_of_attempt
  pub next : AnewSuited
  pub repairs : RepairSuited
  pub few_of_get : (here : Site) (key : ℕ) → left (begun here (Get key)) ≤ most_of_get
