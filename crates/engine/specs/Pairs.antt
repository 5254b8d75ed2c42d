-- An attempt alters the pairs of the table by one event at the most, after which it ends as done and not otherwise. So an attempt
-- that ends in a refusal, or is to be made again, left the pairs as they were.
use Rattle.std.specs.Prelude.{◌≡◌, ℕ, suc, Some, List, ◌⊎◌, slice_get}
use Rattle.op_core.specs.declared.want.Want.TheVariants.{Done}
use Rattle.op_core.specs.declared.want.Ans.{Ans}
use Rattle.op_core.specs.Answers.{IsAnswer}
use Rattle.trace.specs.Events.{Words}
use Rattle.map_model.specs.declared.call.Call.{Call}
use Rattle.map_model.specs.declared.entry.Reply.TheVariants as reply
use Rattle.bucket_words.specs.Hits.{find}
use Rattle.world.specs.declared.site.Site.{Site}
use Rattle.world.specs.Ground.{Ground}
use Rattle.world.specs.Views.{View, At}
use Rattle.world.specs.Wants.{words_after}
use Rattle.world.specs.Invariant.{Holds}
use Rattle.engine.specs.declared.engine.Engine.{Engine}
use Rattle.engine.specs.Engine.{wanted, taken, end_of, reply_of_end, IsFresh}
use Rattle.engine.specs.OpPart.{op_part}
use Rattle.engine.specs.Fits.{Suits, next_engine}
use Rattle.engine.specs.Core.{Caller, Core, turn}
use Rattle.engine.specs.Holding.{CoreHolds}

-- the attempt has done the one store that makes its change; a get never does, nor an attempt that splits a segment
abbrev pub HasMade : Engine → Type 0
HasMade e = op_part.HasMade e.op

-- ---- an engine
-- EACH EVENT leaves what every key has as it was, beside any other callers, or else it is the one by which the attempt makes its
-- change: not made before it, and made after
abbrev pub LeavesOrMakes : Type 0
LeavesOrMakes = (site : Ground) (here : Site) (call : Call) (e : Engine) (words : Words) (views : List View) (j : ℕ) (before v : View) (number : ℕ)
    → Holds site words views → At views j v → Suits site here call e before v
    → ((k : ℕ) → find site.shape (words_after site.shape (wanted e) number words) k ≡ find site.shape words k) ⊎ ((HasMade e → ⊥) × HasMade (next_engine site e words))

-- an attempt begins without
abbrev pub BeginsUnmade : Type 0
BeginsUnmade = (here : Site) (e : Engine) → IsFresh here e → HasMade e → ⊥

-- what is made stays so
abbrev pub StaysMade : Type 0
StaysMade = (e : Engine) (ans : Ans) → IsAnswer (wanted e) ans → HasMade e → HasMade (taken e ans)

-- and ends as done
abbrev pub EndsAsDone : Type 0
EndsAsDone = (e : Engine) → HasMade e → wanted e ≡ Done → (place : ℕ) × (reply_of_end (end_of e) ≡ Some (reply.Done, place))

-- ---- the core
-- it is the turn of a caller whose attempt makes its change by the event of this turn, and had not before
pub record MakesAt (site : Ground) (core : Core) (c : ℕ) : Type 0 where
  pub seat : ℕ
  pub is_number : c ≡ suc seat
  pub caller : Caller
  pub is_caller : slice_get core.callers seat ≡ Some caller
  pub engine : Engine
  pub runs : caller.engine ≡ Some engine
  pub not_before : HasMade engine → ⊥
  pub made : HasMade (next_engine site engine core.words)

-- EACH TURN leaves what every key has as it was, or else it is the turn of such a caller, whose attempt can end as done alone
abbrev pub TurnLeavesOrMakes : Type 0
TurnLeavesOrMakes = (site : Ground) (start : Words) (core : Core) (c : ℕ) → CoreHolds site start core
    → ((k : ℕ) → find site.shape (turn site.shape c core).words k ≡ find site.shape core.words k) ⊎ MakesAt site core c
