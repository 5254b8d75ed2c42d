-- What an attempt works on stays so, and what the next event of a machine decides has its cause there: that of the call itself, of a split, or of a repair.
use Rattle.std.proofs.Common.{◌≡◌, ◌≢◌, ℕ, ◌^◌, ◌<◌, None, Some, List, refl, sym, ap, ◌∙◌, subst}
use Rattle.op_core.specs.declared.want.Want.{Want}
use Rattle.op_core.specs.declared.want.Want.TheVariants.{Done}
use Rattle.op_core.specs.declared.want.Ans.{Ans}
use Rattle.trace.specs.Events.{Words}
use Rattle.map_model.specs.declared.call.Call.{Call}
use Rattle.world.specs.declared.site.Site.{Site}
use Rattle.world.specs.Ground.{Ground}
use Rattle.world.specs.Views.{View, At}
use Rattle.world.specs.Invariant.{Holds}
use Rattle.part.specs.Doings.{Doings}
use Rattle.part.specs.Outcomes.{Outcome, off}
use Rattle.part.specs.Part.{Suits, finds, next}
use Rattle.part.specs.Causes.{IsOff}
use Rattle.part.specs.Either.{one, other}
use Rattle.engine.specs.declared.engine.Op.{Op}
use Rattle.engine.specs.OpPart.{OpState, state_of, op_part, Work, calls, splits, repairs, work_of}
use Rattle.engine.specs.Causes.{OpCauses}
use Rattle.engine.proofs.machines.Ops.{either_ops}
use Rattle.engine.proofs.attempts.Stepping.{work_in, work_is, work_named, CausedIn, CurrentIn, op_caused as caused_by_state, op_current}
use Rattle.shared_call.specs.Suited.{HasCauseOf}

-- that the power is off has one cause, whatever the attempt works on
pub off_cause : (w : Work) (site : Ground) (words : Words) (did : Doings) (call : Call) (event : Want) (here : Site) → HasCauseOf w site words did call event here off
    → IsOff site.shape words did call event
off_cause calls site words did call event here c = c
off_cause (splits segment) site words did call event here c = c
off_cause (repairs segment) site words did call event here c = c.cause

-- a machine goes on to one at the same work
same_work : OpCauses → (m : OpState) (a : Ans) → work_in (either_ops.taken m a) ≡ work_in m
same_work causes (one m) a = refl
same_work causes (other (one m)) a = ap splits (causes.split.same_segment m a)
same_work causes (other (other m)) a = ap repairs (causes.repair.same_segment m a)

pub next_work : OpCauses → (op : Op) (a : Ans) → work_of (op_part.taken op a) ≡ work_of op
next_work causes op a = work_named (either_ops.taken (state_of op) a) ∙ (same_work causes (state_of op) a ∙ sym (work_is op))

-- ---- the next event of a machine, in the world, for the caller with this view
module _ (causes : OpCauses) (site : Ground) (here : Site) (call : Call) (words : Words) (views : List View) (j : ℕ) (before v : View) (h : Holds site words views)
    (at : At views j v) (did : Doings) where
  -- the cause of an outcome, by what the machine works on
  cause_in : (m : OpState) (outcome : Outcome) → CausedIn causes site here call words views j before v h at did m outcome → CurrentIn causes site here call words views j before v h at did m outcome
      → HasCauseOf (work_in m) site words did call (either_ops.wanted m) here outcome
  cause_in (one m) outcome caused current = caused
  cause_in (other (one m)) outcome caused current = caused
  cause_in (other (other m)) outcome caused current = record { cause = caused; current = current }

  pub op_caused : (op : Op) → Suits op_part site here call op before v → op_part.wanted op ≢ Done → finds op_part site words op < 2 ^ 64 → op_part.Remembers site op did → (outcome : Outcome)
      → op_part.outcome op ≡ None → op_part.outcome (next op_part site words op) ≡ Some outcome → HasCauseOf (work_of op) site words did call (op_part.wanted op) here outcome
  op_caused op s asks small r outcome none some =
      subst (λ w. HasCauseOf w site words did call (op_part.wanted op) here outcome) (sym (work_is op))
      (cause_in (state_of op) outcome (caused_by_state causes site here call words views j before v h at did op s asks small r outcome none some)
      (op_current causes site here call words views j before v h at did op s asks small r outcome none some))
