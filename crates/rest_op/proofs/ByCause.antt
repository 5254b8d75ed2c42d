-- Its only outcome is that it has finished, which asks for no cause.
use Rattle.std.proofs.Common.{◌≡◌, ℕ, None, Some, false, true, refl, subst}
use Rattle.trace.specs.Events.{Words}
use Rattle.op_core.specs.declared.want.Want.{Want}
use Rattle.op_core.specs.declared.want.Ans.{Ans}
use Rattle.op_core.specs.declared.why.Why.TheVariants.{Busy}
use Rattle.image_layout.specs.Places.{Shape}
use Rattle.map_model.specs.declared.call.Call.{Call}
use Rattle.part.specs.Doings.{Doings}
use Rattle.part.specs.Outcomes.{Outcome, again, finished}
use Rattle.part.specs.Splits.{HasSplitCause, EndsBySplitCause}
use Rattle.rest_op.specs.declared.op.RestOp.{RestOp}
use Rattle.rest_op.specs.declared.op.RestStep.{RestStep}
use Rattle.rest_op.specs.declared.op.RestStep.TheVariants.{Ended}
use Rattle.rest_op.specs.Steps.{next_in, wanted}
use Rattle.rest_op.specs.RestPart.{outcome_at, rest_part, segment_of}
use Rattle.rest_op.proofs.RestIsPart.{ends_as_split}

-- what is decided is that it has finished
told_at : (s : RestStep) (outcome : Outcome) → outcome_at s ≡ Some outcome → finished ≡ outcome
told_at Ended outcome some = cc
told_at s outcome some = absurd (let no : None ≡ Some outcome = some in cc)

no_busy : (s : RestStep) (word value : ℕ) → outcome_at s ≡ Some (again (Busy word value)) → ⊥
no_busy s word value some = let no = told_at s (again (Busy word value)) some in cc

caused_at : (shape : Shape) (words : Words) (did : Doings) (call : Call) (segment : ℕ) (event : Want) (s : RestStep) (outcome : Outcome) → outcome_at s ≡ Some outcome
    → HasSplitCause shape words did call segment event outcome
caused_at shape words did call segment event s outcome some = subst (λ (o : Outcome). HasSplitCause shape words did call segment event o) (told_at s outcome some) tt

stays_at : (op : RestOp) (s : RestStep) (a : Ans) (outcome : Outcome) → outcome_at s ≡ Some outcome → outcome_at (next_in op s a) ≡ Some outcome
stays_at op Ended a outcome some = some
stays_at op s a outcome some = absurd (let no : None ≡ Some outcome = some in cc)

-- ITS OUTCOME HAS ITS CAUSE
pub ends_by_split_cause : EndsBySplitCause rest_part segment_of
ends_by_split_cause = record {
  steps = λ site here call words views j op before v did h at s asks small r. record {
    remembers = tt;
    caused = λ outcome none some. caused_at site.shape words did call op.whole.segment (wanted op) _ outcome some;
    not_own = λ word value none some has. no_busy _ word value some;
  };
  stays = λ op a outcome some. stays_at op op.step a outcome some;
  decided = λ site here call op v s done closed. (finished, (ends_as_split site here call op v s done).0);
  undecided = λ op hands. absurd (let no : false ≡ true = hands in cc);
  same_segment = λ op a. refl;
}
