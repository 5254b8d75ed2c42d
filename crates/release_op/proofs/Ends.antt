-- A release tells no other outcome than that its segment is to be split, and tells it at its end.
use Rattle.std.proofs.Common.{◌≡◌, Some, refl, sym, ap, ◌∙◌}
use Rattle.std.proofs.lemmas.Option.{none-some, same_Some}
use Rattle.op_core.specs.declared.want.Ans.{Ans}
use Rattle.op_core.specs.declared.want.Ans.TheVariants.{Passed}
use Rattle.part.specs.Outcomes.{Outcome, need_split, finished}
use Rattle.part.specs.Part.{NeverFinished, EndsAsTold}
use Rattle.phase.specs.declared.held.Held.{Held}
use Rattle.phase.specs.declared.kept.Kept.{Kept}
use Rattle.phase.specs.Helds.{given}
use Rattle.phase.proofs.locks.Choosing.{by_step}
use Rattle.release_op.specs.declared.op.ReleaseStep.{ReleaseStep}
use Rattle.release_op.specs.declared.op.ReleaseStep.TheVariants.{Begin, Give, Ended}
use Rattle.release_op.specs.Steps.{giving, held_in, next_in, end_at, end_of}
use Rattle.release_op.specs.ReleasePart.{outcome_at, release_part}
use Rattle.release_op.specs.Ends.{outcome_of, TellsNoOther}

ends_at : (kept : Kept) (s : ReleaseStep) → outcome_at kept s ≡ outcome_of (end_at kept s)
ends_at kept Begin = refl
ends_at kept (Give held) = refl
ends_at kept Ended = refl

pub ends_as_told : EndsAsTold release_part (λ op. outcome_of (end_of op))
ends_as_told op done = ends_at op.kept op.step

-- ---- no other
pub no_other_at : (kept : Kept) (s : ReleaseStep) (outcome : Outcome) → outcome_at kept s ≡ Some outcome → outcome ≡ need_split kept.segment
no_other_at kept Begin outcome some = absurd (none-some outcome some)
no_other_at kept (Give held) outcome some = sym (same_Some (need_split kept.segment) outcome some)
no_other_at kept Ended outcome some = sym (same_Some (need_split kept.segment) outcome some)

pub tells_no_other : TellsNoOther
tells_no_other op outcome some = no_other_at op.kept op.step outcome some

pub never_finished : NeverFinished release_part
never_finished op some = absurd (let same = no_other_at op.kept op.step finished some in cc)

-- ---- what is decided stays
pub giving_outcome : (kept : Kept) (held : Held) → outcome_at kept (giving held) ≡ Some (need_split kept.segment)
giving_outcome kept held = by_step (λ (s : ReleaseStep). outcome_at kept s ≡ Some (need_split kept.segment)) held (Give held) Ended refl refl

pub stays_at : (kept : Kept) (s : ReleaseStep) (a : Ans) (outcome : Outcome) → outcome_at kept s ≡ Some outcome → outcome_at kept (next_in kept s a) ≡ Some outcome
stays_at kept s Passed outcome some = giving_outcome kept (given (held_in kept s)) ∙ ap Some (sym (no_other_at kept s outcome some))
stays_at kept s a outcome some = some
