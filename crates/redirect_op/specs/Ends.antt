-- How the redirecting of entries ends: what is decided by it.
use Rattle.std.specs.Prelude.{Option, None, Some}
use Rattle.part.specs.Outcomes.{Outcome, again}
use Rattle.redirect_op.specs.declared.step.RedirectEnd.{RedirectEnd}
use Rattle.redirect_op.specs.declared.step.RedirectEnd.TheVariants as ends
use Rattle.redirect_op.specs.declared.step.RedirectStep.{RedirectStep}
use Rattle.redirect_op.specs.declared.step.RedirectStep.TheVariants.{Give, Ended}

-- nothing is decided where another machine goes on
abbrev pub outcome_of : RedirectEnd → Option Outcome
outcome_of (ends.Again why) = Some (again why)
outcome_of ends.Guarded = None

-- in each step; once it is decided, the guard of the segment is given back
abbrev pub outcome_at : RedirectStep → Option Outcome
outcome_at (Give end) = outcome_of end
outcome_at (Ended end) = outcome_of end
outcome_at step = None
