-- What an enclosing tells at its end.
use Rattle.std.specs.Prelude.{Option, None, Some}
use Rattle.part.specs.Outcomes.{Outcome, off}
use Rattle.enclose_op.specs.declared.op.EncloseEnd.{EncloseEnd}
use Rattle.enclose_op.specs.declared.op.EncloseEnd.TheVariants as ends
use Rattle.enclose_op.specs.Fits.{outcome_of}

-- where the segment is enclosed nothing is decided, since another machine goes on
abbrev pub outcome_told : EncloseEnd → Option Outcome
outcome_told (ends.Back end) = Some (outcome_of end)
outcome_told ends.Whole = None
outcome_told ends.Off = Some off
