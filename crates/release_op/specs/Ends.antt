-- How a release ends: its segment is to be split, and it tells so.
use Rattle.std.specs.Prelude.{◌≡◌, Option, None, Some}
use Rattle.part.specs.Outcomes.{Outcome, need_split}
use Rattle.release_op.specs.declared.op.ReleaseEnd.{ReleaseEnd}
use Rattle.release_op.specs.declared.op.ReleaseEnd.TheVariants as ends
use Rattle.release_op.specs.declared.op.ReleaseOp.{ReleaseOp}
use Rattle.release_op.specs.ReleasePart.{release_part}

-- where no lock was given back nothing is decided
abbrev pub outcome_of : ReleaseEnd → Option Outcome
outcome_of (ends.NeedSplit segment) = Some (need_split segment)
outcome_of ends.Off = None

-- IT TELLS NO OTHER OUTCOME, in any state, than that the segment which is kept is to be split
abbrev pub TellsNoOther : Type 0
TellsNoOther = (op : ReleaseOp) (outcome : Outcome) → release_part.outcome op ≡ Some outcome → outcome ≡ need_split op.kept.segment
