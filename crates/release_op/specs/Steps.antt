-- What a release wants, what an answer makes of it, and how it ends.
use Rattle.op_core.specs.declared.want.Want.{Want}
use Rattle.op_core.specs.declared.want.Ans.{Ans}
use Rattle.op_core.specs.declared.want.Ans.TheVariants.{Passed}
use Rattle.phase.specs.declared.held.Held.{Held}
use Rattle.phase.specs.declared.kept.Kept.{Kept}
use Rattle.phase.specs.Helds.{none_held, give_wanted, given, give_step}
use Rattle.release_op.specs.declared.op.ReleaseEnd.{ReleaseEnd}
use Rattle.release_op.specs.declared.op.ReleaseEnd.TheVariants.{NeedSplit, Off}
use Rattle.release_op.specs.declared.op.ReleaseStep.{ReleaseStep}
use Rattle.release_op.specs.declared.op.ReleaseStep.TheVariants.{Begin, Give, Ended}
use Rattle.release_op.specs.declared.op.ReleaseOp.{ReleaseOp}

-- these locks are given back, one after another, and then it ends
abbrev pub giving : Held → ReleaseStep
giving held = give_step held (Give held) Ended

-- a release that has done nothing yet
abbrev pub begun : Kept → ReleaseOp
begun kept = record { kept = kept; step = Begin }

-- the locks that are still held
abbrev pub held_in : Kept → ReleaseStep → Held
held_in kept Begin = kept.held
held_in kept (Give held) = held
held_in kept Ended = none_held

-- THE EVENT that it wants: the first of them is given back; where there is none, nothing
abbrev pub wanted_in : Kept → ReleaseStep → Want
wanted_in kept at = give_wanted kept.site kept.hash kept.segment (held_in kept at)

-- WHAT AN ANSWER makes of it; one that is none of a store leaves it as it is
abbrev pub next_in : Kept → ReleaseStep → Ans → ReleaseStep
next_in kept at Passed = giving (given (held_in kept at))
next_in kept at ans = at

abbrev pub wanted : ReleaseOp → Want
wanted op = wanted_in op.kept op.step

abbrev pub taken : ReleaseOp → Ans → ReleaseOp
taken op ans = record { kept = op.kept; step = next_in op.kept op.step ans }

-- HOW IT ENDS: its segment is to be split; one that has given no lock back counts as cut off
abbrev pub end_at : Kept → ReleaseStep → ReleaseEnd
end_at kept Begin = Off
end_at kept (Give held) = NeedSplit kept.segment
end_at kept Ended = NeedSplit kept.segment

abbrev pub end_of : ReleaseOp → ReleaseEnd
end_of op = end_at op.kept op.step
