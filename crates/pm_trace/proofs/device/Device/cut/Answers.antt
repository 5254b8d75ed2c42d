-- What the choice leaves is possible.
use Rattle.std.proofs.Common.{arith, ap, sym, subst}
use Rattle.std.proofs.lemmas.Grind.{common_steps}
use Rattle.pm_trace.specs.Memory.{Memory}
use Rattle.pm_trace.specs.TraceOf.{MayLeave}
use Rattle.pm_trace.proofs.Chosen.{kept_is_possible}
use Rattle.pm_trace.proofs.device.Device.cut.Goals as goal

pub returns-clause-geometry : goal.returns-clause-geometry
returns-clause-geometry c = ap (λ (m : Memory). m.shape) c.self.view_is

pub returns-clause-words : goal.returns-clause-words
returns-clause-words c = grind (arith, common_steps)

pub returns-clause-possible : goal.returns-clause-possible
returns-clause-possible c =
    subst (λ ws. MayLeave c.args.self ws) (sym (returns-clause-words c)) (kept_is_possible c.args.self c.args.choice)
