-- By computing.
use Rattle.std.proofs.Common.{refl}
use Rattle.script_text.proofs.callers.may_have_runs.Goals as goal

pub returns : goal.returns
returns c = refl
