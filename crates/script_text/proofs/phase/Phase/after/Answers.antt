-- By the rules that all proofs share.
use Rattle.std.proofs.Common.{rules}
use Rattle.script_text.proofs.phase.Phase.after.Goals as goal

pub returns-in-Cut : goal.returns-in-Cut
returns-in-Cut c = search rules
