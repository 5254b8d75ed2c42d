-- By the rules that all proofs share.
use Rattle.std.proofs.Common.{rules}
use Rattle.phase.proofs.walk.after_head.Goals as goal

pub returns-then-version-site : goal.returns-then-version-site
returns-then-version-site c = search rules
