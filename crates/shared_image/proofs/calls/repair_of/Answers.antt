-- By the rules that all proofs share.
use Rattle.std.proofs.Common.{rules}
use Rattle.shared_image.proofs.calls.repair_of.Goals as goal

pub returns : goal.returns
returns c = search rules
