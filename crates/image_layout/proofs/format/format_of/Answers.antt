-- By the rules that all proofs share.
use Rattle.std.proofs.Common.{rules}
use Rattle.image_layout.proofs.format.format_of.Goals as goal

pub returns : goal.returns
returns c = search rules
