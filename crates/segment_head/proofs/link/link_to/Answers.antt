-- By the rules that all proofs share.
use Rattle.std.proofs.Common.{rules}
use Rattle.segment_head.proofs.link.link_to.Goals as goal

pub returns : goal.returns
returns c = search rules
