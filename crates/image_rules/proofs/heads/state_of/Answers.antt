-- The state stands in the header word.
use Rattle.std.proofs.Common.{ap, ◌∙◌}
use Rattle.segment_head.specs.HeadWord.{state_in}
use Rattle.image_rules.proofs.heads.state_of.Goals as goal

pub returns : goal.returns
returns c = c.state_of.ensures ∙ ap state_in c.header_at.ensures
