-- The round has room for one line more, since it takes the line and does not end with it.
use Rattle.std.proofs.Common.{sym, ◌∙◌}
use Rattle.whole_segment.proofs.OneRound.{has_room, fields_more}
use Rattle.whole_segment.proofs.round.Round.touch.Goals as goal

pub invariant_of-self : goal.invariant_of-self
invariant_of-self c = rw c.from.ensures (fields_more c.self.inside c.args.line c.self.invariant _ c.self.view_is (has_room _ c.args.line c.requires (sym c.ends_with.ensures ∙ c.if-not-ends_with.true)))
