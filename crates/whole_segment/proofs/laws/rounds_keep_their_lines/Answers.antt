-- Each is a lemma.
use Rattle.whole_segment.proofs.OneRound.{touched_has, touched_keeps, touched_only}
use Rattle.whole_segment.proofs.Settling.{touched_few}
use Rattle.whole_segment.proofs.laws.rounds_keep_their_lines.Goals as goal

pub returns-clause-here : goal.returns-clause-here
returns-clause-here c = touched_has

pub returns-clause-others : goal.returns-clause-others
returns-clause-others c = touched_keeps

pub returns-clause-none_else : goal.returns-clause-none_else
returns-clause-none_else c = touched_only

pub returns-clause-few : goal.returns-clause-few
returns-clause-few c = touched_few
