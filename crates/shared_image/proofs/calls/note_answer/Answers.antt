-- Where the power is told off, it is noted.
use Rattle.std.proofs.Common.{sym, ap}
use Rattle.shared_image.specs.Calling.{says_off}
use Rattle.shared_image.proofs.calls.note_answer.Goals as goal

pub returns-in-Off-clause-off : goal.returns-in-Off-clause-off
returns-in-Off-clause-off g c = sym (ap says_off c.in-Off.is)
