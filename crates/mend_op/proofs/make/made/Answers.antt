-- Whatever the header is.
use Rattle.std.proofs.Common.{sym, ap, ◌∙◌}
use Rattle.mend_op.specs.Stages.{made}
use Rattle.mend_op.proofs.make.made.Goals as goal

pub returns-in-Note : goal.returns-in-Note
returns-in-Note c = c.noted.ensures c.args.head ∙ ap (λ s. made s c.args.geometry.now c.args.head c.args.words.now) (sym c.in-Note.is)
