use Rattle.vlock.proofs.Opened.{begins}
use Rattle.vlock.proofs.ends.open.Goals as goal

pub of_words-requires : goal.of_words-requires
of_words-requires c = begins c.args.key.now _ c.requires.0 c.requires.1
