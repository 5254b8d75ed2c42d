-- The lowest byte is the version.
use Rattle.std.proofs.lemmas.Nat.{and_mask}
use Rattle.hash_word.proofs.version_of.Goals as goal

pub returns : goal.returns
returns c = and_mask c.args.word 8
