-- The lowest byte is the fingerprint.
use Rattle.std.proofs.lemmas.Nat.{and_mask}
use Rattle.hash_word.proofs.finger.Goals as goal

pub returns : goal.returns
returns c = and_mask c.args.h 8
