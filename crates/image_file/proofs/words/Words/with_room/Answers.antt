-- By the rules that all proofs share.
use Rattle.std.proofs.Common.{rules}
use Rattle.image_file.proofs.words.Words.with_room.Goals as goal

pub returns : goal.returns
returns c = search rules
