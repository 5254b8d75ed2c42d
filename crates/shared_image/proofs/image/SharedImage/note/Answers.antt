-- By the rules that all proofs share.
use Rattle.std.proofs.Common.{rules}
use Rattle.shared_image.proofs.image.SharedImage.note.Goals as goal

pub returns-clause-views : goal.returns-clause-views
returns-clause-views c = search rules
