-- By the rules that all proofs share.
use Rattle.std.proofs.Common.{rules}
use Rattle.shared_image.proofs.image.SharedImage.split_pass.Goals as goal

pub returns-clause-view : goal.returns-clause-view
returns-clause-view c = search rules
