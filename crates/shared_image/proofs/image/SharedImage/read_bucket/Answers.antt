-- The bucket that is read is the one that is told.
use Rattle.shared_image.proofs.image.SharedImage.read_bucket.Goals as goal

pub returns-clause-read : goal.returns-clause-read
returns-clause-read c = c.read_bucket.ensures.read
