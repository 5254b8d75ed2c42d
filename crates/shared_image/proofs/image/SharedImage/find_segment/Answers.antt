-- The version is that of the image, and the hash the one that is told.
use Rattle.shared_image.proofs.image.SharedImage.find_segment.Goals as goal

pub find_segment-requires-clause-version : goal.find_segment-requires-clause-version
find_segment-requires-clause-version c = c.requires.on.version

pub returns-clause-finds : goal.returns-clause-finds
returns-clause-finds c = c.find_segment.ensures.finds
