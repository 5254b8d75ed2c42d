-- Words of an empty table are a sound image without pairs.
use Rattle.image_file.proofs.EmptySound.{formatted-IsSoundImage, formatted-no_pair}
use Rattle.image_file.proofs.formatted.format.Goals as goal

pub returns-clause-sound : goal.returns-clause-sound
returns-clause-sound c =
    formatted-IsSoundImage c.args.geometry _ c.in_ok-words.ensures c.shape_in_range.ensures
    c.as_slice-slice.ensures.fits

pub returns-clause-empty : goal.returns-clause-empty
returns-clause-empty c = formatted-no_pair c.args.geometry _ c.in_ok-words.ensures
