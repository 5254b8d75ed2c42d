-- The file says the words, and they say the geometry.
use Rattle.std.proofs.Common.{◌∙◌}
use Rattle.image_file.proofs.RoundTrip.{words_back, geometry_back}
use Rattle.image_file.proofs.laws.read_of_written.Goals as goal

pub returns-in-Ok-clause-words : goal.returns-in-Ok-clause-words
returns-in-Ok-clause-words c =
    words_back c.args.medium.now.geometry c.args.medium.now.words c.deref.result.now c.requires.sound (c.deref.ensures.value ∙ c.in-Ok.ensures.file)
    c.from_bytes.result c.from_bytes.ensures.sound c.from_bytes.ensures.file

pub returns-in-Ok-clause-geometry : goal.returns-in-Ok-clause-geometry
returns-in-Ok-clause-geometry c =
    geometry_back c.args.medium.now.geometry c.args.medium.now.words c.deref.result.now c.requires.sound (c.deref.ensures.value ∙ c.in-Ok.ensures.file)
    c.from_bytes.result c.from_bytes.ensures.sound c.from_bytes.ensures.file
