-- What a view knows of the newest words, and of a medium that may be left beside them.
use Rattle.std.proofs.Common.{List, inl, refl}
use Rattle.trace.specs.Events.{Words}
use Rattle.world.specs.Ground.{Ground}
use Rattle.world.specs.Views.{View}
use Rattle.world.specs.Media.{IsPossible}

pub newest : (site : Ground) (words : Words) (views : List View) → IsPossible site words views words
newest site words views i within = inl refl
