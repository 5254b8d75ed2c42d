-- The newest structure is sound.
use Rattle.std.proofs.Common.{List, inl, refl}
use Rattle.trace.specs.Events.{Words}
use Rattle.world.specs.Ground.{Ground, IsStructured}
use Rattle.world.specs.Views.{View}
use Rattle.world.specs.Invariant.{Holds}

pub sound_now : (site : Ground) (words : Words) (views : List View) → Holds site words views → IsStructured site words
sound_now site words views h = h.structure.sound words (λ i within. inl refl)
