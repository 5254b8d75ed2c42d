-- What a cut may leave is good.
use Rattle.world.specs.StepLaws.{MediaStand}

pub moving_media_good : MediaStand
moving_media_good site words views h = (
  h.log,
  h.history,
  (λ medium p. record {
    structure = h.structure.sound medium p;
    table = h.media.table medium p;
    stands = h.media.stands medium p;
  }),
)
