-- Whether a guarded segment has a ready side is the same in whatever a cut may leave: what a repair stands on.
use Rattle.std.specs.Prelude.{◌≡◌, ℕ, List}
use Rattle.trace.specs.Events.{Words}
use Rattle.sound_image.specs.Segments.{frame_of, IsReadySide, HasReadySide}
use Rattle.world.specs.Ground.{Ground}
use Rattle.world.specs.Views.{View, Has, At}
use Rattle.world.specs.Media.{IsPossible}
use Rattle.world.specs.areas.Areas.{Segment, Side, header_word, link_word}
use Rattle.world.specs.areas.Fitting.{Fits, HasGrounds}
use Rattle.world.specs.areas.Lasting.{Lasting, AreSoundMedia}

-- a view has the guard of a segment, whose header and link are settled
pub record IsGuardedFirm (site : Ground) (words : Words) (views : List View) (c : ℕ) (v : View) (s : ℕ) : Type 0 where
  pub grounds : HasGrounds site words views
  pub fits : Fits site words views
  pub sound : AreSoundMedia site words views
  pub lasting : Lasting site words views
  pub at : At views c v
  pub guarded : Has (Segment s) v.areas
  pub head : (medium : Words) → IsPossible site words views medium → medium (header_word site.shape s) ≡ words (header_word site.shape s)
  pub link : (medium : Words) → IsPossible site words views medium → medium (link_word site.shape s) ≡ words (link_word site.shape s)

-- READY NOW, ready in each medium, where the view has not that side as one that is not settled
abbrev pub SidesAreReadyEverywhere : Type 0
SidesAreReadyEverywhere = (site : Ground) (words : Words) (views : List View) (c : ℕ) (v : View) (s n : ℕ) → IsGuardedFirm site words views c v s → (Has (Side n) v.areas → ⊥)
    → IsReadySide (frame_of site.shape words) s n → (medium : Words) → IsPossible site words views medium → IsReadySide (frame_of site.shape medium) s n

-- NOT READY NOW, ready in none
abbrev pub SidesAreReadyNowhere : Type 0
SidesAreReadyNowhere = (site : Ground) (words : Words) (views : List View) (c : ℕ) (v : View) (s : ℕ) → IsGuardedFirm site words views c v s
    → (HasReadySide (frame_of site.shape words) s → ⊥) → (medium : Words) → IsPossible site words views medium → HasReadySide (frame_of site.shape medium) s → ⊥
