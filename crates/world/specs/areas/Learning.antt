-- What loads tell of all media.
use Rattle.std.specs.Prelude.{◌≡◌, ℕ, ◌<◌, List}
use Rattle.trace.specs.Events.{Words}
use Rattle.segment_head.specs.HeadWord.{version_in}
use Rattle.image_layout.specs.Places.{root_word, entries_of, entry_at}
use Rattle.sound_image.specs.Segments.{frame_of}
use Rattle.frame_facts.specs.Media.{first_hash}
use Rattle.frame_facts.specs.Facts.{Lives, Current, Rooted, Begins}
use Rattle.world.specs.Ground.{Ground, version_of}
use Rattle.world.specs.Views.{View}
use Rattle.world.specs.areas.Areas.{header_word}
use Rattle.world.specs.areas.Fitting.{HasGrounds}
use Rattle.world.specs.areas.Lasting.{Lasting, AreSoundMedia}
use Rattle.world.specs.areas.Saying.{IsSaid}

-- THE ROOT tells that each entry of its area names a segment that lives in whatever a cut may leave: with the newest root and that entry it
-- would be a medium too, and one whose structure is sound
abbrev pub RootsTell : Type 0
RootsTell = (site : Ground) (words : Words) (views : List View) → HasGrounds site words views → AreSoundMedia site words views → IsSaid site words views (Rooted (words root_word))

-- such an entry tells a segment that lives there
abbrev pub EntriesTell : Type 0
EntriesTell = (site : Ground) (words : Words) (views : List View) (e i : ℕ) → i < entries_of e → IsSaid site words views (Rooted e) → IsSaid site words views (Lives (words (entry_at e i)))

-- and the header of such a segment where it begins, and that it is current, if it has the image's version
abbrev pub HeadersTell : Type 0
HeadersTell = (site : Ground) (words : Words) (views : List View) (s : ℕ) → Lasting site words views → IsSaid site words views (Lives s)
    → (version_in (words (header_word site.shape s)) ≡ version_of site → IsSaid site words views (Current s))
    × IsSaid site words views (Begins s (first_hash (frame_of site.shape words) s))
