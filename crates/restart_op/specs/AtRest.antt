-- A segment at rest, and the structure behind a restart and in front of a close. Of stale segments, which live and have not the version of the
-- image, nothing is said but what the structure says.
use Rattle.std.specs.Prelude.{◌≡◌, ℕ, Some}
use Rattle.segment_head.specs.HeadWord.{normal}
use Rattle.trace.specs.Events.{Words}
use Rattle.image_layout.specs.Places.{Shape, state_word}
use Rattle.image_layout.specs.StateWord.{marker_in}
use Rattle.sound_image.specs.Segments.{frame_of, image_version, state_at}
use Rattle.sound_image.specs.Records.{key_hash}
use Rattle.segment_table.specs.Claims.{HasSoundFrame}
use Rattle.bucket_words.specs.Owners.{owner_of}
use Rattle.bucket_words.specs.Hits.{Hit}
use Rattle.bucket_words.specs.Standing.{LocksAreFree, KeysStandOnce, NotesAreExact}
use Rattle.world.specs.Facts.{IsCurrentSlot}

module _ (shape : Shape) (word : Words) where
  -- in slot s no lock is taken, each key stands once, and the notes of each home are exact
  pub record IsAtRest (s : ℕ) : Type 0 where
    pub free : LocksAreFree shape word s
    pub once : KeysStandOnce shape word s
    pub exact : NotesAreExact shape word s

  -- the segment in slot s is current: it is live, with the version of the image
  abbrev pub IsCurrent : ℕ → Type 0
  IsCurrent s = IsCurrentSlot (frame_of shape word) (image_version (frame_of shape word)) s

  -- THE STRUCTURE behind a restart and in front of a close: a sound one, the marker clear, where each current segment is normal, so that it takes
  -- calls
  pub record IsOpenStructure : Type 0 where
    pub frame : HasSoundFrame shape word
    pub not_clean : marker_in (word state_word) ≡ 0
    pub takes_calls : (s : ℕ) → IsCurrent s → state_at (frame_of shape word) s ≡ normal

  -- each record of a current segment stands in the owner of its key's hash
  abbrev pub HasOwnRecords : Type 0
  HasOwnRecords = (s b r k : ℕ) → IsCurrent s → Hit shape word s b r k → owner_of shape word (key_hash shape k) ≡ Some s
