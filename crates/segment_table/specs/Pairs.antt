-- The records of segments beside a store to a word of the frame: it leaves them all, and owners tell which are pairs.
use Rattle.std.specs.Prelude.{◌≡◌, ◌↔◌, ℕ, ◌^◌, ◌<◌, Option}
use Rattle.trace.specs.Events.{with_word}
use Rattle.sound_image.specs.Places.{Shape}
use Rattle.sound_image.specs.Segments.{ImageWords, frame_of, InOneSide}
use Rattle.sound_image.specs.Records.{key_hash, slot_key, slot_value, slot_hash, HasRecord, HasAt}

module _ (shape : Shape) (word : ImageWords) where
  -- segment s has a record of this key and this value
  pub record Holds (s k v : ℕ) : Type 0 where
    pub b : ℕ
    pub r : ℕ
    pub there : HasRecord shape word s b r
    pub key_is : slot_key shape word s b r ≡ k
    pub value_is : slot_value shape word s b r ≡ v

  -- the hashes of all records have 64 bits
  abbrev pub HashesFit : Type 0
  HashesFit = (s b r : ℕ) → HasRecord shape word s b r → slot_hash shape word s b r < 2 ^ 64

  -- segment n has the records of s whose hashes are in the 1-side of s, and no others whose hashes are
  abbrev pub IsCopied : ℕ → ℕ → Type 0
  IsCopied s n = (k v : ℕ) → InOneSide (frame_of shape word) s (key_hash shape k) → Holds s k v ↔ Holds n k v

  -- with word i replaced, what each key has is what it had
  abbrev pub StoreKeepsPairs : ℕ → ℕ → Type 0
  StoreKeepsPairs i x = (k : ℕ) (a : Option ℕ) → HasAt shape word k a ↔ HasAt shape (with_word word i x) k a
