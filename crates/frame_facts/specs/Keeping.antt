-- What a store keeps of facts, beside a medium that has it and beside one that has not.
use Rattle.std.specs.Prelude.{◌≡◌, ℕ, ◌^◌, ◌<◌, ◌≤◌, ⊤}
use Rattle.trace.specs.Events.{Words, with_word}
use Rattle.hash_word.specs.Hash.{Covers}
use Rattle.segment_head.specs.HeadWord.{version_in}
use Rattle.image_layout.specs.Places.{Shape, IsShape, root_word, entries_of, entry_at, header_word, link_word}
use Rattle.bucket_words.specs.Segments.{Frame, frame_of, InOneSide}
use Rattle.bucket_words.specs.Claims.{HasSoundFrame}
use Rattle.bucket_words.specs.Stores.{StoreKeeps}
use Rattle.frame_facts.specs.Facts.{Fact, Owns, Taken, IsLiveSlot, IsCurrentSlot, IsNewSide, IsUsedSlot, IsTakenSlot, HoldsFact}

-- so it is in the newest words, and so in the medium
abbrev pub Both : Words → Words → (Words → Type 0) → Type 0
Both words medium Is = Is words × Is medium

module _ (shape : Shape) (words medium : Words) where
  -- the newest words and the medium each say a sound frame
  pub record AreSound : Type 0 where
    pub shape_fits : IsShape shape
    pub newest : HasSoundFrame shape words
    pub there : HasSoundFrame shape medium

  -- the root's area is the same one in both
  abbrev pub HaveOneRoot : Type 0
  HaveOneRoot = medium root_word ≡ words root_word

  -- header and link of a segment are the same in both
  pub record IsSettled (s : ℕ) : Type 0 where
    pub header : words (header_word shape s) ≡ medium (header_word shape s)
    pub link : words (link_word shape s) ≡ medium (link_word shape s)

-- a header word with which slot s has the image's version, if it had it
abbrev pub KeepsVersion : Shape → ℕ → ℕ → ℕ → Words → Type 0
KeepsVersion shape version s x word = version_in (word (header_word shape s)) ≡ version → version_in x ≡ version

-- an entry of an area that a root has come to: a fact speaks of these, the areas above are nobody's yet
abbrev pub IsEntry : Words → ℕ → Type 0
IsEntry words i = (e : ℕ) × (k : ℕ) × (e ≤ words root_word) × (k < entries_of e) × (i ≡ entry_at e k)

-- a fact that is no claim of segment s to a hash of its 1-side
abbrev pub ClaimsNoneOfSide : Frame → ℕ → Fact → Type 0
ClaimsNoneOfSide frame s (Owns t depth pattern) = t ≡ s → (h : ℕ) → h < 2 ^ 64 → Covers depth pattern h → InOneSide frame s h → ⊥
ClaimsNoneOfSide frame s fact = ⊤

-- a fact that says nothing of taken slots, or of one that a store does not free
abbrev pub FreesNone : Shape → Words → ℕ → ℕ → Fact → Type 0
FreesNone shape medium i x (Taken n) = IsTakenSlot (frame_of shape medium) n → IsTakenSlot (frame_of shape (with_word medium i x)) n
FreesNone shape medium i x fact = ⊤

module _ (shape : Shape) (version : ℕ) (words medium : Words) (i x : ℕ) where
  -- A STORE KEEPS A FACT beside a medium: where the medium has the store, and where it has not
  pub record KeepsFact (fact : Fact) : Type 0 where
    pub has : HoldsFact shape version words fact medium → HoldsFact shape version (with_word words i x) fact (with_word medium i x)
    pub without : HoldsFact shape version words fact medium → HoldsFact shape version (with_word words i x) fact medium

  abbrev pub KeepsFacts : Type 0
  KeepsFacts = (fact : Fact) → KeepsFact fact

  -- WHAT IS ENOUGH of a store that keeps the claims in both: no current segment loses the version, the root does not fall, what
  -- an entry is to name lives, and a new side of a current segment goes on as one, or is live
  pub record Spares : Type 0 where
    pub newest : StoreKeeps shape words i x
    pub there : StoreKeeps shape medium i x
    pub current : (s : ℕ) → IsCurrentSlot (frame_of shape words) version s → i ≡ header_word shape s → version_in x ≡ version
    pub root : i ≡ root_word → words root_word ≤ x
    pub entries : IsEntry words i → IsLiveSlot (frame_of shape medium) x
    pub used : (s n : ℕ) → IsNewSide (frame_of shape medium) version s n → IsUsedSlot (frame_of shape (with_word medium i x)) version n
