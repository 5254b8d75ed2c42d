-- What a caller may rely on of the structure, beside the words that it holds: facts that each store of other callers leaves true.
use Rattle.std.specs.Prelude.{◌≡◌, ◌≢◌, ℕ, ◌^◌, ◌<◌, ◌≤◌, ◌⊎◌}
use Rattle.trace.specs.Events.{Words}
use Rattle.hash_word.specs.Hash.{Covers}
use Rattle.segment_head.specs.HeadWord.{version_in, free, splitting, fresh, link_to}
use Rattle.image_layout.specs.Places.{Shape, root_word, entries_of, entry_at}
use Rattle.bucket_words.specs.Segments.{Frame, frame_of, state_at, depth_at, pattern_at, side_depth_at, side_pattern_at, IsLive}
use Rattle.bucket_words.specs.Claims.{ClaimsAll, ClaimsNone, named_for}
use Rattle.bucket_words.specs.Media.{first_hash}

-- A FACT. A region is the hashes whose top bits, as many as its depth says, are its pattern
pub data Fact : Type 0 where
  -- the segment in a slot is live
  Lives : (slot : ℕ) → Fact
  -- it is live in the newest words, and has the image's version there
  Current : (slot : ℕ) → Fact
  -- the newest root is at least this deep, and each newest entry of the area of this depth names a live segment
  Rooted : (depth : ℕ) → Fact
  -- the segment in a slot claims each hash of a region
  Owns : (slot depth pattern : ℕ) → Fact
  -- it is live, and claims none of them
  Lacks : (slot depth pattern : ℕ) → Fact
  -- the entry of each hash of a region names a segment that is deeper than this
  Deep : (floor depth pattern : ℕ) → Fact
  -- the segment in a slot is live, and this is the first hash that it covers
  Begins : (slot hash : ℕ) → Fact
  -- a slot is taken for good: its segment is live, or is the new side of a splitting one that has the image's version
  Used : (slot : ℕ) → Fact
  -- a slot is none that is free
  Taken : (slot : ℕ) → Fact

module _ (frame : Frame) where
  -- slot s is there, and its segment is live
  pub record IsLiveSlot (s : ℕ) : Type 0 where
    pub slot : s < frame.segments
    pub live : IsLive frame s

  -- it is live, and its header has this version
  pub record IsCurrentSlot (version s : ℕ) : Type 0 where
    pub live : IsLiveSlot s
    pub current : version_in (frame.header s) ≡ version

  -- slot n is NEW, has the 1-side of segment s, and is linked by it, which is SPLITTING and has this version
  pub record IsNewSide (version s n : ℕ) : Type 0 where
    pub slot : s < frame.segments
    pub splits : state_at frame s ≡ splitting
    pub current : version_in (frame.header s) ≡ version
    pub linked : frame.link s ≡ link_to n
    pub side_slot : n < frame.segments
    pub new : state_at frame n ≡ fresh
    pub depth : depth_at frame n ≡ side_depth_at frame s
    pub pattern : pattern_at frame n ≡ side_pattern_at frame s

  -- slot n is taken for good
  abbrev pub IsUsedSlot : ℕ → ℕ → Type 0
  IsUsedSlot version n = IsLiveSlot n ⊎ ((s : ℕ) × IsNewSide version s n)

  -- slot n is there, and is not FREE
  pub record IsTakenSlot (n : ℕ) : Type 0 where
    pub slot : n < frame.segments
    pub taken : state_at frame n ≢ free

  -- the entries of a region name segments that are deeper than this
  abbrev pub NamesDeeper : ℕ → ℕ → ℕ → Type 0
  NamesDeeper floor depth pattern = (h : ℕ) → h < 2 ^ 64 → Covers depth pattern h → floor < depth_at frame (named_for frame h)

-- beside the newest words, A MEDIUM IS AS A FACT SAYS
module _ (shape : Shape) (version : ℕ) (words : Words) where
  abbrev pub HoldsFact : Fact → Words → Type 0
  HoldsFact (Lives s) medium = IsLiveSlot (frame_of shape medium) s
  HoldsFact (Current s) medium = IsCurrentSlot (frame_of shape words) version s
  HoldsFact (Rooted e) medium =
      (e ≤ words root_word) × ((i : ℕ) → i < entries_of e → IsLiveSlot (frame_of shape medium) (words (entry_at e i)))
  HoldsFact (Owns s d p) medium = ClaimsAll (frame_of shape medium) s d p
  HoldsFact (Lacks s d p) medium = IsLiveSlot (frame_of shape medium) s × ClaimsNone (frame_of shape medium) s d p
  HoldsFact (Deep f d p) medium = NamesDeeper (frame_of shape medium) f d p
  HoldsFact (Begins s h) medium = IsLiveSlot (frame_of shape medium) s × (first_hash (frame_of shape medium) s ≡ h)
  HoldsFact (Used n) medium = IsUsedSlot (frame_of shape medium) version n
  HoldsFact (Taken n) medium = IsTakenSlot (frame_of shape medium) n
