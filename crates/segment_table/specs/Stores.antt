-- The stores to headers, links, the root and the directory: for each what it must find in a sound frame, and what it leaves.
use Rattle.std.specs.Prelude.{◌≡◌, ◌≢◌, ℕ, ◌^◌, ◌<◌, ◌≤◌, ◌⊎◌}
use Rattle.trace.specs.Events.{with_word}
use Rattle.hash_word.specs.Hash.{index_of}
use Rattle.segment_head.specs.HeadWord.{version_in, state_in, depth_in, pattern_in, free, normal, splitting, fresh, link_to, no_link, LinksWithin}
use Rattle.segment_head.specs.Prefixes.{pattern_of_zero_side}
use Rattle.sound_image.specs.Places.{Shape, root_word, state_word, entries_of, depth_below, entry_above, entry_at, header_word, link_word}
use Rattle.sound_image.specs.StateWord.{first_version}
use Rattle.sound_image.specs.Segments.{ImageWords, Frame, frame_of, image_version, state_at, depth_at, pattern_at, side_depth_at, side_pattern_at, InOneSide, IsReadySide, HasReadySide}
use Rattle.segment_table.specs.Claims.{Claims, named_for, IsSoundFrame}
use Rattle.segment_table.specs.Media.{IsSteady}

-- WHAT A STORE LEAVES: all is sound, no entry names a less deep segment than before, and what is live stays so
pub record GoesOn (greatest : ℕ) (before after : Frame) : Type 0 where
  pub sound : IsSoundFrame greatest after
  pub deeper : (h : ℕ) → h < 2 ^ 64 → depth_at before (named_for before h) ≤ depth_at after (named_for after h)
  pub steady : IsSteady before after

-- and each hash is claimed by the segment that claimed it
pub record Keeps (greatest : ℕ) (before after : Frame) : Type 0 where
  pub goes_on : GoesOn greatest before after
  pub claims : (s h : ℕ) → h < 2 ^ 64 → Claims before s h → Claims after s h

-- or else segment s gives the hashes of its 1-side to segment n, and each other hash is claimed as before
pub record HandsOver (greatest : ℕ) (before after : Frame) (s n : ℕ) : Type 0 where
  pub goes_on : GoesOn greatest before after
  pub given : (h : ℕ) → h < 2 ^ 64 → InOneSide before s h → Claims before s h × Claims after n h
  pub claims : (t h : ℕ) → h < 2 ^ 64 → Claims before t h → (t ≡ s → InOneSide before s h → ⊥) → Claims after t h

-- WHAT A STORE MUST FIND. Below, x is the word that is stored to a header
module _ (frame : Frame) where
  -- x covers the hashes that the segment in slot s covers
  pub record HasRegionOf (s x : ℕ) : Type 0 where
    pub depth : depth_in x ≡ depth_at frame s
    pub pattern : pattern_in x ≡ pattern_at frame s

  -- its version byte is not above the image's
  abbrev pub IsPast : ℕ → Type 0
  IsPast x = version_in x ≤ image_version frame

  -- FREE TO NEW: the slot has no link, and depth and pattern are in their ranges
  pub record TakesSlot (greatest n x : ℕ) : Type 0 where
    pub slot : n < frame.segments
    pub was : state_at frame n ≡ free
    pub unlinked : frame.link n ≡ no_link
    pub becomes : state_in x ≡ fresh
    pub depth : depth_in x ≤ greatest
    pub pattern : pattern_in x < 2 ^ depth_in x
    pub past : IsPast x

  -- NEW TO FREE
  pub record FreesSlot (n x : ℕ) : Type 0 where
    pub slot : n < frame.segments
    pub was : state_at frame n ≡ fresh
    pub becomes : state_in x ≡ free
    pub past : IsPast x

  -- THE LINK of a segment that is not splitting names a slot, or nothing
  pub record Links (s l : ℕ) : Type 0 where
    pub slot : s < frame.segments
    pub not_splitting : state_at frame s ≢ splitting
    pub in_range : LinksWithin frame.segments l

  -- NORMAL TO SPLITTING: whatever its link names, no live segment lies in its region, so no side is ready
  pub record BeginsSplit (s x : ℕ) : Type 0 where
    pub slot : s < frame.segments
    pub was : state_at frame s ≡ normal
    pub becomes : state_in x ≡ splitting
    pub region : HasRegionOf s x
    pub past : IsPast x

  -- NEW TO NORMAL: slot n is what the splitting segment s has linked, x has the 1-side of s, and the root is as deep
  pub record GoesLive (s n x : ℕ) : Type 0 where
    pub slot : s < frame.segments
    pub splits : state_at frame s ≡ splitting
    pub linked : frame.link s ≡ link_to n
    pub side_slot : n < frame.segments
    pub was : state_at frame n ≡ fresh
    pub becomes : state_in x ≡ normal
    pub depth : depth_in x ≡ side_depth_at frame s
    pub pattern : pattern_in x ≡ side_pattern_at frame s
    pub shallow : depth_at frame s < frame.root
    pub past : IsPast x

  -- AN ENTRY IN A SPLIT: the slot that it is to name claims each hash of the entry
  pub record NamesClaimer (i n : ℕ) : Type 0 where
    pub index : i < entries_of frame.root
    pub claims : (h : ℕ) → h < 2 ^ 64 → index_of frame.root h ≡ i → Claims frame n h

  -- AN ENTRY IN A REPAIR: it is to name the ready side n of s, all its hashes are in the 1-side of s, and it names no
  -- deeper segment than s
  pub record NamesSide (s n i : ℕ) : Type 0 where
    pub slot : s < frame.segments
    pub side : IsReadySide frame s n
    pub index : i < entries_of frame.root
    pub in_side : (h : ℕ) → h < 2 ^ 64 → index_of frame.root h ≡ i → InOneSide frame s h
    pub shallow : depth_at frame (frame.entry i) ≤ depth_at frame s

  -- each entry of the 1-side of s names a deeper segment than s
  abbrev pub EntriesAreDeep : ℕ → Type 0
  EntriesAreDeep s = (h : ℕ) → h < 2 ^ 64 → InOneSide frame s h → depth_at frame s < depth_at frame (named_for frame h)

  -- SPLITTING TO NORMAL, ONE DEEPER: there is a ready side, and the entries are deep; x has the 0-side
  pub record EndsSplit (s x : ℕ) : Type 0 where
    pub slot : s < frame.segments
    pub was : state_at frame s ≡ splitting
    pub ready : HasReadySide frame s
    pub deep : EntriesAreDeep s
    pub becomes : state_in x ≡ normal
    pub depth : depth_in x ≡ side_depth_at frame s
    pub pattern : pattern_in x ≡ pattern_of_zero_side (pattern_at frame s)
    pub past : IsPast x

  -- SPLITTING TO NORMAL, AS DEEP AS BEFORE: there is no ready side
  pub record DropsSplit (s x : ℕ) : Type 0 where
    pub slot : s < frame.segments
    pub was : state_at frame s ≡ splitting
    pub unready : HasReadySide frame s → ⊥
    pub becomes : state_in x ≡ normal
    pub region : HasRegionOf s x
    pub past : IsPast x

  -- THE VERSION BYTE ALONE, of any slot
  pub record Renews (s x : ℕ) : Type 0 where
    pub slot : s < frame.segments
    pub becomes : state_in x ≡ state_at frame s
    pub region : HasRegionOf s x
    pub past : IsPast x

  -- THE STATE WORD of the image: its version is not 0, and no version byte is above it
  pub record Opens (x : ℕ) : Type 0 where
    pub some : first_version ≤ version_in x
    pub past : (s : ℕ) → s < frame.segments → version_in (frame.header s) ≤ version_in x

module _ (shape : Shape) (word : ImageWords) where
  -- THE ROOT, one deeper: there is room, and each entry of the area that is one deeper names what the entry above it names
  pub record Doubles : Type 0 where
    pub room : word root_word < shape.depth
    pub filled : (i : ℕ) → i < entries_of (depth_below (word root_word)) → word (entry_at (depth_below (word root_word)) i) ≡ word (entry_at (word root_word) (entry_above i))

  -- the words that the frame is read from: any other store leaves it as it is, so one to an entry of another area
  abbrev pub IsFrameWord : ℕ → Type 0
  IsFrameWord i =
      (i ≡ root_word) ⊎ (i ≡ state_word) ⊎ ((s : ℕ) × (s < shape.segments) × ((i ≡ header_word shape s) ⊎ (i ≡ link_word shape s)))
      ⊎ ((e : ℕ) × (e < entries_of (word root_word)) × (i ≡ entry_at (word root_word) e))

  -- a store keeps the claims
  abbrev pub StoreKeeps : ℕ → ℕ → Type 0
  StoreKeeps i x = Keeps shape.depth (frame_of shape word) (frame_of shape (with_word word i x))

  -- or hands those of the 1-side of s over to n
  abbrev pub StoreHandsOver : ℕ → ℕ → ℕ → ℕ → Type 0
  StoreHandsOver s n i x = HandsOver shape.depth (frame_of shape word) (frame_of shape (with_word word i x)) s n
