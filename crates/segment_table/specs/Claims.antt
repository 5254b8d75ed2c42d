-- Who claims a hash, and the rules about headers, links and the directory in a form that says so: each hash has one
-- claimer, and its directory entry leads there.
use Rattle.std.specs.Prelude.{◌≡◌, ℕ, ◌+◌, ◌*◌, ◌^◌, ◌<◌, ◌≤◌}
use Rattle.hash_word.specs.Hash.{Covers, index_of}
use Rattle.segment_head.specs.Prefixes.{run_of_sides, one_side_down_to}
use Rattle.sound_image.specs.Places.{Shape}
use Rattle.sound_image.specs.Segments.{ImageWords, Frame, frame_of, depth_at, pattern_at, side_depth_at, side_pattern_at, IsLive, IsLiveFor, InOneSide, IsReadySide, HasReadySide}
use Rattle.sound_image.specs.Directory.{RootInRange, VersionInRange, HeadInRange, LinkInRange, VersionIsPast}
use Rattle.sound_image.specs.Rules.{NumbersFit, HashesAreOwned, EntriesLead, VersionsArePast}

-- a live segment claims the hashes that it covers, but those of its 1-side once it has a ready side for them
pub record Claims (frame : Frame) (s h : ℕ) : Type 0 where
  pub live : IsLiveFor frame h s
  pub kept : HasReadySide frame s → InOneSide frame s h → ⊥

-- from segment s, to its ready side as long as the hash is in the 1-side, to a segment that claims the hash
pub data LeadsToClaimer (frame : Frame) (h : ℕ) : ℕ → Type 0 where
  arrived : {s : ℕ} → Claims frame s h → LeadsToClaimer frame h s
  on : {s n : ℕ} → IsLiveFor frame h s → IsReadySide frame s n → InOneSide frame s h → LeadsToClaimer frame h n → LeadsToClaimer frame h s

-- segment s claims each hash of a region, or none
abbrev pub ClaimsAll : Frame → (s depth pattern : ℕ) → Type 0
ClaimsAll frame s depth pattern = (h : ℕ) → h < 2 ^ 64 → Covers depth pattern h → Claims frame s h

abbrev pub ClaimsNone : Frame → (s depth pattern : ℕ) → Type 0
ClaimsNone frame s depth pattern = (h : ℕ) → h < 2 ^ 64 → Covers depth pattern h → Claims frame s h → ⊥

-- it claims no hash of its 1-side, or each
abbrev pub ClaimsNoOneSide : Frame → ℕ → Type 0
ClaimsNoOneSide frame s = ClaimsNone frame s (side_depth_at frame s) (side_pattern_at frame s)

abbrev pub ClaimsOneSide : Frame → ℕ → Type 0
ClaimsOneSide frame s = ClaimsAll frame s (side_depth_at frame s) (side_pattern_at frame s)

-- the slot that a hash's directory entry names
abbrev pub named_for : Frame → ℕ → ℕ
named_for frame h = frame.entry (index_of frame.root h)

-- entry i is one of the 1-side of a segment that is less deep than the root
pub record IsSideEntry (frame : Frame) (s i : ℕ) : Type 0 where
  pub from : one_side_down_to frame.root (depth_at frame s) (pattern_at frame s) ≤ i
  pub to : i < (side_pattern_at frame s + 1) * run_of_sides frame.root (depth_at frame s)

-- A SOUND FRAME: its numbers are in their ranges, no version byte is above the image's, no live segment is deeper than
-- the root; each hash is claimed by one segment, and its entry leads to it
pub record IsSoundFrame (greatest : ℕ) (frame : Frame) : Type 0 where
  pub root : RootInRange frame greatest
  pub version : VersionInRange frame
  pub head : (s : ℕ) → s < frame.segments → HeadInRange frame greatest s
  pub link : (s : ℕ) → s < frame.segments → LinkInRange frame s
  pub past : (s : ℕ) → s < frame.segments → VersionIsPast frame s
  pub not_deep : (s : ℕ) → s < frame.segments → IsLive frame s → depth_at frame s ≤ frame.root
  pub some : (h : ℕ) → h < 2 ^ 64 → (s : ℕ) × Claims frame s h
  pub one : (h s t : ℕ) → h < 2 ^ 64 → Claims frame s h → Claims frame t h → s ≡ t
  pub leads : (h : ℕ) → h < 2 ^ 64 → LeadsToClaimer frame h (named_for frame h)

module _ (shape : Shape) (word : ImageWords) where
  -- the words say a sound frame
  abbrev pub HasSoundFrame : Type 0
  HasSoundFrame = IsSoundFrame shape.depth (frame_of shape word)

  -- the rules of a sound image that speak of headers, links and the directory: its first three, and that no version
  -- byte is above the image's
  pub record FollowsFrameRules : Type 0 where
    pub numbers : (w : ℕ) → NumbersFit shape word w
    pub owned : (w : ℕ) → HashesAreOwned shape word w
    pub lead : (w : ℕ) → EntriesLead shape word w
    pub past : (w : ℕ) → VersionsArePast shape word w
