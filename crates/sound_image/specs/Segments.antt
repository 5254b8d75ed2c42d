-- Live segments, owners and ready sides, read from the headers and the directory of an image.
use Rattle.std.specs.Prelude.{◌≡◌, ℕ, ◌<◌, ◌≤◌}
use Rattle.hash_word.specs.Hash.{Covers}
use Rattle.image_layout.specs.Places.{Shape, root_word, state_word, entry_at, header_word, link_word}
use Rattle.image_layout.specs.StateWord.{version_in, IsMarked}
use Rattle.segment_head.specs.HeadWord.{state_in, depth_in, pattern_in, splitting, HasLiveState, link_to}
use Rattle.segment_head.specs.Prefixes.{depth_of_sides, pattern_of_one_side, IsOfOneSide, one_side_down_to}

-- the words of an image, by their numbers
abbrev pub ImageWords : Type 0
ImageWords = ℕ → ℕ

-- what an image says beside its records: the root depth g, the state word, the two header words of each
-- segment, and the entries of the directory at g
pub record Frame : Type 0 where
  pub segments : ℕ
  pub root : ℕ
  pub status : ℕ
  pub header : ℕ → ℕ
  pub link : ℕ → ℕ
  pub entry : ℕ → ℕ

abbrev pub frame_of : Shape → ImageWords → Frame
frame_of shape word =
    record {
      segments = shape.segments;
      root = word root_word;
      status = word state_word;
      header = λ s. word (header_word shape s);
      link = λ s. word (link_word shape s);
      entry = λ i. word (entry_at (word root_word) i);
    }

module _ (frame : Frame) where
  -- V, the version of the image
  abbrev pub image_version : ℕ
  image_version = version_in frame.status

  -- the clean marker is set
  abbrev pub IsClean : Type 0
  IsClean = IsMarked frame.status

  abbrev pub state_at : ℕ → ℕ
  state_at s = state_in (frame.header s)

  abbrev pub depth_at : ℕ → ℕ
  depth_at s = depth_in (frame.header s)

  abbrev pub pattern_at : ℕ → ℕ
  pattern_at s = pattern_in (frame.header s)

  -- a live segment is normal or splitting
  abbrev pub IsLive : ℕ → Type 0
  IsLive s = HasLiveState (frame.header s)

  abbrev pub CoversHash : ℕ → ℕ → Type 0
  CoversHash s h = Covers (depth_at s) (pattern_at s) h

  -- slot s holds a live segment that covers the hash
  pub record IsLiveFor (h s : ℕ) : Type 0 where
    pub slot : s < frame.segments
    pub live : IsLive s
    pub covers : CoversHash s h

  -- the owner of a hash is the deepest live segment that covers it
  pub record Owns (s h : ℕ) : Type 0 where
    pub own : IsLiveFor h s
    pub deepest : (t : ℕ) → IsLiveFor h t → depth_at t ≤ depth_at s

  -- the 1-side of a segment is one deeper and has a 1 behind its pattern
  abbrev pub side_depth_at : ℕ → ℕ
  side_depth_at s = depth_of_sides (depth_at s)

  abbrev pub side_pattern_at : ℕ → ℕ
  side_pattern_at s = pattern_of_one_side (pattern_at s)

  abbrev pub InOneSide : ℕ → ℕ → Type 0
  InOneSide s h = IsOfOneSide (depth_at s) (pattern_at s) h

  -- n is the ready side of s: s is splitting and its link names n; n is live and deeper than s, and its pattern
  -- is that of the 1-side of s, followed by zeros alone
  pub record IsReadySide (s n : ℕ) : Type 0 where
    pub splits : state_at s ≡ splitting
    pub named : frame.link s ≡ link_to n
    pub slot : n < frame.segments
    pub live : IsLive n
    pub deeper : depth_at s < depth_at n
    pub zeros : pattern_at n ≡ one_side_down_to (depth_at n) (depth_at s) (pattern_at s)

  abbrev pub HasReadySide : ℕ → Type 0
  HasReadySide s = (n : ℕ) × IsReadySide s n

-- from segment s, to its ready side as long as the hash is in the 1-side, to the owner of the hash
pub data LeadsToOwner (frame : Frame) (h : ℕ) : ℕ → Type 0 where
  arrived : {s : ℕ} → Owns frame s h → LeadsToOwner frame h s
  on : {s n : ℕ} → IsLiveFor frame h s → IsReadySide frame s n → InOneSide frame s h → LeadsToOwner frame h n → LeadsToOwner frame h s
