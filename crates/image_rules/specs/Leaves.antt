-- The hashes of an image by leaves: the leaves are the places of a directory of the greatest depth, and segments cover
-- whole leaves, since none is deeper.
use Rattle.std.specs.Prelude.{◌≡◌, ℕ, ◌+◌, ◌^◌, ◌<◌, ◌≤◌, List, slice_index}
use Rattle.hash_word.specs.Hash.{index_of, first_under}
use Rattle.sound_image.specs.Segments.{Frame, depth_at, pattern_at, IsLive, IsLiveFor}
use Rattle.sound_image.specs.Directory.{SharesWell}
use Rattle.segment_head.specs.declared.prefix.Prefix.{Prefix}

-- the leaf is under a prefix: its hashes begin with it
pub record IsLeafUnder (greatest : ℕ) (prefix : Prefix) (leaf : ℕ) : Type 0 where
  pub from : first_under greatest prefix.depth prefix.pattern ≤ leaf
  pub to : leaf < first_under greatest prefix.depth (prefix.pattern + 1)

-- the leaves under a prefix are raised to a number at least, and the others are as before
pub record AreRaised (greatest : ℕ) (prefix : Prefix) (n : ℕ) (old new : List ℕ) : Type 0 where
  pub under : (l : ℕ) → IsLeafUnder greatest prefix l → slice_index old l ≤ n → slice_index new l ≡ n
  pub higher : (l : ℕ) → n < slice_index old l → slice_index new l ≡ slice_index old l
  pub others : (l : ℕ) → (IsLeafUnder greatest prefix l → ⊥) → slice_index new l ≡ slice_index old l

module _ (frame : Frame) where
  -- n is one more than the depth of the deepest live segment that covers the hash, of those in slots below a limit, and
  -- 0 where none does
  pub record IsDeepest (limit h n : ℕ) : Type 0 where
    pub each : (t : ℕ) → t < limit → IsLiveFor frame h t → depth_at frame t < n
    pub some : 0 < n → (t : ℕ) × IsLiveFor frame h t × (depth_at frame t + 1 ≡ n)

  -- the leaves have this number of each hash
  abbrev pub AreDeepest : ℕ → ℕ → List ℕ → Type 0
  AreDeepest greatest limit leaves = (h : ℕ) → h < 2 ^ 64 → IsDeepest limit h (slice_index leaves (index_of greatest h))

  -- a live segment of this depth and pattern, in a slot below a limit
  pub record HasPrefix (limit d p : ℕ) : Type 0 where
    pub t : ℕ
    pub below : t < limit
    pub live : IsLive frame t
    pub same_depth : depth_at frame t ≡ d
    pub same_pattern : pattern_at frame t ≡ p

  -- a live segment before this one has its depth and its pattern
  abbrev pub HasTwin : ℕ → Type 0
  HasTwin s = HasPrefix s (depth_at frame s) (pattern_at frame s)

  -- 1 at node 2^d + p says that a live segment in a slot below a limit has depth d and pattern p
  pub record AreSeen (greatest limit : ℕ) (nodes : List ℕ) : Type 0 where
    pub each : (t : ℕ) → t < limit → IsLive frame t → slice_index nodes (2 ^ depth_at frame t + pattern_at frame t) ≡ 1
    pub alone : (d p : ℕ) → d ≤ greatest → p < 2 ^ d → slice_index nodes (2 ^ d + p) ≡ 1 → HasPrefix limit d p

  -- live segments in slots below a limit are among the others as rule 2 wants them
  abbrev pub ShareWellBelow : ℕ → Type 0
  ShareWellBelow limit = (t : ℕ) → t < limit → IsLive frame t → SharesWell frame t

  -- and this is the first live one that is not
  pub record IsFirstAtFault (s : ℕ) : Type 0 where
    pub slot : s < frame.segments
    pub live : IsLive frame s
    pub broken : SharesWell frame s → ⊥
    pub before : ShareWellBelow s
