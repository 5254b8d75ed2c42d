-- What a sound image says of its numbers, its segments and its directory, place by place.
use Rattle.std.specs.Prelude.{◌≡◌, ◌≢◌, ℕ, ◌^◌, ◌<◌, ◌≤◌, ◌⊎◌}
use Rattle.hash_word.specs.Hash.{index_of, first_hash_of}
use Rattle.image_layout.specs.StateWord.{first_version}
use Rattle.segment_head.specs.HeadWord.{version_in, free, last_state, LinksWithin}
use Rattle.sound_image.specs.Segments.{Frame, image_version, state_at, depth_at, pattern_at, IsLive, CoversHash, IsLiveFor, Owns, InOneSide, HasReadySide, LeadsToOwner}

module _ (frame : Frame) where
  -- NUMBERS IN THEIR RANGES, with the greatest depth that the image allows
  abbrev pub RootInRange : ℕ → Type 0
  RootInRange greatest = frame.root ≤ greatest

  -- V is in 1..255
  abbrev pub VersionInRange : Type 0
  VersionInRange = first_version ≤ image_version frame

  -- the state is one of the four, and a segment that is not free has a depth and a pattern that fit
  pub record HeadInRange (greatest s : ℕ) : Type 0 where
    pub known : state_at frame s ≤ last_state
    pub depth_fits : state_at frame s ≢ free → depth_at frame s ≤ greatest
    pub pattern_fits : state_at frame s ≢ free → pattern_at frame s < 2 ^ depth_at frame s

  -- the side link of a segment that is not free names a slot, or nothing
  abbrev pub LinkInRange : ℕ → Type 0
  LinkInRange s = state_at frame s ≢ free → LinksWithin frame.segments (frame.link s)

  -- ONE OWNER FOR EACH HASH, beside segments that are splitting it off
  -- each hash at place i of the directory has an owner: some live segment covers it
  abbrev pub HasOwners : ℕ → Type 0
  HasOwners i = (h : ℕ) → h < 2 ^ 64 → index_of frame.root h ≡ i → (s : ℕ) × IsLiveFor frame h s

  -- a segment owns what it covers, but for its 1-side where that has a ready side
  pub record OwnsItsPart (s : ℕ) : Type 0 where
    pub owns_or_splits_off : (h : ℕ) → h < 2 ^ 64 → CoversHash frame s h → Owns frame s h ⊎ (HasReadySide frame s × InOneSide frame s h)
    pub gave_away : HasReadySide frame s → (h : ℕ) → h < 2 ^ 64 → InOneSide frame s h → Owns frame s h → ⊥

  -- what a live segment must be among the others; of two of equal depth and pattern the higher slot is at fault
  pub record SharesWell (s : ℕ) : Type 0 where
    pub not_deep : depth_at frame s ≤ frame.root
    pub alone : (t : ℕ) → t < s → IsLive frame t → depth_at frame t ≡ depth_at frame s → pattern_at frame t ≢ pattern_at frame s
    pub part : OwnsItsPart s

  -- A DIRECTORY ENTRY LEADS to the owner of its hashes
  abbrev pub EntryLeads : ℕ → Type 0
  EntryLeads i = LeadsToOwner frame (first_hash_of frame.root i) (frame.entry i)

  -- NO VERSION BYTE IS ABOVE V
  abbrev pub VersionIsPast : ℕ → Type 0
  VersionIsPast s = version_in (frame.header s) ≤ image_version frame
