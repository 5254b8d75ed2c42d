-- What the holder of a guarded segment has to know to split it: to empty a slot, to link it, to begin the split, to copy records, to make
-- the side live, to double the directory and to store entries, to clear what moved, to end the split and to open the segment again.
use Rattle.std.specs.Prelude.{◌≡◌, ◌≢◌, ℕ, suc, ◌+◌, ◌<◌, ◌≤◌, ◌⊎◌, [], ◌∷◌}
use Rattle.trace.specs.Events.{Words}
use Rattle.hash_word.specs.Hash.{Covers, IsUnderPrefix}
use Rattle.bucket_meta.specs.Bucket.{mark_place, rest_place, lock_bit, record_slots, allocated, member}
use Rattle.segment_head.specs.HeadWord.{version_in, state_in, depth_in, pattern_in, free, fresh, normal, splitting, HasLiveState, link_to, no_link, LinksWithin}
use Rattle.image_layout.specs.Places.{Shape, block, root_word, entries_of, entry_above, entry_at, bucket_at, key_at, value_at, homes, buckets}
use Rattle.segment_head.specs.Prefixes.{pattern_of_zero_side}
use Rattle.segment_head.specs.SplitHeads.{side_depth_in, side_pattern_in}
use Rattle.sound_image.specs.Records.{key_hash, HasExactNotes}
use Rattle.frame_facts.specs.Buckets.{IsTaken, key_in}
use Rattle.frame_facts.specs.Hits.{Hit}
use Rattle.frame_facts.specs.Core.{core_of}
use Rattle.frame_facts.specs.Facts.{Owns, Lacks, Deep}
use Rattle.frame_facts.specs.DeadSlots.{IsInSlot, IsPlainInSlot}
use Rattle.frame_facts.specs.Copies.{IsSlotCopy}
use Rattle.frame_facts.specs.Standing.{KeysStandOnce, NotesAreExact}
use Rattle.world.specs.Ground.{Ground, IsLockWord, version_of}
use Rattle.world.specs.Views.{View, Has, HasLock}
use Rattle.world.specs.Conditions.{IsNewest}
use Rattle.world.specs.Holders.{KnowsWord}
use Rattle.world.specs.areas.Areas.{Segment, Side, Free, Whole, Directory, header_word}
pub use Rattle.world.specs.areas.Areas.{link_word}
use Rattle.world.specs.areas.Rows.{HasNoSides, marks, news, goes_live, finishes}
use Rattle.world.specs.areas.Kinds.{sets, moves, settles, opens}
use Rattle.world.specs.areas.Asking.{KnowsFree, IsFirmIn, MayAt}

module _ (shape : Shape) (v : View) where
  -- the view plans, moves and owes nothing, and the locks that it holds are those of segments that it has whole
  pub record IsSettledHolder : Type 0 where
    pub planned : v.planned ≡ []
    pub moving : v.moving ≡ []
    pub owed : v.owed ≡ []
    pub locks : (lock : ℕ) → HasLock v.held lock → (s : ℕ) × (b : ℕ) × (s < shape.segments) × (b < buckets) × (lock ≡ bucket_at shape s b) × Has (Whole s) v.areas

  -- header and link of a slot are known and settled: they are those of `word`
  pub record KnowsHead (s : ℕ) (word : Words) : Type 0 where
    pub slot : s < shape.segments
    pub header : KnowsWord v (header_word shape s) (word (header_word shape s))
    pub link : KnowsWord v (link_word shape s) (word (link_word shape s))

  -- and so are the 31 words behind the lock word of each of its buckets
  abbrev pub KnowsBuckets : ℕ → Words → Type 0
  KnowsBuckets s word = (b n : ℕ) → b < buckets → mark_place ≤ n → n < block → KnowsWord v (bucket_at shape s b + n) (word (bucket_at shape s b + n))

  -- of the buckets of a slot the metadata is known, and of each record slot that is taken the key and the value
  pub record KnowsRecords (s : ℕ) (word : Words) : Type 0 where
    pub meta : (b m : ℕ) → b < buckets → mark_place ≤ m → m ≤ rest_place → KnowsWord v (bucket_at shape s b + m) (word (bucket_at shape s b + m))
    pub key : (b r : ℕ) → b < buckets → r < record_slots → IsTaken word (bucket_at shape s b) r → KnowsWord v (key_at shape s b r) (word (key_at shape s b r))
    pub value : (b r : ℕ) → b < buckets → r < record_slots → IsTaken word (bucket_at shape s b) r → KnowsWord v (value_at shape s b r) (word (value_at shape s b r))

  -- A SLOT OF ONE'S OWN, in which no segment lives: it was found free, or is a side that is not live yet
  pub record HasOwnSlot (n head : ℕ) : Type 0 where
    pub slot : n < shape.segments
    pub own : Has (Free n) v.areas ⊎ Has (Side n) v.areas
    pub header : KnowsWord v (header_word shape n) head
    pub dead : HasLiveState head → ⊥

-- ---- words of slots
-- the stores to a slot of one's own, to any word but the header; and of a link, where the segment is not splitting
pub record MayFill (site : Ground) (v : View) : Type 0 where
  pub word : (n i x head : ℕ) → IsSettledHolder site.shape v → HasOwnSlot site.shape v n head → IsPlainInSlot site.shape n i → (IsLockWord site.shape i → lock_bit x ≡ 0)
      → MayAt site (sets i x) v
  pub side_link : (n l head : ℕ) → IsSettledHolder site.shape v → HasOwnSlot site.shape v n head → LinksWithin site.shape.segments l → MayAt site (sets (link_word site.shape n) l) v
  pub link : (s l head : ℕ) → IsSettledHolder site.shape v → s < site.shape.segments → Has (Segment s) v.areas → (Has (Side s) v.areas → ⊥) → KnowsWord v (header_word site.shape s) head → state_in head ≢ splitting
      → LinksWithin site.shape.segments l → MayAt site (sets (link_word site.shape s) l) v

-- ---- headers
-- a header of a state, with depth, pattern and version as given
pub record IsHeader (x state depth pattern version : ℕ) : Type 0 where
  pub state_is : state_in x ≡ state
  pub depth_is : depth_in x ≡ depth
  pub pattern_is : pattern_in x ≡ pattern
  pub version_is : version_in x ≡ version

-- A SPLIT BEGINS: the segment is marked, with the slot that it has linked, and that slot becomes its new side
pub record MayBegin (site : Ground) (v : View) : Type 0 where
  pub marks : (s n x : ℕ) (word : Words) → IsSettledHolder site.shape v → Has (Whole s) v.areas → Has (Free n) v.areas → KnowsHead site.shape v s word
      → state_in (word (header_word site.shape s)) ≡ normal → word (link_word site.shape s) ≡ link_to n
      → IsHeader x splitting (depth_in (word (header_word site.shape s))) (pattern_in (word (header_word site.shape s))) (version_in (word (header_word site.shape s)))
      → MayAt site (moves (marks n) s x) v
  pub news : (s n x : ℕ) (word : Words) → IsSettledHolder site.shape v → Has (Whole s) v.areas → Has (Free n) v.areas → KnowsHead site.shape v s word → KnowsHead site.shape v n word
      → state_in (word (header_word site.shape s)) ≡ splitting → word (link_word site.shape s) ≡ link_to n
      → state_in (word (header_word site.shape n)) ≡ free → word (link_word site.shape n) ≡ no_link → depth_in (word (header_word site.shape s)) < site.shape.depth
      → IsHeader x fresh (side_depth_in (word (header_word site.shape s))) (side_pattern_in (word (header_word site.shape s))) (version_of site)
      → MayAt site (moves (news s) n x) v

-- ---- THE SIDE GOES LIVE
-- what is known then: both heads, all buckets of the segment, the metadata and the records of the side, and the root; the side has the records of the 1-side of its segment, slot by
-- slot, with each key once and exact notes; its locks are free
pub record IsReadyToLive (site : Ground) (v : View) (s n : ℕ) (word : Words) : Type 0 where
  pub holder : IsSettledHolder site.shape v
  pub whole : Has (Whole s) v.areas
  pub side : Has (Side n) v.areas
  pub directory : Has Directory v.areas
  pub head : KnowsHead site.shape v s word
  pub splits : state_in (word (header_word site.shape s)) ≡ splitting
  pub linked : word (link_word site.shape s) ≡ link_to n
  pub side_slot : n < site.shape.segments
  pub side_head : KnowsWord v (header_word site.shape n) (word (header_word site.shape n))
  pub new : IsHeader (word (header_word site.shape n)) fresh (side_depth_in (word (header_word site.shape s))) (side_pattern_in (word (header_word site.shape s))) (version_of site)
  pub root_depth : ℕ
  pub root : KnowsWord v root_word root_depth
  pub shallow : depth_in (word (header_word site.shape s)) < root_depth
  pub buckets_are : KnowsBuckets site.shape v s word
  pub side_buckets : KnowsRecords site.shape v n word
  pub copied : IsSlotCopy site.shape word s n
  pub once : KeysStandOnce site.shape word s
  pub exact : NotesAreExact site.shape word n
  pub free : KnowsFree site v n
  pub firm : IsFirmIn v (IsInSlot site.shape n)

pub record MayPublish (site : Ground) (v : View) : Type 0 where
  pub live : (s n x : ℕ) (word : Words) → IsReadyToLive site v s n word
      → IsHeader x normal (depth_in (word (header_word site.shape n))) (pattern_in (word (header_word site.shape n))) (version_in (word (header_word site.shape n)))
      → MayAt site (moves (goes_live s) n x) v

-- ---- THE DIRECTORY
pub record MayDirect (site : Ground) (v : View) : Type 0 where
  -- an entry of an area that is deeper than the root
  pub fill : (g e i x : ℕ) → IsSettledHolder site.shape v → Has Directory v.areas → KnowsWord v root_word g → g < e → e ≤ site.shape.depth → i < entries_of e → MayAt site (sets (entry_at e i) x) v
  -- the root, one deeper, where all entries of both areas are known and settled, and the deeper one is filled
  pub root : (g : ℕ) (word : Words) → IsSettledHolder site.shape v → Has Directory v.areas → KnowsWord v root_word g → g < site.shape.depth
      → ((i : ℕ) → i < entries_of g → KnowsWord v (entry_at g i) (word (entry_at g i))) → ((i : ℕ) → i < entries_of (suc g) → KnowsWord v (entry_at (suc g) i) (word (entry_at (suc g) i)))
      → ((i : ℕ) → i < entries_of (suc g) → word (entry_at (suc g) i) ≡ word (entry_at g (entry_above i))) → MayAt site (sets root_word (suc g)) v
  -- an entry that is to name a segment which owns the region, of this depth and pattern, in which all hashes of the entry lie
  pub enter : (g i n d p : ℕ) → IsSettledHolder site.shape v → Has Directory v.areas → KnowsWord v root_word g → g ≤ site.shape.depth → d ≤ g → i < entries_of g → IsUnderPrefix g d p i → Has (Owns n d p) v.facts
      → MayAt site (sets (entry_at g i) n) v
  -- the fence after the last one: of the 1-side of the segment that was split all entries are known to name its side, another slot, which owns that; so they
  -- name a deeper segment than it is, and it claims none of it
  pub settled : (s n g : ℕ) (word : Words) → HasNoSides v.areas → s ≢ n → KnowsHead site.shape v s word
      → state_in (word (header_word site.shape s)) ≡ splitting → word (link_word site.shape s) ≡ link_to n
      → KnowsWord v root_word g → depth_in (word (header_word site.shape s)) < g
      → Has (Owns n (side_depth_in (word (header_word site.shape s))) (side_pattern_in (word (header_word site.shape s)))) v.facts
      → ((i : ℕ) → i < entries_of g → IsUnderPrefix g (side_depth_in (word (header_word site.shape s))) (side_pattern_in (word (header_word site.shape s))) i → Has (entry_at g i, n) v.known × ((y : ℕ) → Has (entry_at g i, y) v.dirty → ⊥))
      → MayAt site (settles (Deep (depth_in (word (header_word site.shape s))) (side_depth_in (word (header_word site.shape s))) (side_pattern_in (word (header_word site.shape s)))
      ∷ Lacks s (side_depth_in (word (header_word site.shape s))) (side_pattern_in (word (header_word site.shape s))) ∷ [])) v

-- ---- THE REST OF THE SPLIT
-- the view has a segment whole that is no side of its own, and with it the lock of a bucket
pub record HoldsBucketOf (shape : Shape) (v : View) (s b : ℕ) : Type 0 where
  pub slot : s < shape.segments
  pub bucket : b < buckets
  pub whole : Has (Whole s) v.areas
  pub lock : HasLock v.held (bucket_at shape s b)
  pub no_side : Has (Side s) v.areas → ⊥

-- metadata word x frees no record slots but such whose records lie in a region, and says of the others what w says
pub record ClearsRegion (site : Ground) (word : Words) (at depth pattern w x : ℕ) : Type 0 where
  pub slots : (r : ℕ) → r < record_slots → ((allocated r x ≡ allocated r w) × (member r x ≡ member r w))
      ⊎ ((allocated r x ≡ 0) × (IsTaken word at r → Covers depth pattern (key_hash site.shape (key_in word at r))))

pub record MayFinish (site : Ground) (v : View) : Type 0 where
  -- records are cleared of a region of which the segment has nothing
  pub clear : (s b x d p : ℕ) (word : Words) → IsSettledHolder site.shape v → HoldsBucketOf site.shape v s b → Has (Lacks s d p) v.facts
      → ((n : ℕ) → mark_place ≤ n → n < block → KnowsWord v (bucket_at site.shape s b + n) (word (bucket_at site.shape s b + n)))
      → ClearsRegion site word (bucket_at site.shape s b) d p (word (bucket_at site.shape s b + mark_place)) x → MayAt site (sets (bucket_at site.shape s b + mark_place) x) v
  -- the split ends: the segment lacks its 1-side, whose entries name deeper ones, and no side is held
  pub end : (s x : ℕ) (word : Words) → IsSettledHolder site.shape v → Has (Whole s) v.areas → Has (Segment s) v.areas → HasNoSides v.areas → KnowsHead site.shape v s word
      → state_in (word (header_word site.shape s)) ≡ splitting
      → Has (Lacks s (side_depth_in (word (header_word site.shape s))) (side_pattern_in (word (header_word site.shape s)))) v.facts
      → Has (Deep (depth_in (word (header_word site.shape s))) (side_depth_in (word (header_word site.shape s))) (side_pattern_in (word (header_word site.shape s)))) v.facts
      → IsHeader x normal (side_depth_in (word (header_word site.shape s))) (pattern_of_zero_side (pattern_in (word (header_word site.shape s)))) (version_in (word (header_word site.shape s)))
      → MayAt site (moves finishes s x) v
  -- a word of metadata is stored that has the core of the word there, which is settled: what may be left has that core too
  pub rebuild : (s b m x w : ℕ) → IsSettledHolder site.shape v → HoldsBucketOf site.shape v s b → mark_place ≤ m → m ≤ rest_place
      → KnowsWord v (bucket_at site.shape s b + m) w → core_of site.shape (bucket_at site.shape s b + m) x ≡ core_of site.shape (bucket_at site.shape s b + m) w
      → MayAt site (sets (bucket_at site.shape s b + m) x) v
  -- the first lock is freed of a normal segment that is in order by what is known: its records are its own, each key stands once, notes are exact
  pub reopens : (s b x : ℕ) (word : Words) → IsSettledHolder site.shape v → Has (Whole s) v.areas → b < buckets → Has (bucket_at site.shape s b, x) v.held
      → KnowsHead site.shape v s word → state_in (word (header_word site.shape s)) ≡ normal → KnowsBuckets site.shape v s word → IsFirmIn v (IsInSlot site.shape s)
      → ((c r k : ℕ) → Hit site.shape word s c r k → Covers (depth_in (word (header_word site.shape s))) (pattern_in (word (header_word site.shape s))) (key_hash site.shape k))
      → ((c r e t k : ℕ) → Hit site.shape word s c r k → Hit site.shape word s e t k → (c ≡ e) × (r ≡ t))
      → ((c : ℕ) → c < homes → HasExactNotes site.shape word s c) → MayAt site (opens s (bucket_at site.shape s b) (suc x)) v

-- WHAT A VIEW LEARNS of the records when it has all locks of a segment: by the newest words, as far as it can know them before the
-- segment is whole
pub record IsInOrderByLocks (site : Ground) (v : View) : Type 0 where
  pub once : (words word : Words) (s : ℕ) → IsNewest site v words → v.moving ≡ [] → s < site.shape.segments → ((b : ℕ) → b < buckets → HasLock v.held (bucket_at site.shape s b))
      → KnowsBuckets site.shape v s word → (b r c t k : ℕ) → Hit site.shape word s b r k → Hit site.shape word s c t k → (b ≡ c) × (r ≡ t)
  pub own : (words word : Words) (s : ℕ) → IsNewest site v words → s < site.shape.segments → ((b : ℕ) → b < buckets → HasLock v.held (bucket_at site.shape s b))
      → Has (header_word site.shape s, word (header_word site.shape s)) v.known → KnowsBuckets site.shape v s word
      → (b r k : ℕ) → Hit site.shape word s b r k → Covers (depth_in (word (header_word site.shape s))) (pattern_in (word (header_word site.shape s))) (key_hash site.shape k)
