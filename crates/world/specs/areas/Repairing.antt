-- What the holder of a stale segment has to know to repair it: to take back a split that had no ready side, to direct the entries of a ready
-- side to it, to clear records and end that split, and to mend what is left and give the segment the image's version.
use Rattle.std.specs.Prelude.{◌≡◌, ◌≢◌, ℕ, suc, ◌+◌, ◌<◌, ◌≤◌, ◌⊎◌, Bool, true, false, [], ◌∷◌}
use Rattle.trace.specs.Events.{Words}
use Rattle.hash_word.specs.Hash.{first_hash_of, Covers, IsUnderPrefix}
use Rattle.bucket_meta.specs.Bucket.{mark_place, fingers_place, rest_place, lock_bit, record_slots, allocated, member}
use Rattle.segment_head.specs.HeadWord.{version_in, state_in, depth_in, pattern_in, free, fresh, normal, splitting, link_to, no_link}
use Rattle.segment_head.specs.Prefixes.{pattern_of_zero_side, pattern_of_one_side}
pub use Rattle.segment_head.specs.SplitHeads.{side_depth_in, side_pattern_in}
use Rattle.image_layout.specs.Places.{block, root_word, entries_of, entry_at, bucket_at, homes, buckets}
use Rattle.sound_image.specs.Records.{key_hash, HasExactNotes}
use Rattle.frame_facts.specs.Buckets.{key_in}
use Rattle.frame_facts.specs.Hits.{Hit}
use Rattle.frame_facts.specs.Core.{core_of}
use Rattle.frame_facts.specs.Facts.{Fact, Owns, Lacks, Deep, Begins}
use Rattle.frame_facts.specs.DeadSlots.{IsInSlot}
use Rattle.world.specs.Ground.{Ground, version_of}
use Rattle.world.specs.Views.{View, Has, IsLoose}
use Rattle.world.specs.Holders.{KnowsWord}
use Rattle.world.specs.areas.Areas.{Segment, Stale, Side, Allocation, Directory, header_word, link_word}
use Rattle.world.specs.areas.Rows.{HasNoSides, finishes, unmarks, frees, renews}
use Rattle.world.specs.areas.Kinds.{sets, moves, settles}
use Rattle.world.specs.areas.Asking.{MayBeNewest, KnowsFree, IsFirmIn, MayAt}
use Rattle.world.specs.areas.Splitting.{IsSettledHolder, KnowsBuckets, IsHeader, ClearsRegion}

-- A STALE SEGMENT OF ONE'S OWN: with its guard, no lock is held and nothing is under way; its header is known and settled, and its version is not the
-- image's
pub record HasStale (site : Ground) (v : View) (s : ℕ) (word : Words) : Type 0 where
  pub holder : IsSettledHolder site.shape v
  pub no_locks : v.held ≡ []
  pub guard : Has (Segment s) v.areas
  pub stale : Has (Stale s) v.areas
  pub slot : s < site.shape.segments
  pub header : KnowsWord v (header_word site.shape s) (word (header_word site.shape s))
  pub old : version_in (word (header_word site.shape s)) ≢ version_of site

module _ (site : Ground) (s : ℕ) (word : Words) where
  -- its header
  abbrev pub head_now : ℕ
  head_now = word (header_word site.shape s)

  -- what is said of its 1-side
  abbrev pub owns_side : Fact
  owns_side = Owns s (side_depth_in head_now) (side_pattern_in head_now)

  abbrev pub lacks_side : Fact
  lacks_side = Lacks s (side_depth_in head_now) (side_pattern_in head_now)

  abbrev pub deep_side : Fact
  deep_side = Deep (depth_in head_now) (side_depth_in head_now) (side_pattern_in head_now)

  -- it is splitting, and is known to have linked this slot
  pub record IsSplittingInto (v : View) (n : ℕ) : Type 0 where
    pub splits : state_in head_now ≡ splitting
    pub linked : KnowsWord v (link_word site.shape s) (link_to n)

-- ---- A SPLIT IS TAKEN BACK
pub record MayTakeBack (site : Ground) (v : View) : Type 0 where
  -- the new side becomes free
  pub frees : (s n x : ℕ) (word : Words) → HasStale site v s word → Has Allocation v.areas → Has (Side n) v.areas → IsSplittingInto site s word v n
      → KnowsWord v (header_word site.shape n) (word (header_word site.shape n)) → state_in (word (header_word site.shape n)) ≡ fresh
      → depth_in (word (header_word site.shape n)) ≡ side_depth_in (head_now site s word) → pattern_in (word (header_word site.shape n)) ≡ side_pattern_in (head_now site s word)
      → IsHeader x free (depth_in (word (header_word site.shape n))) (pattern_in (word (header_word site.shape n))) (version_in (word (header_word site.shape n)))
      → MayAt site (moves (frees s) n x) v
  -- the segment is normal again, as deep as before: it is known to link nothing, or claims its 1-side, so that it has no ready side
  pub unmarks : (s x : ℕ) (word : Words) → HasStale site v s word → HasNoSides v.areas → state_in (head_now site s word) ≡ splitting
      → KnowsWord v (link_word site.shape s) no_link ⊎ Has (owns_side site s word) v.facts
      → IsHeader x normal (depth_in (head_now site s word)) (pattern_in (head_now site s word)) (version_in (head_now site s word))
      → MayAt site (moves unmarks s x) v

-- ---- THE ENTRIES OF A READY SIDE
-- what is known then: the guard of the directory is held and the root is known; the segment has linked a side that begins where its 1-side begins, and claims none of that
pub record HasReadySideOf (site : Ground) (v : View) (s n g : ℕ) (word : Words) : Type 0 where
  pub mine : HasStale site v s word
  pub no_sides : HasNoSides v.areas
  pub into : IsSplittingInto site s word v n
  pub directory : Has Directory v.areas
  pub root : KnowsWord v root_word g
  pub begins : Has (Begins n (first_hash_of (side_depth_in (head_now site s word)) (side_pattern_in (head_now site s word)))) v.facts
  pub lacks : Has (lacks_side site s word) v.facts

-- entry i is one of its 1-side, where the root is g deep
pub record IsEntryOfSide (g depth pattern i : ℕ) : Type 0 where
  pub deep : depth < g
  pub index : i < entries_of g
  pub inside : IsUnderPrefix g (suc depth) (pattern_of_one_side pattern) i

pub record MayRedirect (site : Ground) (v : View) : Type 0 where
  -- the root is deeper than the segment
  pub deeper : (s n g : ℕ) (word : Words) → HasReadySideOf site v s n g word → (words : Words) → MayBeNewest site v words → depth_in (head_now site s word) < g
  -- and its side begins behind its first hash
  pub later : (s n g : ℕ) (word : Words) → HasReadySideOf site v s n g word → (words : Words) → MayBeNewest site v words
      → first_hash_of (depth_in (head_now site s word)) (pattern_in (head_now site s word)) < first_hash_of (side_depth_in (head_now site s word)) (side_pattern_in (head_now site s word))
  -- an entry that names a segment which begins no later than this one is to name the side
  pub enter : (s n g i t begin : ℕ) (word : Words) → HasReadySideOf site v s n g word → g ≤ site.shape.depth → IsEntryOfSide g (depth_in (head_now site s word)) (pattern_in (head_now site s word)) i
      → KnowsWord v (entry_at g i) t → Has (Begins t begin) v.facts → begin ≤ first_hash_of (depth_in (head_now site s word)) (pattern_in (head_now site s word))
      → MayAt site (sets (entry_at g i) n) v
  -- the fence after the last one: each of them is known to name a segment that begins behind this one's first hash
  pub settled : (s n g : ℕ) (word : Words) → HasReadySideOf site v s n g word
      → ((i : ℕ) → IsEntryOfSide g (depth_in (head_now site s word)) (pattern_in (head_now site s word)) i → (t : ℕ) × (begin : ℕ) × Has (entry_at g i, t) v.known
      × ((y : ℕ) → Has (entry_at g i, y) v.dirty → ⊥) × Has (Begins t begin) v.facts × (first_hash_of (depth_in (head_now site s word)) (pattern_in (head_now site s word)) < begin))
      → MayAt site (settles (deep_side site s word ∷ lacks_side site s word ∷ [])) v

-- ---- WHAT IS MENDED
-- These are the records that are to be cleared of a segment, by its slots: each is of another segment, or its key has a record that stays
module _ (site : Ground) (s : ℕ) (word : Words) (spoiled : ℕ → ℕ → Bool) where
  pub record IsMendable : Type 0 where
    pub why : (b r : ℕ) → b < buckets → r < record_slots → spoiled b r ≡ true
        → (Covers (depth_in (head_now site s word)) (pattern_in (head_now site s word)) (key_hash site.shape (key_in word (bucket_at site.shape s b) r)) → ⊥)
        ⊎ ((c : ℕ) × (t : ℕ) × Hit site.shape word s c t (key_in word (bucket_at site.shape s b) r) × (spoiled c t ≡ false))

  -- word x for word 1 of bucket b frees no slots but such, and says of the others what they say
  pub record FreesSpoiled (b x : ℕ) : Type 0 where
    pub slots : (r : ℕ) → r < record_slots
        → ((allocated r x ≡ allocated r (word (bucket_at site.shape s b + mark_place))) × (member r x ≡ member r (word (bucket_at site.shape s b + mark_place))))
        ⊎ ((allocated r x ≡ 0) × (spoiled b r ≡ true))

  -- WHILE THEY ARE CLEARED: all words behind word 1 of each bucket are known and settled, and whatever word 1 is or may be left as frees no others
  pub record IsMending (v : View) : Type 0 where
    pub mine : HasStale site v s word
    pub no_sides : HasNoSides v.areas
    pub behind : (b n : ℕ) → b < buckets → fingers_place ≤ n → n < block → KnowsWord v (bucket_at site.shape s b + n) (word (bucket_at site.shape s b + n))
    pub first : (b : ℕ) → b < buckets → (y : ℕ) × Has (bucket_at site.shape s b + mark_place, y) v.known × FreesSpoiled b y
    pub loose : (b y : ℕ) → b < buckets → IsLoose v (bucket_at site.shape s b + mark_place, y) → FreesSpoiled b y

pub record MayMend (site : Ground) (v : View) : Type 0 where
  -- records are cleared of a region of which the segment has nothing
  pub clear : (s b x d p : ℕ) (word : Words) → HasStale site v s word → HasNoSides v.areas → b < buckets → Has (Lacks s d p) v.facts
      → ((n : ℕ) → mark_place ≤ n → n < block → KnowsWord v (bucket_at site.shape s b + n) (word (bucket_at site.shape s b + n)))
      → ClearsRegion site word (bucket_at site.shape s b) d p (word (bucket_at site.shape s b + mark_place)) x → MayAt site (sets (bucket_at site.shape s b + mark_place) x) v
  -- the split ends: the segment lacks its 1-side, whose entries name deeper ones
  pub end : (s x : ℕ) (word : Words) → HasStale site v s word → HasNoSides v.areas → state_in (head_now site s word) ≡ splitting
      → Has (lacks_side site s word) v.facts → Has (deep_side site s word) v.facts
      → IsHeader x normal (side_depth_in (head_now site s word)) (pattern_of_zero_side (pattern_in (head_now site s word))) (version_in (head_now site s word)) → MayAt site (moves finishes s x) v
  -- a lock that is taken is freed, its version kept
  pub unlock : (s b x w : ℕ) (word : Words) → HasStale site v s word → HasNoSides v.areas → b < buckets → KnowsWord v (bucket_at site.shape s b) w → w ≡ suc x → lock_bit x ≡ 0
      → MayAt site (sets (bucket_at site.shape s b) x) v
  -- spoiled records are cleared of a bucket of which none was cleared yet
  pub mend : (s b x : ℕ) (word : Words) (spoiled : ℕ → ℕ → Bool) → IsMendable site s word spoiled → IsMending site s word spoiled v → b < buckets
      → KnowsWord v (bucket_at site.shape s b + mark_place) (word (bucket_at site.shape s b + mark_place)) → FreesSpoiled site s word spoiled b x
      → MayAt site (sets (bucket_at site.shape s b + mark_place) x) v
  -- a word of metadata is stored that has the core of the word there, which is settled
  pub rebuild : (s b m x w : ℕ) (word : Words) → HasStale site v s word → HasNoSides v.areas → b < buckets → mark_place ≤ m → m ≤ rest_place
      → KnowsWord v (bucket_at site.shape s b + m) w → core_of site.shape (bucket_at site.shape s b + m) x ≡ core_of site.shape (bucket_at site.shape s b + m) w
      → MayAt site (sets (bucket_at site.shape s b + m) x) v
  -- the segment gets the image's version, where it is in order by what is known: its records are its own, each key stands once, notes are exact, and no lock is taken
  pub renews : (s x : ℕ) (word : Words) → HasStale site v s word → state_in (head_now site s word) ≡ normal → KnowsBuckets site.shape v s word → KnowsFree site v s → IsFirmIn v (IsInSlot site.shape s)
      → ((c r k : ℕ) → Hit site.shape word s c r k → Covers (depth_in (head_now site s word)) (pattern_in (head_now site s word)) (key_hash site.shape k))
      → ((c r e t k : ℕ) → Hit site.shape word s c r k → Hit site.shape word s e t k → (c ≡ e) × (r ≡ t))
      → ((c : ℕ) → c < homes → HasExactNotes site.shape word s c)
      → IsHeader x normal (depth_in (head_now site s word)) (pattern_in (head_now site s word)) (version_of site) → MayAt site (moves renews s x) v
