-- WHAT IS ENCLOSED: a segment whose guard and locks are all held and whose words are all known, as one machine of a split hands it on to the
-- next.
use Rattle.std.specs.Prelude.{◌≡◌, ℕ, ◌+◌, ◌^◌, ◌<◌, ◌≤◌, ◌==◌, ◌⊎◌, true, [], ◌∷◌, length, slice_index, if◌then◌else◌}
use Rattle.trace.specs.Events.{Words}
use Rattle.bucket_meta.specs.Bucket.{mark_place, locked}
use Rattle.hash_word.specs.Hash.{Covers, home_of}
use Rattle.segment_head.specs.HeadWord.{version_in, depth_in, pattern_in}
use Rattle.segment_head.specs.SplitHeads.{capped_side_depth, side_depth_in, side_pattern_in, one_pattern_field}
use Rattle.image_layout.specs.Places.{bucket_at, buckets, block, words_of_buckets}
use Rattle.image_layout.specs.Volatile.{segment_guard}
use Rattle.sound_image.specs.Records.{key_hash}
use Rattle.way.specs.Ways.{head_word, number_of_word, is_leading}
use Rattle.whole_segment.specs.Words.{word_of_bucket}
use Rattle.whole_segment.specs.Records.{covered_set, first_of, third_of, key_of}
use Rattle.whole_segment.specs.Room.{has_no_room}
use Rattle.bucket_words.specs.Hits.{Hit}
use Rattle.bucket_words.specs.Standing.{KeysStandOnce}
use Rattle.world.specs.DeadSlots.{IsInSlot}
use Rattle.map_model.specs.declared.call.Call.{Call}
use Rattle.map_model.specs.Changes.{call_of}
use Rattle.map_model.specs.Legal.{IsInsert}
use Rattle.world.specs.declared.site.Site.{Site}
use Rattle.world.specs.Ground.{Ground, version_of}
use Rattle.world.specs.Views.{View, Has}
use Rattle.world.specs.Holders.{KnowsWord}
use Rattle.world.specs.areas.Areas.{Segment, header_word}
use Rattle.world.specs.areas.Splitting.{KnowsBuckets}
use Rattle.part.specs.Doings.{Doings}
use Rattle.phase.specs.Taking.{MayBeTaken}
use Rattle.phase.specs.Stands.{IsThere}
use Rattle.phase.specs.Giving.{IsLocated, IsQuiet}
use Rattle.enclose_op.specs.declared.enclosed.Enclosed.{Enclosed}

-- ---- its words
-- word n of bucket b, as it is kept
abbrev pub kept_word : Enclosed → ℕ → ℕ → ℕ
kept_word e b n = word_of_bucket e.buckets b n

-- THE WORDS THAT ARE KEPT, as one function of all words: the header, and the words of the buckets
abbrev pub kept_words : Enclosed → Words
kept_words e i = if i == head_word e.site.geometry e.segment then e.head else slice_index e.buckets (number_of_word e.site.geometry e.segment i)

-- word 1 of each bucket, word 3, and the key in each record slot
abbrev pub kept_first : Enclosed → ℕ → ℕ
kept_first e = first_of e.buckets

abbrev pub kept_third : Enclosed → ℕ → ℕ
kept_third e = third_of e.buckets

abbrev pub kept_key : Enclosed → ℕ → ℕ → ℕ
kept_key e = key_of e.buckets

-- ---- the records that go to its side where it is split
-- the depth and the pattern of the side: one deeper, with a 1 behind the pattern of the segment
abbrev pub side_depth : Enclosed → ℕ
side_depth e = side_depth_in e.head

abbrev pub side_pattern : Enclosed → ℕ
side_pattern e = side_pattern_in e.head

-- the slots of bucket b with records that the side covers, as a set; whatever the header is, the depth is at most 64, and the pattern has 32 bits
abbrev pub side_slots : Enclosed → ℕ → ℕ
side_slots e b = covered_set (kept_first e) (kept_key e) (key_hash e.site.geometry) (capped_side_depth e.head) (one_pattern_field e.head) b

-- ---- what is so of what is kept, whatever the view
-- it runs here, in a call that inserts, as a caller that has a number, in an image of this version; and what is kept are words
pub record IsOf (site : Ground) (here : Site) (call : Call) (e : Enclosed) : Type 0 where
  pub at : e.site ≡ here
  pub same : call_of e.change ≡ call
  pub insert : IsInsert (call_of e.change)
  pub located : IsLocated site e.site e.segment
  pub hashed : e.hash ≡ key_hash site.shape e.change.key
  pub fits : e.hash < 2 ^ 64
  pub version : e.site.version ≡ version_of site
  pub numbered : 0 < e.site.caller
  pub caller : e.site.caller < 2 ^ 64
  pub each_lock : length e.locks ≡ buckets
  pub each_word : length e.buckets ≡ words_of_buckets

-- ITS HEADER is one of this version, normal, and leads to the hash
pub record HasHead (site : Ground) (e : Enclosed) : Type 0 where
  pub head_fits : e.head < 2 ^ 64
  pub current : version_in e.head ≡ version_of site
  pub leads : is_leading e.head e.hash ≡ true

-- ALL IS KEPT, of a segment that is to be split: it is less deep than the image allows and has no room, each key stands once in it, and it
-- covers each of its records
pub record IsWhole (site : Ground) (e : Enclosed) : Type 0 where
  pub head : HasHead site e
  pub small : (i : ℕ) → slice_index e.buckets i < 2 ^ 64
  pub shallow : depth_in e.head < site.shape.depth
  pub no_room : has_no_room (kept_first e) (home_of e.hash) ≡ true
  pub once : KeysStandOnce site.shape (kept_words e) e.segment
  pub own : (b r k : ℕ) → Hit site.shape (kept_words e) e.segment b r k → Covers (depth_in e.head) (pattern_in e.head) (key_hash site.shape k)

-- ---- what a view holds of it
-- THE LOCKS OF THESE BUCKETS are held, from one number to before another, and no others; each may be given back with its next version
pub record HoldsBetween (site : Ground) (e : Enclosed) (from to : ℕ) (v : View) : Type 0 where
  pub has : (b : ℕ) → from ≤ b → b < to → Has (bucket_at site.shape e.segment b, locked (slice_index e.locks b)) v.held
  pub only : (p : ℕ × ℕ) → Has p v.held → (b : ℕ) × (from ≤ b) × (b < to) × (p ≡ (bucket_at site.shape e.segment b, locked (slice_index e.locks b)))
  pub free : (b : ℕ) → from ≤ b → b < to → MayBeTaken (slice_index e.locks b)

-- all of them
abbrev pub HoldsLocks : Ground → Enclosed → View → Type 0
HoldsLocks site e v = HoldsBetween site e 0 buckets v

-- words of its slot alone are known
abbrev pub KnowsOnlyOf : Ground → Enclosed → View → Type 0
KnowsOnlyOf site e v = (p : ℕ × ℕ) → Has p v.known → IsInSlot site.shape e.segment p.0

-- the header is known and settled
abbrev pub KnowsHeader : Ground → Enclosed → View → Type 0
KnowsHeader site e v = KnowsWord v (header_word site.shape e.segment) e.head

-- WHAT IS HANDED ON: the guard and all locks are held, and nothing else; header and words are known and settled; the segment is known to be
-- live and current; and nothing is unsettled, planned, under way or owed
pub record KeepsWhole (site : Ground) (here : Site) (call : Call) (e : Enclosed) (v : View) : Type 0 where
  pub is : IsOf site here call e
  pub whole : IsWhole site e
  pub there : IsThere site e.segment v.facts
  pub areas : v.areas ≡ Segment e.segment ∷ []
  pub locks : HoldsLocks site e v
  pub header : KnowsHeader site e v
  pub buckets_are : KnowsBuckets site.shape v e.segment (kept_words e)
  pub known : KnowsOnlyOf site e v
  pub quiet : IsQuiet v

-- ---- what the attempt did that enclosed it
module _ (site : Ground) (e : Enclosed) (did : Doings) where
  -- it took the guard, and the locks of the buckets before one, each of which it loaded with the free value that is kept
  pub record HasTakenBefore (to : ℕ) : Type 0 where
    pub guard : Has (segment_guard site.shape e.segment) did.changed
    pub locks : (b : ℕ) → b < to → Has (bucket_at site.shape e.segment b) did.changed
    pub free : (b : ℕ) → b < to → Has (bucket_at site.shape e.segment b, slice_index e.locks b) did.loads

  -- AND IT CHANGED NO OTHER WORD
  abbrev pub HasChangedOnly : ℕ → Type 0
  HasChangedOnly to = (word : ℕ) → Has word did.changed → (word ≡ segment_guard site.shape e.segment) ⊎ ((b : ℕ) × (b < to) × (word ≡ bucket_at site.shape e.segment b))

  -- it loaded the header that is kept
  abbrev pub HasLoadedHeader : Type 0
  HasLoadedHeader = Has (header_word site.shape e.segment, e.head) did.loads

  -- WHAT IS REMEMBERED of a whole segment, whatever the attempt did since: its guard and all its locks were taken, and the header and all
  -- words of the buckets were loaded as they are kept
  pub record RemembersEnclosing : Type 0 where
    pub taken : HasTakenBefore buckets
    pub header : HasLoadedHeader
    pub words : (b n : ℕ) → b < buckets → mark_place ≤ n → n < block → Has (bucket_at site.shape e.segment b + n, kept_word e b n) did.loads

  -- WHAT IS REMEMBERED WHERE IT IS HANDED ON: that, and no other word was changed
  pub record RemembersWhole : Type 0 where
    pub enclosing : RemembersEnclosing
    pub only : HasChangedOnly buckets
