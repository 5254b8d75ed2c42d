-- What an insert hands on that found no room: what its view holds and knows, and what its attempt remembers.
use Rattle.std.specs.Prelude.{◌≡◌, ℕ, ◌+◌, ◌<◌, ◌≤◌, ◌^◌, true, false, None, List, slice_index}
use Rattle.bucket_meta.specs.Bucket.{mark_place}
use Rattle.bucket_meta.specs.Search.{lowest_free}
use Rattle.trace.specs.Events.{Words}
use Rattle.image_layout.specs.Places.{block}
use Rattle.way.specs.Ways.{is_leading}
use Rattle.map_model.specs.declared.call.Call.{Call}
use Rattle.map_model.specs.Changes.{call_of}
use Rattle.map_model.specs.Legal.{IsInsert}
use Rattle.world.specs.declared.site.Site.{Site}
use Rattle.world.specs.Ground.{Ground}
use Rattle.world.specs.Views.{View, Has}
use Rattle.phase.specs.declared.walk.Path.{Path}
use Rattle.phase.specs.declared.role.Role.{Role}
use Rattle.phase.specs.declared.role.Role.TheVariants.{Home, Probing, First, Second, Next, Previous}
use Rattle.phase.specs.declared.held.Held.{Held}
use Rattle.phase.specs.declared.kept.Kept.{Kept}
use Rattle.phase.specs.Places.{is_third, lock_word}
use Rattle.phase.specs.Buckets.{words_in}
use Rattle.phase.specs.AreWords.{AreWords}
use Rattle.phase.specs.Makes.{brought}
use Rattle.phase.specs.Causes.{WasFound}
use Rattle.phase.specs.Giving.{IsHeld, IsQuiet}
use Rattle.phase.specs.Finding.{words_of, HoldsBuckets, StandsNowhere}

-- WHOSE IT IS: this call's, of a key and a value that are words, as are those of its buckets
pub record IsOfCall (here : Site) (call : Call) (kept : Kept) : Type 0 where
  pub same : call_of kept.change ≡ call
  pub at : kept.site ≡ here
  pub key : kept.change.key < 2 ^ 64
  pub value : brought kept.change.effect < 2 ^ 64
  pub buckets : (place : Role) → AreWords (words_in kept.buckets place)

-- the words of the buckets that are locked
abbrev pub kept_words : Kept → Words
kept_words kept = words_of kept.site kept.hash kept.segment kept.buckets

-- no slot of a bucket is free, by its words
abbrev pub IsFull : List ℕ → Type 0
IsFull words = lowest_free (slice_index words mark_place) ≡ None

-- ITS LOCKS ARE HELD, and the words of their buckets known; the header is pinned and leads to its hash; its key stands nowhere, and
-- home and probing bucket are full; nothing is unsettled, planned, under way or owed, and the list of replies has room
pub record KeepsAll (site : Ground) (kept : Kept) (v : View) : Type 0 where
  pub insert : IsInsert (call_of kept.change)
  pub pinned : Has (kept.segment, kept.head) v.pinned
  pub leads : is_leading kept.head kept.hash ≡ true
  pub holds : HoldsBuckets site kept.site kept.hash kept.segment kept.held (kept_words kept) kept.change.key v
  pub quiet : IsQuiet v
  pub nowhere : StandsNowhere site.shape kept.hash kept.segment kept.held (kept_words kept) kept.change.key
  pub home : IsFull kept.buckets.home
  pub probing : IsFull kept.buckets.probing
  pub room : 0 < v.room

-- A BUCKET IS HELD AND FULL
pub record IsFullHeld (kept : Kept) (place : Role) : Type 0 where
  pub held : IsHeld kept.held place
  pub full : IsFull (words_in kept.buckets place)

-- both third buckets are locked
pub record HoldsThirds (held : Held) : Type 0 where
  pub next : IsHeld held Next
  pub previous : IsHeld held Previous

-- AND BOTH STASH BUCKETS are held and full too, and both third buckets are held
pub record KeepsFull (site : Ground) (kept : Kept) (v : View) : Type 0 where
  pub keeps : KeepsAll site kept v
  pub thirds : HoldsThirds kept.held
  pub first : IsFullHeld kept First
  pub second : IsFullHeld kept Second

-- ---- what its attempt did
module _ (kept : Kept) where
  -- the words of a bucket were loaded as they are kept
  abbrev pub WasLoaded : List (ℕ × ℕ) → Role → Type 0
  WasLoaded loads place = (j : ℕ) → mark_place ≤ j → j < block → Has (lock_word kept.site kept.hash kept.segment place + j, slice_index (words_in kept.buckets place) j) loads

  -- it changed no words but those of locks that it holds
  abbrev pub ChangedLocks : List ℕ → Type 0
  ChangedLocks changed = (word : ℕ) → Has word changed → (place : Role) × IsHeld kept.held place × (word ≡ lock_word kept.site kept.hash kept.segment place)

  -- a bucket was loaded, and is full by its words
  abbrev pub LoadedFull : List (ℕ × ℕ) → Role → Type 0
  LoadedFull loads place = WasLoaded loads place × IsFull (words_in kept.buckets place)

-- IT LOADED the way to its segment, with the header that is kept, and the words of each bucket that is held and where its key may
-- stand; and of these home and probing bucket are full
pub record RemembersRoom (site : Ground) (kept : Kept) (loads : List (ℕ × ℕ)) : Type 0 where
  pub path : Path
  pub there : path.segment ≡ kept.segment
  pub found : WasFound kept.site kept.hash loads path
  pub head : path.head ≡ kept.head
  pub buckets : (place : Role) → IsHeld kept.held place → is_third place ≡ false → WasLoaded kept loads place
  pub home : LoadedFull kept loads Home
  pub probing : LoadedFull kept loads Probing

-- neither third bucket is locked yet
pub record HasNoThird (held : Held) : Type 0 where
  pub next : held.next ≡ None
  pub previous : held.previous ≡ None
