-- What the holder of the buckets of a key has found, by the words that it loaded: what the laws of `world` ask of a search,
-- and of a draw.
use Rattle.std.specs.Prelude.{◌≡◌, ℕ, ◌+◌, ◌<◌, ◌≤◌, false, None, Some, [], ◌⊎◌, slice_index}
use Rattle.bucket_meta.specs.Bucket.{mark_place, allocated, overflow_count}
use Rattle.bucket_meta.specs.Marks.{KeepsUpper}
use Rattle.bucket_meta.specs.Search.{lowest_with}
use Rattle.hash_word.specs.Hash.{home_of, finger_of}
use Rattle.trace.specs.Events.{Words, with_word}
use Rattle.image_layout.specs.Places.{Shape, bucket_at, value_at, block, homes, stash_bucket, stash_buckets, buckets}
use Rattle.sound_image.specs.Records.{key_hash, word_in, notes_of}
use Rattle.map_model.specs.declared.call.Call.{Call}
use Rattle.map_model.specs.Map.{key_of}
use Rattle.bucket_words.specs.Hits.{Hit}
use Rattle.bucket_words.specs.HomeNotes.{IsUnnoted}
use Rattle.bucket_words.specs.TableChanges.{IsReadyAt}
use Rattle.world.specs.declared.site.Site.{Site}
use Rattle.world.specs.Ground.{Ground}
use Rattle.world.specs.Views.{Owed, View, Has, HasLock}
use Rattle.world.specs.Conditions.{IsKept, HasNoted}
use Rattle.world.specs.Holders.{KnowsBucket, FoundNone, FoundAt, DrawsWell, OwesAsKnown}
use Rattle.phase.specs.declared.role.Role.{Role}
use Rattle.phase.specs.declared.role.Role.TheVariants.{Home, Probing, First, Second, Next, Previous}
use Rattle.phase.specs.declared.held.Held.{Held}
use Rattle.phase.specs.declared.kept.Buckets.{Buckets}
use Rattle.phase.specs.declared.make.Record.{Record}
use Rattle.phase.specs.Places.{bucket_of_role, stash_index, is_third, lock_word}
use Rattle.phase.specs.Buckets.{words_in}
use Rattle.phase.specs.Stands.{IsThere, Leads}
use Rattle.phase.specs.Giving.{IsLocated, IsHeld, IsQuiet, IsOfHeld, HoldsLocks}
use Rattle.phase.specs.Knows.{Knows, HasNoneLoose, IsWhole, with_loaded}
use Rattle.phase.specs.Making.{FitsSlot, with_record}

module _ (here : Site) (hash segment : ℕ) where
  -- THE WORDS OF THE BUCKETS, as one function of all words
  abbrev pub words_of : Buckets → Words
  words_of buckets =
      with_loaded (lock_word here hash segment Home) buckets.home
      (with_loaded (lock_word here hash segment Probing) buckets.probing
      (with_loaded (lock_word here hash segment First) buckets.first
      (with_loaded (lock_word here hash segment Second) buckets.second
      (with_loaded (lock_word here hash segment Next) buckets.next
      (with_loaded (lock_word here hash segment Previous) buckets.previous (λ i. 0))))))

  -- each bucket whose lock is held was loaded whole
  abbrev pub HasLoadedHeld : Held → Buckets → View → Type 0
  HasLoadedHeld held buckets v = (place : Role) → IsHeld held place → IsWhole (lock_word here hash segment place) (words_in buckets place) v

-- THE BUCKETS OF A KEY ARE HELD: home and probing bucket, in a segment that is live and current and whose pinned header leads to the
-- key's hash, and stash buckets and third ones perhaps; and of all that are held each word is known, to be that of `word`
pub record HoldsBuckets (site : Ground) (here : Site) (hash segment : ℕ) (held : Held) (word : Words) (k : ℕ) (v : View) : Type 0 where
  pub located : IsLocated site here segment
  pub hashed : hash ≡ key_hash site.shape k
  pub there : IsThere site segment v.facts
  pub leads : Leads site hash segment v.pinned
  pub locks : HoldsLocks here hash segment held v
  pub home : IsHeld held Home
  pub probing : IsHeld held Probing
  pub knows : Knows (IsOfHeld here hash segment held) word v

-- the notes of a home name no record of a fingerprint in the stash buckets whose locks are not held
pub record SparesStash (shape : Shape) (hash segment : ℕ) (held : Held) (word : Words) : Type 0 where
  pub first : held.first ≡ None → IsUnnoted shape word segment (home_of hash) (finger_of hash) (stash_index First)
  pub second : held.second ≡ None → IsUnnoted shape word segment (home_of hash) (finger_of hash) (stash_index Second)

-- THE KEY STANDS NOWHERE: in none of the buckets that are held and where it may stand, by their words, and so far as notes tell in no
-- other
pub record StandsNowhere (shape : Shape) (hash segment : ℕ) (held : Held) (word : Words) (k : ℕ) : Type 0 where
  pub places : (place : Role) → IsHeld held place → is_third place ≡ false → (t : ℕ) → Hit shape word segment (bucket_of_role hash place) t k → ⊥
  pub stash : SparesStash shape hash segment held word

-- the lock of a stash bucket is not held
abbrev pub IsLeft : Ground → View → ℕ → ℕ → Type 0
IsLeft site v segment c = HasLock v.held (bucket_at site.shape segment (stash_bucket c)) → ⊥

-- ---- the laws
-- the words of a bucket stand where its lock word does, whatever the others are
abbrev pub WordsStand : Type 0
WordsStand = (site : Ground) (here : Site) (hash segment : ℕ) (buckets : Buckets) (place : Role) → IsLocated site here segment
    → (j : ℕ) → mark_place ≤ j → j < block → words_of here hash segment buckets (lock_word here hash segment place + j) ≡ slice_index (words_in buckets place) j

-- what was loaded of the buckets that are held is known
abbrev pub LoadsAreKnown : Type 0
LoadsAreKnown = (site : Ground) (here : Site) (hash segment : ℕ) (held : Held) (buckets : Buckets) (v : View) → IsLocated site here segment
    → HasLoadedHeld here hash segment held buckets v → Knows (IsOfHeld here hash segment held) (words_of here hash segment buckets) v

-- and what is known of them was loaded, so that another bucket may be loaded beside
abbrev pub KnownWasLoaded : Type 0
KnownWasLoaded = (site : Ground) (here : Site) (hash segment : ℕ) (held : Held) (buckets : Buckets) (v : View) → IsLocated site here segment
    → Knows (IsOfHeld here hash segment held) (words_of here hash segment buckets) v → HasLoadedHeld here hash segment held buckets v

-- what the words of a bucket say of a key
pub record SearchTells : Type 0 where
  pub found : (site : Ground) (here : Site) (hash segment : ℕ) (buckets : Buckets) (place : Role) (k r : ℕ) → IsLocated site here segment
      → lowest_with (words_in buckets place) k ≡ Some r → Hit site.shape (words_of here hash segment buckets) segment (bucket_of_role hash place) r k
  pub none : (site : Ground) (here : Site) (hash segment : ℕ) (buckets : Buckets) (place : Role) (k : ℕ) → IsLocated site here segment
      → lowest_with (words_in buckets place) k ≡ None → (t : ℕ) → Hit site.shape (words_of here hash segment buckets) segment (bucket_of_role hash place) t k → ⊥

-- what is known of a bucket that is held, where nothing is loose; and what `world` asks of a search and of a draw
pub record HoldersFind : Type 0 where
  pub bucket : (site : Ground) (here : Site) (hash segment : ℕ) (held : Held) (word : Words) (k : ℕ) (v : View) → HoldsBuckets site here hash segment held word k v → HasNoneLoose v
      → (place : Role) → IsHeld held place → KnowsBucket site.shape v segment (bucket_of_role hash place) word
  pub none : (site : Ground) (here : Site) (hash segment : ℕ) (held : Held) (word : Words) (k : ℕ) (v : View) → HoldsBuckets site here hash segment held word k v → IsQuiet v
      → StandsNowhere site.shape hash segment held word k → FoundNone site v word segment k
  pub at : (site : Ground) (here : Site) (hash segment : ℕ) (held : Held) (word : Words) (k : ℕ) (v : View) → HoldsBuckets site here hash segment held word k v → IsQuiet v
      → (place : Role) → IsHeld held place → (r : ℕ) → Hit site.shape word segment (bucket_of_role hash place) r k → FoundAt site v word segment (bucket_of_role hash place) r k
  pub draw : (site : Ground) (here : Site) (hash segment : ℕ) (held : Held) (word : Words) (call : Call) (v : View) → HoldsBuckets site here hash segment held word (key_of call) v → HasNoneLoose v
      → Has call v.planned → 0 < v.room → HasNoted v → DrawsWell site v call segment word
  -- each stash bucket is held and has nothing loose, or is not held, and then the notes name no record of the key there
  pub kept : (site : Ground) (here : Site) (hash segment : ℕ) (held : Held) (word : Words) (k : ℕ) (v : View) → HoldsBuckets site here hash segment held word k v → HasNoneLoose v
      → (c : ℕ) → c < stash_buckets → IsKept site v (bucket_at site.shape segment (stash_bucket c)) ⊎ IsLeft site v segment c
  pub spared : (site : Ground) (here : Site) (hash segment : ℕ) (held : Held) (word : Words) (k : ℕ) (v : View) → HoldsBuckets site here hash segment held word k v → HasNoneLoose v
      → SparesStash site.shape hash segment held word → (c : ℕ) → c < stash_buckets → IsKept site v (bucket_at site.shape segment (stash_bucket c))
      ⊎ (IsLeft site v segment c × IsUnnoted site.shape word segment (home_of (key_hash site.shape k)) (finger_of (key_hash site.shape k)) c)
  pub quiet : (v : View) → HasNoneLoose v → v.planned ≡ [] → v.moving ≡ [] → v.owed ≡ [] → IsQuiet v

-- A RECORD THAT WAS PREPARED in a free slot leaves a key that stands nowhere so
abbrev pub PreparedStandsNowhere : Type 0
PreparedStandsNowhere = (shape : Shape) (hash segment : ℕ) (held : Held) (word : Words) (k : ℕ) (s b lock finger : ℕ) (written : Record)
    → FitsSlot shape word s b lock written finger → StandsNowhere shape hash segment held word k → StandsNowhere shape hash segment held (with_record lock written word) k

-- THE ONE STORE that makes the change: the record stands there where it was ready, or stood; and a mark that keeps the overflow
-- parts keeps what is noted of the stash, and what is owed of it
pub record PublishTells : Type 0 where
  pub taken : (shape : Shape) (word : Words) (s b r k x : ℕ) → IsReadyAt shape word s b r k → allocated r x ≡ 1 → Hit shape (with_word word (bucket_at shape s b + mark_place) x) s b r k
  pub valued : (shape : Shape) (word : Words) (s b r k x : ℕ) → Hit shape word s b r k → Hit shape (with_word word (value_at shape s b r) x) s b r k
  pub spared : (shape : Shape) (hash segment : ℕ) (held : Held) (word : Words) (s b x : ℕ) → b < buckets → KeepsUpper (word (bucket_at shape s b + mark_place)) x
      → SparesStash shape hash segment held word → SparesStash shape hash segment held (with_word word (bucket_at shape s b + mark_place) x)
  pub owed : (site : Ground) (v : View) (word : Words) (s b d x : ℕ) (o : Owed) → b < buckets → d < homes → KeepsUpper (word (bucket_at site.shape s b + mark_place)) x
      → Has o v.owed → o.segment ≡ s → o.home ≡ d → o.added ≡ false → o.notes ≡ notes_of site.shape word s d → o.count ≡ overflow_count (word_in site.shape word s d mark_place)
      → OwesAsKnown site v (with_word word (bucket_at site.shape s b + mark_place) x) s d
