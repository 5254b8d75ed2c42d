-- What a holder of locks knows, said over one function of all words, which stands in proofs alone: which words it knows, and which
-- may be loose.
use Rattle.std.specs.Prelude.{◌≡◌, ℕ, ◌+◌, ◌-◌, ◌<◌, ◌≤◌, List, ◌⊎◌, slice_index, if◌then◌else◌}
use Rattle.bucket_meta.specs.Bucket.{mark_place, rest_place}
use Rattle.trace.specs.Events.{Words, with_word}
use Rattle.image_layout.specs.Places.{Shape, block, place_in_bucket, bucket_at}
use Rattle.image_layout.specs.Ranges.{is_under}
use Rattle.map_model.specs.declared.call.Call.{Call}
use Rattle.world.specs.Ground.{Ground, IsUnder}
use Rattle.world.specs.Views.{Move, Owed, View, Has, HasLock, IsLoose}
use Rattle.world.specs.Kinds.{learns, with_store, view_after}
use Rattle.world.specs.Conditions.{May}
use Rattle.world.specs.Holders.{KnowsBucket, KnowsMeta}
use Rattle.phase.specs.declared.load.Load.{Load}
use Rattle.phase.specs.Loads.{load_taken}
use Rattle.phase.specs.Stands.{IsLoading, HasLoaded}

-- each word of a set is known, and is that of `word`
abbrev pub Knows : (ℕ → Type 0) → Words → View → Type 0
Knows S word v = (i : ℕ) → S i → Has (i, word i) v.known

-- a set: the words under some locks
abbrev pub IsUnderOne : List ℕ → ℕ → Type 0
IsUnderOne locks i = (lock : ℕ) × Has lock locks × IsUnder lock i

-- no word is loose but those of a set
abbrev pub OnlyLoose : (ℕ → Type 0) → View → Type 0
OnlyLoose S v = (p : ℕ × ℕ) → IsLoose v p → S p.0

-- no word is loose
abbrev pub HasNoneLoose : View → Type 0
HasNoneLoose v = (p : ℕ × ℕ) → IsLoose v p → ⊥

-- the 31 words behind a lock word are known, by their numbers in the bucket
abbrev pub IsWhole : ℕ → List ℕ → View → Type 0
IsWhole lock words v = (j : ℕ) → mark_place ≤ j → j < block → Has (lock + j, slice_index words j) v.known

-- the words with those of a loaded bucket
abbrev pub with_loaded : ℕ → List ℕ → Words → Words
with_loaded lock words word i = if is_under lock i then slice_index words (i - lock) else word i

-- ---- the laws
-- a holder may load a bucket word by word, and knows each then; when all are loaded the bucket is known whole, and what was known
-- is known still
pub record HoldersLoad : Type 0 where
  pub may : (site : Ground) (lock : ℕ) (load : Load) (v : View) → IsLoading lock v.known load → HasLock v.held lock → May site (learns (lock + place_in_bucket load.next)) v
  pub stands : (shape : Shape) (lock : ℕ) (load : Load) (v : View) (n : ℕ) → IsLoading lock v.known load
      → HasLoaded lock (view_after shape (learns (lock + place_in_bucket load.next)) n v).known (load_taken load n)
  pub whole : (shape : Shape) (lock : ℕ) (words : List ℕ) (v : View) (i n : ℕ) → IsWhole lock words v → IsWhole lock words (view_after shape (learns i) n v)

-- of any set
pub record KnowsMore (S : ℕ → Type 0) : Type 0 where
  -- a store makes its word known, and keeps the others
  pub store : (word : Words) (shape : Shape) (i old x : ℕ) (calls : List Call) (moves : List Move) (owed : List Owed) (v : View)
      → Knows S word v → Knows S (with_word word i x) (with_store shape i old x calls moves owed v)
  -- and is all that it makes loose
  pub loose : (shape : Shape) (i old x : ℕ) (calls : List Call) (moves : List Move) (owed : List Owed) (v : View)
      → OnlyLoose S v → OnlyLoose (λ j. (j ≡ i) ⊎ S j) (with_store shape i old x calls moves owed v)
  -- a bucket that was loaded whole is known beside what was
  pub load : (word : Words) (lock : ℕ) (words : List ℕ) (v : View) → ((i : ℕ) → S i → IsUnder lock i → ⊥) → Knows S word v → IsWhole lock words v
      → Knows (λ i. IsUnder lock i ⊎ S i) (with_loaded lock words word) v
  -- so a bucket is known, where none of its words is loose
  pub bucket : (word : Words) (shape : Shape) (s b : ℕ) (v : View) → HasLock v.held (bucket_at shape s b) → Knows S word v
      → ((i : ℕ) → IsUnder (bucket_at shape s b) i → S i) → ((p : ℕ × ℕ) → IsLoose v p → IsUnder (bucket_at shape s b) p.0 → ⊥) → KnowsBucket shape v s b word
  -- and its metadata, where none of those words is loose
  pub meta : (word : Words) (shape : Shape) (s b : ℕ) (v : View) → HasLock v.held (bucket_at shape s b) → Knows S word v
      → ((i : ℕ) → IsUnder (bucket_at shape s b) i → S i) → ((p : ℕ × ℕ) → IsLoose v p → bucket_at shape s b + rest_place < p.0) → KnowsMeta shape v s b word
