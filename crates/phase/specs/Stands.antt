-- How the phases fit the world: the kind of each event, what is known in each state, and how many events are left.
use Rattle.std.specs.Prelude.{◌≡◌, ℕ, ◌+◌, ◌-◌, ◌^◌, ◌<◌, ◌≤◌, nat_le, nat_lt, ⊤, true, None, List, [], ◌∷◌, length, slice_index, if◌then◌else◌}
use Rattle.hash_word.specs.Hash.{index_of}
use Rattle.bucket_meta.specs.Bucket.{mark_place}
use Rattle.trace.specs.Events.{Words}
use Rattle.segment_head.specs.HeadWord.{version_in, is_live}
use Rattle.image_layout.specs.Places.{Shape, IsShape, root_word, header_word, block, last_word}
use Rattle.world.specs.Facts.{Fact, Current, Rooted}
use Rattle.way.specs.Ways.{entry_word, is_leading}
use Rattle.world.specs.declared.site.Site.{Site}
use Rattle.world.specs.Ground.{Ground}
use Rattle.world.specs.Views.{Glance, View, Has}
use Rattle.world.specs.Kinds.{Kind, peeks, asks_power, meets_root, meets_entry, meets_head, noted_header}
use Rattle.part.specs.Part.{IsKnownLive}
use Rattle.phase.specs.declared.walk.Path.{Path}
use Rattle.phase.specs.declared.walk.Walk.{Walk}
use Rattle.phase.specs.declared.walk.Walk.TheVariants.{Power, Root, Entry, Head}
use Rattle.phase.specs.declared.walk.Walked.{Walked}
use Rattle.phase.specs.declared.walk.Walked.TheVariants as walked
use Rattle.phase.specs.declared.back.Back.{Back}
use Rattle.phase.specs.declared.back.Back.TheVariants as back
use Rattle.phase.specs.declared.back.Backed.{Backed}
use Rattle.phase.specs.declared.back.Backed.TheVariants as backed
use Rattle.phase.specs.declared.load.Load.{Load}
use Rattle.phase.specs.declared.load.Loaded.{Loaded}
use Rattle.phase.specs.declared.load.Loaded.TheVariants as loaded

-- ---- the kind of each event
module _ (here : Site) (hash : ℕ) where
  -- where the image has no such depth, or no such slot, the root's word is asked for
  abbrev pub walk_kind : Walk → Kind
  walk_kind Power = asks_power
  walk_kind Root = meets_root
  walk_kind (Entry root) = if nat_le root here.geometry.depth then meets_entry root (index_of root hash) else peeks root_word
  walk_kind (Head root segment) = if nat_lt segment here.geometry.segments then meets_head segment here.version else peeks root_word

  -- the kind of the second look at the header is a parameter, since it is another for each machine: a get validates it, and who holds
  -- a lock there pins it
  abbrev pub back_kind : Path → Kind → Back → Kind
  back_kind path last back.Root = peeks root_word
  back_kind path last back.Entry = peeks (entry_word here.geometry hash path.root)
  back_kind path last back.Head = last

-- ---- where the way leads
-- each live segment of these words has this version
abbrev pub IsCurrent : Shape → Words → ℕ → Type 0
IsCurrent shape words version = (s : ℕ) → s < shape.segments → is_live (words (header_word shape s)) ≡ true → version_in (words (header_word shape s)) ≡ version

-- THE WAY IS AT A SEGMENT of the image, of which a view relies on that it is live and current
pub record IsThere (site : Ground) (segment : ℕ) (facts : List Fact) : Type 0 where
  pub live : IsKnownLive site segment facts
  pub open live use *
  pub current : Has (Current segment) facts

module _ (site : Ground) where
  -- what a view relies on while it goes the way
  abbrev pub IsWalking : Walk → List Fact → Type 0
  IsWalking Power facts = ⊤
  IsWalking Root facts = ⊤
  IsWalking (Entry root) facts = Has (Rooted root) facts × (root ≤ site.shape.depth)
  IsWalking (Head root segment) facts = IsKnownLive site segment facts

  -- and on what a word makes of it: a segment that is stale is known to be live, and nothing is found amiss
  abbrev pub HasWalked : Walked → List Fact → Type 0
  HasWalked (walked.On walk) facts = IsWalking walk facts
  HasWalked (walked.There path) facts = IsThere site path.segment facts
  HasWalked (walked.Stale segment version) facts = IsKnownLive site segment facts
  HasWalked (walked.Amiss word seen) facts = ⊥
  HasWalked end facts = ⊤

-- THE WAY LEADS to a segment: the header that a view has pinned of it leads to the hash
pub record Leads (site : Ground) (hash segment : ℕ) (pinned : List (ℕ × ℕ)) : Type 0 where
  pub shape : IsShape site.shape
  pub fits : hash < 2 ^ 64
  pub within : segment < site.shape.segments
  pub head : ℕ
  pub has : Has (segment, head) pinned
  pub leads : is_leading head hash ≡ true

-- ---- the view of who goes it
-- a view without notes
pub record IsBare (v : View) : Type 0 where
  pub notes : v.notes ≡ []
  pub answer : v.answer ≡ None

-- behind the power word the view has no notes
abbrev pub HasBegun : Walk → View → Type 0
HasBegun Power v = ⊤
HasBegun walk v = IsBare v

-- the note of a header
abbrev pub head_note : Shape → Path → Glance
head_note shape path = noted_header shape path.segment path.head

-- at the end of the way it has that one
pub record NotesHead (shape : Shape) (path : Path) (v : View) : Type 0 where
  pub notes : v.notes ≡ head_note shape path ∷ []
  pub answer : v.answer ≡ None

abbrev pub NotesWay : Shape → Walked → View → Type 0
NotesWay shape (walked.On walk) v = HasBegun walk v
NotesWay shape (walked.There path) v = NotesHead shape path v
NotesWay shape end v = ⊤

-- all but what the view relies on of the structure, and its notes, is as it was
abbrev pub IsButWay : View → View → Type 0
IsButWay v u = u ≡ record v { facts = u.facts; notes = u.notes; answer = u.answer }

-- ---- at most so many events are left
abbrev pub walk_left : Walk → ℕ
walk_left Power = 4
walk_left Root = 3
walk_left (Entry root) = 2
walk_left (Head root segment) = 1

abbrev pub walked_left : Walked → ℕ
walked_left (walked.On walk) = walk_left walk
walked_left end = 0

abbrev pub back_left : Back → ℕ
back_left back.Root = 3
back_left back.Entry = 2
back_left back.Head = 1

abbrev pub backed_left : Backed → ℕ
backed_left (backed.On at) = back_left at
backed_left end = 0

-- ---- the load of a bucket, over any list of words that were loaded, with their values: those that a note has, or those
-- that a view knows
module _ (lock : ℕ) where
  pub record IsLoading (pairs : List (ℕ × ℕ)) (load : Load) : Type 0 where
    pub same : (i : ℕ) → mark_place ≤ i → i < load.next → Has (lock + i, slice_index load.words i) pairs
    pub whole : length load.words ≡ block
    pub from : mark_place ≤ load.next
    pub last : load.next ≤ last_word

  abbrev pub HasLoaded : List (ℕ × ℕ) → Loaded → Type 0
  HasLoaded pairs (loaded.On load) = IsLoading pairs load
  HasLoaded pairs (loaded.All words) = (i : ℕ) → mark_place ≤ i → i < block → Has (lock + i, slice_index words i) pairs

abbrev pub load_left : Load → ℕ
load_left load = 1 + (last_word - load.next)

abbrev pub loaded_left : Loaded → ℕ
loaded_left (loaded.On load) = load_left load
loaded_left (loaded.All words) = 0
