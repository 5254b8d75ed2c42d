-- How it fits the world: the kind of each of its events, and the view that its caller has in each step.
use Rattle.std.specs.Prelude.{◌≡◌, ℕ, ◌+◌, ◌^◌, ◌<◌, ⊤, Bool, true, false, Option, None, Some, List, [], ◌∷◌}
use Rattle.bucket_meta.specs.Bucket.{overflow_count, mark_place, rest_place}
use Rattle.hash_word.specs.Hash.{home_of, finger_of}
use Rattle.trace.specs.Events.{Words, with_word}
use Rattle.image_layout.specs.Places.{root_word, place_in_bucket}
use Rattle.sound_image.specs.Records.{key_hash, notes_of, word_in}
use Rattle.way.specs.Ways.{is_leading}
use Rattle.map_model.specs.declared.call.Call.{Call}
use Rattle.map_model.specs.declared.entry.Reply.TheVariants as reply
use Rattle.map_model.specs.Changes.{call_of}
use Rattle.map_model.specs.Legal.{IsInsert}
use Rattle.bucket_words.specs.Hits.{Hit}
use Rattle.world.specs.declared.site.Site.{Site}
use Rattle.world.specs.Ground.{Ground}
use Rattle.world.specs.Views.{Owed, View, Has}
use Rattle.world.specs.Kinds.{Kind, peeks, refuses, learns, stores, repays, stashes, draws_place}
use Rattle.world.specs.Conditions.{FoundSpent}
use Rattle.world.specs.Attempts.{HoldsOnly}
use Rattle.part.specs.Outcomes.{Outcome, replied, again, off}
use Rattle.phase.specs.declared.role.Role.{Role}
use Rattle.phase.specs.declared.role.Role.TheVariants as place
use Rattle.phase.specs.declared.load.Load.{Load}
use Rattle.phase.specs.declared.make.Make.{Make}
use Rattle.phase.specs.declared.make.Make.TheVariants.{FlushPublished, FencePublished}
use Rattle.phase.specs.declared.held.Held.{Held}
use Rattle.phase.specs.declared.kept.Kept.{Kept}
use Rattle.phase.specs.Places.{bucket_of_role}
use Rattle.phase.specs.Helds.{with_held, free_of}
use Rattle.phase.specs.Buckets.{words_in}
use Rattle.phase.specs.Stands.{IsThere, Leads, IsLoading}
use Rattle.phase.specs.Taking.{take_kind, IsTaking}
use Rattle.phase.specs.Giving.{IsHeld, IsQuiet, IsOfHeld, HoldsLocks, GivesBack, give_kind}
use Rattle.phase.specs.Knows.{Knows, HasNoneLoose}
use Rattle.phase.specs.Making.{make_kind, with_record, with_mark, IsMaking}
use Rattle.phase.specs.Finding.{words_of, HasLoadedHeld, StandsNowhere}
use Rattle.phase.specs.Keeps.{IsFull, IsFullHeld, HoldsThirds, KeepsFull}
use Rattle.phase.specs.AreWords.{AreWords}
use Rattle.phase.specs.Makes.{brought}
use Rattle.stash_op.specs.declared.step.StashBucket.{StashBucket}
use Rattle.stash_op.specs.declared.step.StashBucket.TheVariants.{First, Second}
use Rattle.stash_op.specs.declared.step.NoteWords.{NoteWords}
use Rattle.phase.specs.declared.note.NoteWord.{NoteWord}
use Rattle.phase.specs.declared.note.NoteWord.TheVariants.{Mark, Fingers}
use Rattle.phase.specs.Endings.{outcome_then}
use Rattle.stash_op.specs.declared.step.StashEnd.{StashEnd}
use Rattle.stash_op.specs.declared.step.StashEnd.TheVariants as ends
use Rattle.stash_op.specs.declared.step.Seen.{Seen}
use Rattle.stash_op.specs.declared.step.StashStep.{StashStep}
use Rattle.stash_op.specs.declared.step.StashStep.TheVariants.{Lock, Fill, Note, Draw, CountSpent, Give, Ended}
use Rattle.stash_op.specs.declared.step.StashStep.TheVariants as step
use Rattle.stash_op.specs.declared.op.StashOp.{StashOp}
use Rattle.stash_op.specs.Search.{place_of, index_of, note_place, free_slot, record_in, noted, has_finger}
use Rattle.stash_op.specs.Steps.{lock_of, kept_in}

-- ---- the words of the buckets that are locked
module _ (kept : Kept) (seen : Seen) where
  -- as they were loaded, among any others
  abbrev pub loaded : Words
  loaded = words_of kept.site kept.hash kept.segment seen.buckets

  -- with the record in its slot, just before the one store that makes the insert
  abbrev pub prepared : Words
  prepared = with_record (lock_of kept (place_of seen.bucket)) seen.written loaded

  -- and with that store
  abbrev pub changed : Words
  changed = with_mark (lock_of kept (place_of seen.bucket)) seen.written prepared

  -- with the first store of the note, and with the second
  abbrev pub marked : Words
  marked = with_word changed (lock_of kept (note_place (noted kept.hash seen).bucket) + mark_place) (noted kept.hash seen).mark

  abbrev pub fingered : Words
  fingered = with_word marked (lock_of kept (note_place (noted kept.hash seen).bucket) + rest_place) (noted kept.hash seen).fingers

  -- the note that is owed since the record came to the stash
  abbrev pub owed : Owed
  owed = record {
    segment = kept.segment;
    home = home_of kept.hash;
    added = true;
    note = (finger_of kept.hash, index_of seen.bucket);
    notes = notes_of kept.site.geometry prepared kept.segment (home_of kept.hash);
    count = overflow_count (word_in kept.site.geometry prepared kept.segment (home_of kept.hash) mark_place);
  }

  -- ---- THE KIND of each event
  -- the store that makes the insert owes a note
  abbrev pub publish_kind : ℕ → ℕ → Kind
  publish_kind i x = stashes i x (call_of kept.change) owed

  -- the last store of the note repays what is owed
  abbrev pub mark_kind : Bool → ℕ → ℕ → Kind
  mark_kind true i x = stores i x
  mark_kind false i x = repays i x owed

  abbrev pub note_kind : NoteWord → NoteWords → Kind
  note_kind Mark note = mark_kind (has_finger seen note) (lock_of kept (note_place note.bucket) + mark_place) note.mark
  note_kind Fingers note = repays (lock_of kept (note_place note.bucket) + rest_place) note.fingers owed

  abbrev pub kind_at : StashStep → Kind
  kind_at (Lock bucket take) = take_kind (lock_of kept (place_of bucket)) take
  kind_at (Fill bucket load) = learns (lock_of kept (place_of bucket) + place_in_bucket load.next)
  kind_at (step.Make make) = make_kind publish_kind (lock_of kept (place_of seen.bucket)) seen.written make
  kind_at (Note part) = note_kind part (noted kept.hash seen)
  kind_at Draw = draws_place (call_of kept.change)
  kind_at CountSpent = refuses (call_of kept.change) reply.Spent
  kind_at (Give held end) = give_kind kept.site kept.hash kept.segment held
  kind_at (Ended end) = peeks root_word

  -- a word lies under a lock that is held
  abbrev pub IsHere : ℕ → Type 0
  IsHere = IsOfHeld kept.site kept.hash kept.segment seen.held

  -- each stash bucket before this one is held and full
  abbrev pub IsNext : StashBucket → Type 0
  IsNext First = ⊤
  IsNext Second = IsFullHeld (kept_in kept seen) place.First

-- ---- what is held, known and owed
module _ (site : Ground) (kept : Kept) (seen : Seen) where
  -- THE LOCKS are held, those of home and probing bucket among them, which are full, and of both third buckets; the header that is kept
  -- is pinned; the words of those of `before` are known, and the key stands in none of these
  pub record HasLoaded (before : Held) (v : View) : Type 0 where
    pub pinned : Has (kept.segment, kept.head) v.pinned
    pub there : IsThere site kept.segment v.facts
    pub leads : Leads site kept.hash kept.segment v.pinned
    pub locks : HoldsLocks kept.site kept.hash kept.segment seen.held v
    pub home : IsHeld before place.Home
    pub probing : IsHeld before place.Probing
    pub thirds : HoldsThirds before
    pub whole : HasLoadedHeld kept.site kept.hash kept.segment before seen.buckets v
    pub nowhere : StandsNowhere site.shape kept.hash kept.segment before (loaded kept seen) kept.change.key
    pub quiet : IsQuiet v
    pub room : 0 < v.room
    pub full_home : IsFull seen.buckets.home
    pub full_probing : IsFull seen.buckets.probing

  -- a stash bucket is loaded, whose lock was taken last
  pub record IsFilling (bucket : StashBucket) (load : Load) (v : View) : Type 0 where
    pub before : Held
    pub free : ℕ
    pub more : seen.held ≡ with_held (place_of bucket) free before
    pub out : free_of before (place_of bucket) ≡ None
    pub has : HasLoaded before v
    pub next : IsNext kept seen bucket
    pub loading : IsLoading (lock_of kept (place_of bucket)) v.known load

  -- from the stores of the record on
  pub record HasAll (v : View) : Type 0 where
    pub there : IsThere site kept.segment v.facts
    pub leads : Leads site kept.hash kept.segment v.pinned
    pub locks : HoldsLocks kept.site kept.hash kept.segment seen.held v
    pub home : IsHeld seen.held place.Home
    pub probing : IsHeld seen.held place.Probing
    pub bucket : IsHeld seen.held (place_of seen.bucket)
    pub nowhere : StandsNowhere site.shape kept.hash kept.segment seen.held (loaded kept seen) kept.change.key
    pub still : v.moving ≡ []
    pub room : 0 < v.room

  -- THE SLOT IS RIGHT: the lowest free one of the stash bucket, and the record is stored there
  pub record IsChosen : Type 0 where
    pub free : free_slot seen.buckets seen.bucket ≡ Some seen.written.slot
    pub written : seen.written ≡ record_in kept seen.buckets seen.bucket seen.written.slot

  -- the insert is planned from the one store that makes it to its draw
  abbrev pub planned_at : Make → List Call
  planned_at FlushPublished = call_of kept.change ∷ []
  planned_at FencePublished = call_of kept.change ∷ []
  planned_at make = []

  -- and its note is owed from there on
  abbrev pub owed_at : Make → List Owed
  owed_at FlushPublished = owed kept seen ∷ []
  owed_at FencePublished = owed kept seen ∷ []
  owed_at make = []

  pub record IsChanging (make : Make) (v : View) : Type 0 where
    pub all : HasAll v
    pub chosen : IsChosen
    pub making : IsMaking (lock_of kept (place_of seen.bucket)) seen.written (IsHere kept seen) (loaded kept seen) (prepared kept seen) make v
    pub planned : v.planned ≡ planned_at make
    pub owes : v.owed ≡ owed_at make

  -- the words at each store of the note
  abbrev pub words_of_note : NoteWord → Words
  words_of_note Mark = changed kept seen
  words_of_note Fingers = marked kept seen

  pub record IsNoting (part : NoteWord) (v : View) : Type 0 where
    pub all : HasAll v
    pub chosen : IsChosen
    pub knows : Knows (IsHere kept seen) (words_of_note part) v
    pub settled : HasNoneLoose v
    pub planned : v.planned ≡ call_of kept.change ∷ []
    pub owes : v.owed ≡ owed kept seen ∷ []

  -- the record stands in its slot, by the words that are known, and no note is owed any more
  pub record IsDrawing (v : View) : Type 0 where
    pub all : HasAll v
    pub word : Words
    pub knows : Knows (IsHere kept seen) word v
    pub stands : Hit site.shape word kept.segment (bucket_of_role kept.hash (place_of seen.bucket)) seen.written.slot kept.change.key
    pub settled : HasNoneLoose v
    pub planned : v.planned ≡ call_of kept.change ∷ []
    pub owes : v.owed ≡ []

  -- ---- while locks are given back
  abbrev pub IsGiving : Held → View → Type 0
  IsGiving held v = GivesBack site kept.site kept.hash kept.segment held v

  -- ALL LOCKS ARE KEPT where both stash buckets are full, and the segment that was kept is told; else all is as before a call
  abbrev pub SuitsEnd : StashEnd → View → Type 0
  SuitsEnd (ends.NeedSplit segment) v = KeepsFull site (kept_in kept seen) v × (segment ≡ kept.segment)
  SuitsEnd end v = HoldsOnly [] v

  -- THE VIEW in each step
  abbrev pub SuitsStep : StashStep → View → Type 0
  SuitsStep (Lock bucket take) v = HasLoaded seen.held v × (free_of seen.held (place_of bucket) ≡ None) × IsNext kept seen bucket × IsTaking take
  SuitsStep (Fill bucket load) v = IsFilling bucket load v
  SuitsStep (step.Make make) v = IsChanging make v
  SuitsStep (Note part) v = IsNoting part v
  SuitsStep Draw v = IsDrawing v
  SuitsStep CountSpent v = IsGiving seen.held v × FoundSpent v
  SuitsStep (Give held end) v = IsGiving held v
  SuitsStep (Ended end) v = SuitsEnd end v

-- an insert runs in this image, its hash is its key's, and the header that it kept leads there
pub record IsIn (site : Ground) (kept : Kept) : Type 0 where
  pub shape : kept.site.geometry ≡ site.shape
  pub hash : kept.hash ≡ key_hash site.shape kept.change.key
  pub leading : is_leading kept.head kept.hash ≡ true
  pub insert : IsInsert (call_of kept.change)

-- what it keeps are words
abbrev pub HasWordsAt : StashStep → Type 0
HasWordsAt (Fill bucket load) = AreWords load.words
HasWordsAt more = ⊤

pub record HasWords (kept : Kept) (seen : Seen) (at : StashStep) : Type 0 where
  pub key : kept.change.key < 2 ^ 64
  pub value : brought kept.change.effect < 2 ^ 64
  pub buckets : (place : Role) → AreWords (words_in seen.buckets place)
  pub load : HasWordsAt at

-- it makes the call's insert
pub record StashStands (site : Ground) (here : Site) (call : Call) (op : StashOp) (v : View) : Type 0 where
  pub same : call_of op.kept.change ≡ call
  pub at : op.kept.site ≡ here
  pub is_in : IsIn site op.kept
  pub has : HasWords op.kept op.stage.seen op.stage.step
  pub view : SuitsStep site op.kept op.stage.seen op.stage.step v

-- ---- as a part of a call
-- where both stash buckets are full nothing is decided
abbrev pub outcome_of : StashEnd → Option Outcome
outcome_of (ends.Replied answer place) = Some (replied answer place)
outcome_of (ends.NeedSplit segment) = None
outcome_of (ends.Again why) = Some (again why)
outcome_of ends.Off = Some off

-- the locks may still be given back
abbrev pub outcome_at : StashStep → Option Outcome
outcome_at (Give held end) = Some (outcome_then end)
outcome_at (Ended end) = outcome_of end
outcome_at more = None
