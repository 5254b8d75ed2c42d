-- The causes by which an attempt ends that splits a segment: in the newest words, and in what it did.
use Rattle.std.specs.Prelude.{◌≡◌, ◌≢◌, ℕ, ◌^◌, ◌<◌, ⊤, true, false, None, Some, List, ◌⊎◌}
use Rattle.op_core.specs.declared.want.Want.{Want}
use Rattle.op_core.specs.declared.want.Want.TheVariants.{Done}
use Rattle.op_core.specs.declared.want.Ans.{Ans}
use Rattle.trace.specs.Events.{Words}
use Rattle.hash_word.specs.Hash.{home_of, probing_of, next_of, previous_of}
use Rattle.bucket_meta.specs.Bucket.{lock_bit}
use Rattle.image_layout.specs.Places.{Shape, bucket_at, homes, second_stash, buckets}
use Rattle.image_layout.specs.Volatile.{segment_guard, allocation_guard, free_guard}
use Rattle.map_model.specs.declared.call.Call.{Call}
use Rattle.map_model.specs.declared.entry.Reply.TheVariants.{Full, Deep, Spent}
use Rattle.world.specs.declared.site.Site.{Site}
use Rattle.world.specs.Ground.{Ground, spent_lock}
use Rattle.world.specs.Views.{View, Has, At, HasLock}
use Rattle.world.specs.Wants.{answer_to}
use Rattle.world.specs.Invariant.{Holds}
use Rattle.op_core.specs.declared.why.Why.TheVariants.{Busy, Moved}
use Rattle.part.specs.Doings.{Doings, with_event_of}
use Rattle.part.specs.Room.{NothingMoves}
use Rattle.part.specs.Outcomes.{Outcome, replied, again, stale, need_split, off, finished}
use Rattle.part.specs.Causes.{hash_for, WasFull, WasMeta, HasDepth, NoSlotIsFree, Looked, IsOff}
use Rattle.part.specs.Part.{Part, Suits, finds, next}
use Rattle.part.specs.Then.{Then, first, second}

module _ (shape : Shape) (words : Words) (did : Doings) (call : Call) (segment : ℕ) where
  -- the attempt took a lock or a guard: it changed its word
  abbrev pub HasTaken : ℕ → Type 0
  HasTaken word = Has word did.changed

  -- THE SEGMENT IS ENCLOSED: the attempt took its guard and all its locks
  pub record HasEnclosed : Type 0 where
    pub slot : segment < shape.segments
    pub guard : HasTaken (segment_guard shape segment)
    pub locks : (b : ℕ) → b < buckets → HasTaken (bucket_at shape segment b)

  -- a metadata word of one of its buckets says that this is full, or anything, when the attempt loaded it
  abbrev pub FoundFull : ℕ → ℕ → Type 0
  FoundFull b meta = WasFull shape did.loads segment b meta

  abbrev pub FoundMeta : ℕ → ℕ → Type 0
  FoundMeta b meta = WasMeta shape did.loads segment b meta

  -- NO ROOM for the call's key: its two buckets and the stash were full, and nothing could be moved, by the words that the attempt loaded
  pub record FoundNoRoom : Type 0 where
    pub home : ℕ
    pub probing : ℕ
    pub next_meta : ℕ
    pub previous : ℕ
    pub first : ℕ
    pub second : ℕ
    pub home_full : FoundFull (home_of (hash_for shape words did call)) home
    pub probing_full : FoundFull (probing_of (home_of (hash_for shape words did call))) probing
    pub next_loaded : FoundMeta (next_of (home_of (hash_for shape words did call))) next_meta
    pub previous_loaded : FoundMeta (previous_of (home_of (hash_for shape words did call))) previous
    pub first_full : FoundFull homes first
    pub second_full : FoundFull second_stash second
    pub moves : NothingMoves home probing next_meta previous

  -- a lock that it needs: one of the segment, whose guard it took
  abbrev pub IsNeededLock : ℕ → Type 0
  IsNeededLock word = HasTaken (segment_guard shape segment) × ((b : ℕ) × (b < buckets) × (word ≡ bucket_at shape segment b))

  -- a guard that it needs: that of the segment, and once that is enclosed and has no room, that of free slots
  abbrev pub IsNeededGuard : ℕ → Type 0
  IsNeededGuard word = (word ≡ segment_guard shape segment) ⊎ ((word ≡ allocation_guard shape) × HasEnclosed × FoundNoRoom)

  -- IT IS TAKEN, and not by this attempt
  pub record IsTakenByOthers (word value : ℕ) : Type 0 where
    pub needed : (IsNeededLock word × (lock_bit value ≡ 1)) ⊎ (IsNeededGuard word × (value ≢ free_guard))
    pub newest : words word ≡ value
    pub by_others : HasTaken word → ⊥

  -- THE LOCK WORD HAS MOVED from one free value to another since the attempt loaded it
  pub record HasMovedLock (word before after : ℕ) : Type 0 where
    pub needed : IsNeededLock word
    pub loaded : Has (word, before) did.loads
    pub free_before : lock_bit before ≡ 0
    pub free_after : lock_bit after ≡ 0
    pub newest : words word ≡ after
    pub differ : before ≢ after
    pub by_others : HasTaken word → ⊥

  -- THE CAUSE of each outcome. Deep and Full are decided while the segment is enclosed, Full under the guard of free slots too
  abbrev pub HasSplitCause : Want → Outcome → Type 0
  HasSplitCause event (replied Deep place) = HasEnclosed × FoundNoRoom × HasDepth shape words did call segment (λ depth. depth ≡ shape.depth)
  HasSplitCause event (replied Full place) =
      HasEnclosed × FoundNoRoom × HasDepth shape words did call segment (λ depth. depth < shape.depth) × HasTaken (allocation_guard shape) × NoSlotIsFree shape words did call
  HasSplitCause event (replied Spent place) = (lock : ℕ) × IsNeededLock lock × Has (lock, spent_lock) did.loads
  HasSplitCause event (replied reply place) = ⊥
  HasSplitCause event (again (Busy word value)) = Looked shape words did call event word value × IsTakenByOthers word value
  HasSplitCause event (again (Moved word before after)) = Looked shape words did call event word after × HasMovedLock word before after
  HasSplitCause event (stale slot version) = ⊥
  HasSplitCause event (need_split slot) = ⊥
  HasSplitCause event off = IsOff shape words did call event
  HasSplitCause event finished = ⊤

-- EACH OUTCOME HAS ITS CAUSE, beside any other callers, of a part that splits the segment that its state names; it stays as it was decided;
-- where the part wants nothing more and does not hand on, it is decided
module _ {M : Type 0} (p : Part M) (segment_of : M → ℕ) where
  pub record SplitsByCause (site : Ground) (here : Site) (call : Call) (words : Words) (op : M) (v : View) (did : Doings) : Type 0 where
    pub remembers : p.Remembers site (next p site words op) (with_event_of (p.wanted op) (answer_to (p.wanted op) (finds p site words op)) did)
    pub caused : (outcome : Outcome) → p.outcome op ≡ None → p.outcome (next p site words op) ≡ Some outcome → HasSplitCause site.shape words did call (segment_of op) (p.wanted op) outcome
    pub not_own : (word value : ℕ) → p.outcome op ≡ None → p.outcome (next p site words op) ≡ Some (again (Busy word value)) → HasLock v.held word → ⊥

  pub record EndsBySplitCause : Type 0 where
    pub steps : (site : Ground) (here : Site) (call : Call) (words : Words) (views : List View) (j : ℕ) (op : M) (before v : View) (did : Doings)
        → Holds site words views → At views j v → Suits p site here call op before v → p.wanted op ≢ Done → finds p site words op < 2 ^ 64 → p.Remembers site op did
        → SplitsByCause site here call words op v did
    pub stays : (op : M) (a : Ans) (outcome : Outcome) → p.outcome op ≡ Some outcome → p.outcome (p.taken op a) ≡ Some outcome
    pub decided : (site : Ground) (here : Site) (call : Call) (op : M) (v : View) → p.Stands site here call op v → p.wanted op ≡ Done → p.hands_on op ≡ false
        → (outcome : Outcome) × (p.outcome op ≡ Some outcome)
    pub undecided : (op : M) → p.hands_on op ≡ true → p.outcome op ≡ None
    pub same_segment : (op : M) (a : Ans) → segment_of (p.taken op a) ≡ segment_of op

-- ---- of one part after another
module _ {A B : Type 0} (of_a : A → ℕ) (of_b : B → ℕ) where
  -- the segment that a state of the whole names is the one that the state of the first names, or of the second
  abbrev pub segment_of_then : Then A B → ℕ
  segment_of_then (first x) = of_a x
  segment_of_then (second y) = of_b y

  -- where the first hands on, the second goes on with the same segment
  abbrev pub KeepsSegment : Part A → (A → B) → Type 0
  KeepsSegment a next = (x : A) → a.hands_on x ≡ true → of_b (next x) ≡ of_a x
