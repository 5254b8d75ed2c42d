-- The causes of an attempt's end, one vocabulary for all machines: in the newest words, and in what the attempt did.
use Rattle.std.specs.Prelude.{◌≡◌, ◌≢◌, ℕ, ◌+◌, ◌^◌, ◌<◌, ◌≤◌, ⊤, true, false, None, Some, List, ◌⊎◌}
use Rattle.op_core.specs.declared.want.Want.{Want}
use Rattle.op_core.specs.declared.want.Want.TheVariants.{Power, Done}
use Rattle.op_core.specs.declared.want.Ans.{Ans}
use Rattle.op_core.specs.declared.why.Why.{Why}
use Rattle.op_core.specs.declared.why.Why.TheVariants.{Busy, Moved}
use Rattle.op_core.specs.Answers.{Finds}
use Rattle.hash_word.specs.Hash.{home_of, probing_of, next_of, previous_of, finger_of}
use Rattle.bucket_meta.specs.Bucket.{record_slots, mark_place, rest_place, key_place, lock_bit}
use Rattle.bucket_meta.specs.Slots.{IsFull}
use Rattle.bucket_meta.specs.Visits.{must_visit}
use Rattle.trace.specs.Events.{Words}
use Rattle.segment_head.specs.HeadWord.{version_in, state_in, depth_in, is_live, free, splitting}
use Rattle.image_layout.specs.Places.{Shape, IsShape, root_word, header_word, bucket_at, homes, stash_bucket, second_stash, stash_buckets}
use Rattle.image_layout.specs.Volatile.{counter_word, power_word, power_on}
use Rattle.sound_image.specs.Records.{key_hash}
use Rattle.way.specs.Ways.{entry_word, head_word, bucket_word, is_leading}
use Rattle.map_model.specs.declared.call.Call.{Call}
use Rattle.map_model.specs.declared.entry.Reply.{Reply}
use Rattle.map_model.specs.declared.entry.Reply.TheVariants.{Full, Deep, Spent}
use Rattle.map_model.specs.Map.{key_of}
use Rattle.map_model.specs.Legal.{IsInsert}
use Rattle.map_model.specs.Weave.{spent_count}
use Rattle.world.specs.declared.site.Site.{Site}
use Rattle.world.specs.Ground.{Ground, IsGround, IsStructured, spent_lock}
use Rattle.world.specs.Views.{View, At, Has, HasLock}
use Rattle.world.specs.Invariant.{Holds}
use Rattle.world.specs.Wants.{answer_to, word_of}
use Rattle.part.specs.Doings.{Doings, with_event_of, IsStill}
use Rattle.part.specs.Outcomes.{Outcome, replied, again, stale, need_split, off, finished}
use Rattle.part.specs.Part.{Part, Suits, finds, next}
use Rattle.part.specs.Room.{NothingMovesOn, NothingMovesBack, NothingMoves}

-- ---- metadata words that an attempt loaded of the buckets of a segment
module _ (shape : Shape) (loads : List (ℕ × ℕ)) (segment : ℕ) where
  -- the first one of a bucket had this value
  abbrev pub WasMeta : ℕ → ℕ → Type 0
  WasMeta b meta = Has (bucket_at shape segment b + mark_place, meta) loads

  -- the third one, of which notes have their fingerprints, had this
  abbrev pub WasFingers : ℕ → ℕ → Type 0
  WasFingers b fingers = Has (bucket_at shape segment b + rest_place, fingers) loads

  -- by its first one, which had this value, all record slots of a bucket were taken
  pub record WasFull (b meta : ℕ) : Type 0 where
    pub loaded : WasMeta b meta
    pub full : IsFull meta

-- ---- which buckets a call needs, by the hash of its key and what its attempt loaded of a segment
module _ (shape : Shape) (hash : ℕ) (loads : List (ℕ × ℕ)) (segment : ℕ) where
  -- HOME AND PROBING BUCKET WERE FULL
  pub record WereFull : Type 0 where
    pub home : ℕ
    pub probing : ℕ
    pub home_full : WasFull shape loads segment (home_of hash) home
    pub probing_full : WasFull shape loads segment (probing_of (home_of hash)) probing

  -- and no record of the probing bucket could move on
  pub record NothingMovedOn : Type 0 where
    pub full : WereFull
    pub next : ℕ
    pub next_loaded : WasMeta shape loads segment (next_of (home_of hash)) next
    pub forward : NothingMovesOn full.probing next

  -- nor one of the home bucket back
  pub record NothingMoved : Type 0 where
    pub on : NothingMovedOn
    pub previous : ℕ
    pub previous_loaded : WasMeta shape loads segment (previous_of (home_of hash)) previous
    pub backward : NothingMovesBack on.full.home previous

  -- A SEARCH FOR THE KEY HAS TO VISIT a stash bucket, by the notes of home and probing bucket
  pub record MustVisit (index : ℕ) : Type 0 where
    pub home : ℕ
    pub home_fingers : ℕ
    pub probing : ℕ
    pub probing_fingers : ℕ
    pub home_loaded : WasMeta shape loads segment (home_of hash) home
    pub home_fingers_loaded : WasFingers shape loads segment (home_of hash) home_fingers
    pub probing_loaded : WasMeta shape loads segment (probing_of (home_of hash)) probing
    pub probing_fingers_loaded : WasFingers shape loads segment (probing_of (home_of hash)) probing_fingers
    pub visits : must_visit home home_fingers probing probing_fingers (finger_of hash) index ≡ true

  -- the stash buckets before this one were full
  abbrev pub WereFullBefore : ℕ → Type 0
  WereFullBefore index = (before : ℕ) → before < index → (meta : ℕ) × WasFull shape loads segment (stash_bucket before) meta

  module _ (call : Call) where
    -- A STASH BUCKET is needed where the search has to visit it, and of an insert where nothing could be moved to make room, one after
    -- another
    pub record NeedsStash (b : ℕ) : Type 0 where
      pub index : ℕ
      pub within : index < stash_buckets
      pub at : b ≡ stash_bucket index
      pub cause : MustVisit index ⊎ (IsInsert call × NothingMoved × WereFullBefore index)

    -- A THIRD BUCKET is needed of an insert whose home and probing bucket were full: the next one, and the previous one where nothing
    -- could be moved on
    abbrev pub NeedsThird : ℕ → Type 0
    NeedsThird b = IsInsert call × (((b ≡ next_of (home_of hash)) × WereFull) ⊎ ((b ≡ previous_of (home_of hash)) × NothingMovedOn))

    -- THE BUCKETS THAT A CALL NEEDS are its home and its probing bucket, and such ones
    abbrev pub NeedsBucket : ℕ → Type 0
    NeedsBucket b = (b ≡ home_of hash) ⊎ ((b ≡ probing_of (home_of hash)) ⊎ (NeedsStash b ⊎ NeedsThird b))

-- ---- words by which an attempt finds its bucket, by its key's hash and what it loaded
module _ (shape : Shape) (hash : ℕ) (loads : List (ℕ × ℕ)) where
  -- a root depth that was loaded, and that the image may have
  abbrev pub IsDepth : ℕ → Type 0
  IsDepth root = Has (root_word, root) loads × (root ≤ shape.depth)

  -- a segment that the directory entry of the key's hash, at such a root depth, named when it was loaded
  abbrev pub IsNamed : ℕ → Type 0
  IsNamed segment = (root : ℕ) × IsDepth root × Has (entry_word shape hash root, segment) loads

  -- a word by which the attempt found its segment: the root's, the directory entry at the root depth that was loaded, or the
  -- header word of a segment that was named
  abbrev pub IsOnWay : ℕ → Type 0
  IsOnWay word = (word ≡ root_word)
      ⊎ (((root : ℕ) × IsDepth root × (word ≡ entry_word shape hash root))
      ⊎ ((segment : ℕ) × IsNamed segment × (word ≡ head_word shape segment)))

  -- the lock word of a bucket that a call needs, in a segment that was named
  abbrev pub IsLockThere : Call → ℕ → Type 0
  IsLockThere call word = (segment : ℕ) × IsNamed segment × (b : ℕ) × NeedsBucket shape hash loads segment call b × (word ≡ bucket_word shape segment b)

  -- a word that may be told with these two values: one on the way, or such a lock word, which has them as free, so that two
  -- such values are of two versions
  abbrev pub IsWatched : Call → ℕ → ℕ → ℕ → Type 0
  IsWatched call word before after = IsOnWay word ⊎ (IsLockThere call word × (lock_bit before ≡ 0) × (lock_bit after ≡ 0))

-- ---- causes
module _ (shape : Shape) (words : Words) (did : Doings) (call : Call) where
  abbrev pub hash_for : ℕ
  hash_for = key_hash shape (key_of call)

  -- ---- busy
  -- the lock word of a bucket that the call needs, in a segment of the image that was named
  abbrev pub IsOwnLock : ℕ → Type 0
  IsOwnLock word = (segment : ℕ) × IsNamed shape hash_for did.loads segment × (segment < shape.segments) × (b : ℕ) × NeedsBucket shape hash_for did.loads segment call b × (word ≡ bucket_at shape segment b)

  -- one of them is taken, and not by this attempt
  pub record IsTaken (word value : ℕ) : Type 0 where
    pub own : IsOwnLock word
    pub newest : words word ≡ value
    pub odd : lock_bit value ≡ 1
    pub by_others : Has word did.changed → ⊥

  -- ---- moved
  -- such a word has another value than the attempt loaded, and not by this attempt
  pub record HasMoved (word before after : ℕ) : Type 0 where
    pub watched : IsWatched shape hash_for did.loads call word before after
    pub loaded : Has (word, before) did.loads
    pub newest : words word ≡ after
    pub differ : before ≢ after
    pub by_others : Has word did.changed → ⊥

  -- a word by which the attempt found this segment at this root depth, from the root's to its header's, was not changed by it
  abbrev pub IsOthersWay : ℕ → ℕ → Type 0
  IsOthersWay root segment = (word : ℕ) → (word ≡ root_word) ⊎ ((word ≡ entry_word shape hash_for root) ⊎ (word ≡ head_word shape segment)) → Has word did.changed → ⊥

  -- such a word is the header's of the segment that an entry named, it is as the attempt loaded it, of this version, and it does not lead
  -- to the key's hash: it is none of a normal segment that covers it
  pub record LeadsAway (version word before after : ℕ) : Type 0 where
    pub root : ℕ
    pub segment : ℕ
    pub depth : IsDepth shape hash_for did.loads root
    pub named : Has (entry_word shape hash_for root, segment) did.loads
    pub head : word ≡ head_word shape segment
    pub loaded : Has (word, before) did.loads
    pub newest : words word ≡ after
    pub same : before ≡ after
    pub current : version_in before ≡ version
    pub away : is_leading before hash_for ≡ false
    pub by_others : IsOthersWay root segment

  -- ---- no room
  -- all record slots of a bucket of a segment were taken; and the attempt loaded the key word of each slot, none of which is the call's key
  pub record IsFullOfOthers (segment b meta : ℕ) : Type 0 where
    pub was : WasFull shape did.loads segment b meta
    pub others : (slot : ℕ) → slot < record_slots → (key : ℕ) × Has (bucket_at shape segment b + key_place slot, key) did.loads × (key ≢ key_of call)

  -- in a segment of the image that was named, home and probing bucket of this insert's key are full of other records, of which none can
  -- be moved, by the metadata words of these two, of the next and of the previous bucket; and both stash buckets are full of other records
  pub record FindsNoRoom (segment : ℕ) : Type 0 where
    pub insert : IsInsert call
    pub named : IsNamed shape hash_for did.loads segment
    pub within : segment < shape.segments
    pub home : ℕ
    pub probing : ℕ
    pub next : ℕ
    pub previous : ℕ
    pub first : ℕ
    pub second : ℕ
    pub home_full : IsFullOfOthers segment (home_of hash_for) home
    pub probing_full : IsFullOfOthers segment (probing_of (home_of hash_for)) probing
    pub next_loaded : WasMeta shape did.loads segment (next_of (home_of hash_for)) next
    pub previous_loaded : WasMeta shape did.loads segment (previous_of (home_of hash_for)) previous
    pub moves : NothingMoves home probing next previous
    pub first_full : IsFullOfOthers segment homes first
    pub second_full : IsFullOfOthers segment second_stash second

  -- the attempt loaded the header word of the segment in a slot, with this value
  abbrev pub WasHead : ℕ → ℕ → Type 0
  WasHead slot head = Has (header_word shape slot, head) did.loads

  -- the header that it loaded of a segment has such a depth
  abbrev pub HasDepth : ℕ → (ℕ → Type 0) → Type 0
  HasDepth segment Passes = (head : ℕ) × WasHead segment head × Passes (depth_in head)

  -- it loaded the header of each slot, and found none free
  abbrev pub NoSlotIsFree : Type 0
  NoSlotIsFree = (slot : ℕ) → slot < shape.segments → (head : ℕ) × WasHead slot head × (state_in head ≢ free)

  -- ---- spent
  -- the commit counter is 2^63 or more, or the attempt loaded one of the lock words as free with its last version
  abbrev pub IsSpent : Type 0
  IsSpent = (spent_count ≤ words (counter_word shape)) ⊎ ((lock : ℕ) × IsOwnLock lock × Has (lock, spent_lock) did.loads)

  -- THE CAUSE of each reply: that there is no room in the table who splits tells alone; the other replies are those of the plain map, and
  -- have no more
  abbrev pub HasReplyCause : Reply → Type 0
  HasReplyCause Full = ⊥
  HasReplyCause Deep = ⊥
  HasReplyCause Spent = IsSpent
  HasReplyCause r = ⊤

  -- ---- where the event that decides is this one
  module _ (event : Want) where
    -- the event loaded this word, or tried to exchange it in vain, and found this value
    abbrev pub Looked : ℕ → ℕ → Type 0
    Looked word seen = Finds event (answer_to event (words (word_of shape event))) word seen

    -- THE CAUSE of being told to try again, where the image has this version: no header of another is said to lead away
    abbrev pub HasAgainCause : ℕ → Why → Type 0
    HasAgainCause version (Busy word value) = Looked word value × IsTaken word value
    HasAgainCause version (Moved word before after) = Looked word after × (HasMoved word before after ⊎ LeadsAway version word before after)

    -- of being told that a segment is stale, where the image has this version: the event loaded the header of a segment that was
    -- named, which is live by it, and found this other version there
    pub record IsStale (version segment byte : ℕ) : Type 0 where
      pub named : IsNamed shape hash_for did.loads segment
      pub head : ℕ
      pub looked : Looked (head_word shape segment) head
      pub live : is_live head ≡ true
      pub found : version_in head ≡ byte
      pub other : byte ≢ version

    -- of being told that the power is off: the event loaded the power word, which is not that of a power that is on
    abbrev pub IsOff : Type 0
    IsOff = (event ≡ Power) × (words (power_word shape) ≢ power_on)

    -- THE CAUSE of each outcome; that a machine has done its own work is its part's to say, below
    abbrev pub HasCause : Site → Outcome → Type 0
    HasCause here (replied reply place) = HasReplyCause reply
    HasCause here (again why) = HasAgainCause here.version why
    HasCause here (stale segment byte) = IsStale here.version segment byte
    HasCause here (need_split segment) = FindsNoRoom segment
    HasCause here off = IsOff
    HasCause here finished = ⊤

-- ---- the causes of a part's outcomes
module _ {M : Type 0} (p : Part M) where
  -- what a machine has remembered it remembers after its next event, with what that did; and where the event decides the outcome, the
  -- cause is there: who has finished has done its work; and who is told that a lock is taken does not hold it
  pub record StepsByCause (site : Ground) (here : Site) (call : Call) (words : Words) (op : M) (v : View) (did : Doings) : Type 0 where
    pub remembers : p.Remembers site (next p site words op) (with_event_of (p.wanted op) (answer_to (p.wanted op) (finds p site words op)) did)
    pub caused : (outcome : Outcome) → p.outcome op ≡ None → p.outcome (next p site words op) ≡ Some outcome → HasCause site.shape words did call (p.wanted op) here outcome
    pub worked : p.outcome op ≡ None → p.outcome (next p site words op) ≡ Some finished
        → p.HasWorked site (next p site words op) (with_event_of (p.wanted op) (answer_to (p.wanted op) (finds p site words op)) did)
    pub not_own : (word value : ℕ) → p.outcome op ≡ None → p.outcome (next p site words op) ≡ Some (again (Busy word value)) → HasLock v.held word → ⊥

  -- EACH OUTCOME HAS ITS CAUSE, beside any other callers; it stays as it was decided; where a machine wants nothing more, and does not
  -- hand on, it is decided, and where it hands on, it is not
  pub record EndsByCause : Type 0 where
    pub steps : (site : Ground) (here : Site) (call : Call) (words : Words) (views : List View) (j : ℕ) (op : M) (before v : View) (did : Doings)
        → Holds site words views → At views j v → Suits p site here call op before v → p.wanted op ≢ Done → finds p site words op < 2 ^ 64 → p.Remembers site op did
        → StepsByCause site here call words op v did
    pub stays : (op : M) (a : Ans) (outcome : Outcome) → p.outcome op ≡ Some outcome → p.outcome (p.taken op a) ≡ Some outcome
    pub decided : (site : Ground) (here : Site) (call : Call) (op : M) (v : View) → p.Stands site here call op v → p.wanted op ≡ Done → p.hands_on op ≡ false
        → (outcome : Outcome) × (p.outcome op ≡ Some outcome)
    pub undecided : (op : M) → p.hands_on op ≡ true → p.outcome op ≡ None

-- ---- a caller alone
-- NOTHING MOVES for a caller to whom what it loaded is still so
abbrev pub AloneNothingMoves : Type 0
AloneNothingMoves = (shape : Shape) (words : Words) (did : Doings) (call : Call) (word before after : ℕ) → IsShape shape → key_of call < 2 ^ 64
    → IsStill shape words did → HasMoved shape words did call word before after → ⊥

-- no segment is being split whose header has this version; of the headers of other versions nothing is said
abbrev pub IsUnsplit : Shape → ℕ → Words → Type 0
IsUnsplit shape version words = (s : ℕ) → s < shape.segments → version_in (words (header_word shape s)) ≡ version → state_in (words (header_word shape s)) ≢ splitting

-- NOTHING LEADS AWAY from its key for such a caller, where the structure is sound and no segment of the version is being split
abbrev pub AloneNothingLeadsAway : Type 0
AloneNothingLeadsAway = (site : Ground) (version : ℕ) (words : Words) (did : Doings) (call : Call) (word before after : ℕ) → IsGround site → IsStructured site words
    → IsUnsplit site.shape version words → key_of call < 2 ^ 64 → IsStill site.shape words did → LeadsAway site.shape words did call version word before after → ⊥

-- so no event of such a caller decides that its attempt is to be made again since a word moved
module _ {M : Type 0} (p : Part M) where
  abbrev pub AloneNeverMoved : Type 0
  AloneNeverMoved = (site : Ground) (here : Site) (call : Call) (words : Words) (views : List View) (j : ℕ) (op : M) (before v : View) (did : Doings)
      → Holds site words views → At views j v → Suits p site here call op before v → p.wanted op ≢ Done → finds p site words op < 2 ^ 64 → p.Remembers site op did
      → IsUnsplit site.shape here.version words → key_of call < 2 ^ 64 → IsStill site.shape words did → p.outcome op ≡ None
      → (word was is : ℕ) → p.outcome (next p site words op) ≡ Some (again (Moved word was is)) → ⊥
