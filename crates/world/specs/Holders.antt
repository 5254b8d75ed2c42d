-- What the holder of locks has to know of buckets to make a store there, said over the words that it knows.
use Rattle.std.specs.Prelude.{◌≡◌, ◌≢◌, ◌≤◌, ℕ, ◌+◌, ◌<◌, ◌⊎◌, [], true, false, None, Some, List}
use Rattle.bucket_meta.specs.Bucket.{mark_place, fingers_place, rest_place, allocated, member, overflow_count, record_slots, key_place, value_place, home_side, probing_side, note_fingers_part}
use Rattle.bucket_meta.specs.Notes.{AreExact}
use Rattle.frame_facts.specs.Core.{core_of}
use Rattle.hash_word.specs.Hash.{home_of, probing_of, finger_of}
use Rattle.trace.specs.Events.{Words, with_word}
use Rattle.image_layout.specs.Places.{Shape, bucket_at, value_at, block, homes, stash_bucket, stash_buckets, buckets}
use Rattle.image_layout.specs.Standing.{StandsAt}
use Rattle.sound_image.specs.Records.{key_hash, word_in, notes_in, notes_of}
use Rattle.map_model.specs.declared.call.Call.TheVariants.{Insert, Update, Remove}
use Rattle.map_model.specs.declared.call.Call.{Call}
use Rattle.map_model.specs.declared.entry.Reply.{Reply}
use Rattle.map_model.specs.Map.{key_of}
use Rattle.world.specs.History.{MayReply}
use Rattle.frame_facts.specs.Buckets.{IsTaken, value_in, finger_in}
use Rattle.bucket_meta.specs.Marks.{SameButSlot, KeepsUpper}
use Rattle.frame_facts.specs.HomeNotes.{IsUnnoted}
use Rattle.frame_facts.specs.Hits.{Hit}
use Rattle.frame_facts.specs.TableChanges.{IsReadyAt}
use Rattle.world.specs.Ground.{Ground, IsUnder}
use Rattle.world.specs.Views.{Move, Owed, View, Has, HasLock, IsLoose, IsFirm}
use Rattle.world.specs.Kinds.{draws_place, stores, repays, publishes, stashes, copies, clears}
use Rattle.world.specs.Conditions.{HoldsHome, IsUnplanned, IsKnownReply, OwesNone, May, IsOwedOf, IsKept, HasNoted}

-- a view knows word i, and does not have it loose
pub record KnowsWord (v : View) (i x : ℕ) : Type 0 where
  pub known : Has (i, x) v.known
  pub firm : (y : ℕ) → IsLoose v (i, y) → ⊥

-- it holds the lock of bucket b of segment s, and knows the 31 words behind it: they are those of `word`
pub record KnowsBucket (shape : Shape) (v : View) (s b : ℕ) (word : Words) : Type 0 where
  pub lock : HasLock v.held (bucket_at shape s b)
  pub words : (i : ℕ) → IsUnder (bucket_at shape s b) i → KnowsWord v i (word i)

-- it holds the lock of bucket b of segment s, and knows the three words of metadata behind it: they are those of `word`
pub record KnowsMeta (shape : Shape) (v : View) (s b : ℕ) (word : Words) : Type 0 where
  pub lock : HasLock v.held (bucket_at shape s b)
  pub words : (n : ℕ) → mark_place ≤ n → n ≤ rest_place → KnowsWord v (bucket_at shape s b + n) (word (bucket_at shape s b + n))

-- a store to word m of bucket b, `fingers_place` or one behind it, leaves the taken slots and their fingerprints as they are, and the
-- overflow parts of `rest_place`
pub record SparesTaken (word : Words) (at m x : ℕ) : Type 0 where
  pub from : fingers_place ≤ m
  pub inside : m < block
  pub keys : (t : ℕ) → t < record_slots → IsTaken word at t → key_place t ≢ m
  pub values : (t : ℕ) → t < record_slots → IsTaken word at t → value_place t ≢ m
  pub fingers : (t : ℕ) → t < record_slots → IsTaken word at t → finger_in (with_word word (at + m) x) at t ≡ finger_in word at t
  pub overflow : m ≡ rest_place → note_fingers_part x ≡ note_fingers_part (word (at + rest_place))

-- the stores that change no pair: to the key, the value and the fingerprint of a free slot. The words of the slot itself may be
-- loose: it is enough that the words of metadata are not
pub record MayPrepare (site : Ground) (v : View) : Type 0 where
  pub store : (s b m x : ℕ) (word : Words) → s < site.shape.segments → b < buckets → KnowsMeta site.shape v s b word → SparesTaken word (bucket_at site.shape s b) m x
      → May site (stores (bucket_at site.shape s b + m) x) v

-- the search for a key found nothing: in its home and probing bucket, and in each stash bucket that it had to visit
pub record FoundNone (site : Ground) (v : View) (word : Words) (s k : ℕ) : Type 0 where
  pub led : HoldsHome site v s k
  pub unplanned : IsUnplanned site v k
  pub owes : OwesNone site v s (home_of (key_hash site.shape k))
  pub home : KnowsBucket site.shape v s (home_of (key_hash site.shape k)) word
  pub probing : KnowsBucket site.shape v s (probing_of (home_of (key_hash site.shape k))) word
  pub not_home : (t : ℕ) → Hit site.shape word s (home_of (key_hash site.shape k)) t k → ⊥
  pub not_probing : (t : ℕ) → Hit site.shape word s (probing_of (home_of (key_hash site.shape k))) t k → ⊥
  pub stash : (c : ℕ) → c < stash_buckets → (KnowsBucket site.shape v s (stash_bucket c) word × ((t : ℕ) → Hit site.shape word s (stash_bucket c) t k → ⊥))
      ⊎ IsUnnoted site.shape word s (home_of (key_hash site.shape k)) (finger_of (key_hash site.shape k)) c

-- the search for a key found it in slot r of bucket b
pub record FoundAt (site : Ground) (v : View) (word : Words) (s b r k : ℕ) : Type 0 where
  pub led : HoldsHome site v s k
  pub unplanned : IsUnplanned site v k
  pub still : v.moving ≡ []
  pub home : KnowsBucket site.shape v s (home_of (key_hash site.shape k)) word
  pub probing : KnowsBucket site.shape v s (probing_of (home_of (key_hash site.shape k))) word
  pub there : KnowsBucket site.shape v s b word
  pub hit : Hit site.shape word s b r k

-- metadata word x says that slot r is taken, and all else as w says it
pub record TakesSlot (shape : Shape) (b r k w x : ℕ) : Type 0 where
  pub others : SameButSlot r w x
  pub taken : allocated r x ≡ 1
  pub stands : StandsAt shape b k (member r x)
  pub overflow : KeepsUpper w x

-- it says that slot r is free, and all else as w says it
pub record FreesSlot (r w x : ℕ) : Type 0 where
  pub others : SameButSlot r w x
  pub free : allocated r x ≡ 0
  pub overflow : KeepsUpper w x

-- the stores by which a record appears whose key stood nowhere
pub record MayPlace (site : Ground) (v : View) : Type 0 where
  -- an insert in the home or the probing bucket
  pub insert : (s b r k a x : ℕ) (word : Words) → FoundNone site v word s k → b < homes → KnowsBucket site.shape v s b word → IsReadyAt site.shape word s b r k
      → value_in word (bucket_at site.shape s b) r ≡ a → TakesSlot site.shape b r k (word (bucket_at site.shape s b + mark_place)) x
      → May site (publishes (bucket_at site.shape s b + mark_place) x (Insert k a)) v
  -- and in the stash, for which a note is owed
  pub stash : (s c r k a x : ℕ) (word : Words) → FoundNone site v word s k → c < stash_buckets → KnowsBucket site.shape v s (stash_bucket c) word → IsReadyAt site.shape word s (stash_bucket c) r k
      → value_in word (bucket_at site.shape s (stash_bucket c)) r ≡ a → TakesSlot site.shape (stash_bucket c) r k (word (bucket_at site.shape s (stash_bucket c) + mark_place)) x
      → May site (stashes (bucket_at site.shape s (stash_bucket c) + mark_place) x (Insert k a) (record {
        segment = s;
        home = home_of (key_hash site.shape k);
        added = true;
        note = (finger_of (key_hash site.shape k), c);
        notes = notes_of site.shape word s (home_of (key_hash site.shape k));
        count = overflow_count (word_in site.shape word s (home_of (key_hash site.shape k)) mark_place);
      })) v

-- the stores to a record that was found
pub record MayChange (site : Ground) (v : View) : Type 0 where
  -- an update wherever the record stands, and a remove in the home or the probing bucket
  pub update : (s b r k a : ℕ) (word : Words) → FoundAt site v word s b r k → May site (publishes (value_at site.shape s b r) a (Update k a)) v
  pub remove : (s b r k x : ℕ) (word : Words) → FoundAt site v word s b r k → b < homes → FreesSlot r (word (bucket_at site.shape s b + mark_place)) x
      → May site (publishes (bucket_at site.shape s b + mark_place) x (Remove k)) v

-- a remove of a record in the stash, for which a note is owed
pub record MayUnstash (site : Ground) (v : View) : Type 0 where
  pub remove : (s c r k x : ℕ) (word : Words) → FoundAt site v word s (stash_bucket c) r k → OwesNone site v s (home_of (key_hash site.shape k)) → c < stash_buckets
      → FreesSlot r (word (bucket_at site.shape s (stash_bucket c) + mark_place)) x
      → May site (stashes (bucket_at site.shape s (stash_bucket c) + mark_place) x (Remove k) (record {
        segment = s;
        home = home_of (key_hash site.shape k);
        added = false;
        note = (finger_of (key_hash site.shape k), c);
        notes = notes_of site.shape word s (home_of (key_hash site.shape k));
        count = overflow_count (word_in site.shape word s (home_of (key_hash site.shape k)) mark_place);
      })) v

-- the replies that change nothing
pub record MayTell (site : Ground) (v : View) : Type 0 where
  pub absent : (call : Call) (reply : Reply) (s : ℕ) (word : Words) → FoundNone site v word s (key_of call) → s < site.shape.segments → MayReply None call reply → IsKnownReply site v call reply
  pub present : (call : Call) (reply : Reply) (s b r : ℕ) (word : Words) → FoundAt site v word s b r (key_of call)
      → MayReply (Some (value_in word (bucket_at site.shape s b) r)) call reply → IsKnownReply site v call reply

-- what a store to a metadata word of the home or the probing bucket of a home leaves of the notes of its two neighbours
pub record KeepsNeighbours (shape : Shape) (word other : Words) (s b : ℕ) : Type 0 where
  pub home_before : notes_in shape other s b probing_side ≡ notes_in shape word s b probing_side
  pub home_after : notes_in shape other s (probing_of b) home_side ≡ notes_in shape word s (probing_of b) home_side
  pub count_after : overflow_count (word_in shape other s (probing_of b) mark_place) ≡ overflow_count (word_in shape word s (probing_of b) mark_place)

-- such a store to word n of bucket c by one who owes a note
pub record TouchesNote (site : Ground) (v : View) (word : Words) (o : Owed) (c n x : ℕ) : Type 0 where
  pub owed : Has o v.owed
  pub segment : o.segment < site.shape.segments
  pub near : o.home < homes
  pub home : KnowsBucket site.shape v o.segment o.home word
  pub probing : KnowsBucket site.shape v o.segment (probing_of o.home) word
  pub bucket : (c ≡ o.home) ⊎ (c ≡ probing_of o.home)
  pub meta : (n ≡ mark_place) ⊎ (n ≡ rest_place)
  pub same_core : core_of site.shape (bucket_at site.shape o.segment c + n) x ≡ core_of site.shape (bucket_at site.shape o.segment c + n) (word (bucket_at site.shape o.segment c + n))
  pub neighbours : KeepsNeighbours site.shape word (with_word word (bucket_at site.shape o.segment c + n) x) o.segment o.home

-- the stores of a note that is owed
pub record MayRepay (site : Ground) (v : View) : Type 0 where
  -- one of the stores of a note, and the last one, after which the notes are exact for whatever records the notes of before were to be
  pub part : (o : Owed) (c n x : ℕ) (word : Words) → TouchesNote site v word o c n x → May site (stores (bucket_at site.shape o.segment c + n) x) v
  pub last : (o : Owed) (c n x : ℕ) (word : Words) → TouchesNote site v word o c n x
      → ((stashed : List (ℕ × ℕ)) → IsOwedOf o.added o.note o.notes o.count stashed
      → AreExact (notes_of site.shape (with_word word (bucket_at site.shape o.segment c + n) x) o.segment o.home)
      (overflow_count (word_in site.shape (with_word word (bucket_at site.shape o.segment c + n) x) o.segment o.home mark_place)) stashed)
      → May site (repays (bucket_at site.shape o.segment c + n) x o) v

-- the draw of a change: what is held and firm, and what of the stash is not held; and that no note is owed of a record that came there
pub record DrawsWell (site : Ground) (v : View) (call : Call) (s : ℕ) (word : Words) : Type 0 where
  pub planned : Has call v.planned
  pub room : 0 < v.room
  pub noted : HasNoted v
  pub led : HoldsHome site v s (key_of call)
  pub firm : IsFirm v (bucket_at site.shape s (home_of (key_hash site.shape (key_of call))))
  pub probing : IsKept site v (bucket_at site.shape s (probing_of (home_of (key_hash site.shape (key_of call)))))
  pub home_words : KnowsBucket site.shape v s (home_of (key_hash site.shape (key_of call))) word
  pub probing_words : KnowsBucket site.shape v s (probing_of (home_of (key_hash site.shape (key_of call)))) word

-- the view owes the home nothing, or the note of a record that left, with the notes that are known
abbrev pub OwesAsKnown : Ground → View → Words → ℕ → ℕ → Type 0
OwesAsKnown site v word s b = OwesNone site v s b
    ⊎ ((o : Owed) × Has o v.owed × (o.segment ≡ s) × (o.home ≡ b) × (o.added ≡ false) × (o.notes ≡ notes_of site.shape word s b) × (o.count ≡ overflow_count (word_in site.shape word s b mark_place)))

-- the draws of a change
pub record MayDraw (site : Ground) (v : View) : Type 0 where
  -- where the key stands in a bucket that is known
  pub shown : (call : Call) (s b r : ℕ) (word : Words) → DrawsWell site v call s word → KnowsBucket site.shape v s b word → Hit site.shape word s b r (key_of call) → v.moving ≡ []
      → ((c : ℕ) → c < stash_buckets → IsKept site v (bucket_at site.shape s (stash_bucket c)) ⊎ (HasLock v.held (bucket_at site.shape s (stash_bucket c)) → ⊥)) → May site (draws_place call) v
  -- where the notes name no record of it in the stash buckets that are not held
  pub unnoted : (call : Call) (s : ℕ) (word : Words) → DrawsWell site v call s word → OwesAsKnown site v word s (home_of (key_hash site.shape (key_of call)))
      → ((c : ℕ) → c < stash_buckets → IsKept site v (bucket_at site.shape s (stash_bucket c))
      ⊎ ((HasLock v.held (bucket_at site.shape s (stash_bucket c)) → ⊥) × IsUnnoted site.shape word s (home_of (key_hash site.shape (key_of call))) (finger_of (key_hash site.shape (key_of call))) c))
      → May site (draws_place call) v

-- the two stores by which a record is moved
pub record MayMove (site : Ground) (v : View) : Type 0 where
  -- the copy of a record of bucket b in bucket c
  pub copy : (s b r c t k x : ℕ) (word : Words) → HasLock v.held (bucket_at site.shape s (home_of (key_hash site.shape k))) → c < homes
      → KnowsBucket site.shape v s b word → KnowsBucket site.shape v s c word → Hit site.shape word s b r k → IsReadyAt site.shape word s c t k
      → value_in word (bucket_at site.shape s c) t ≡ value_in word (bucket_at site.shape s b) r → TakesSlot site.shape c t k (word (bucket_at site.shape s c + mark_place)) x
      → v.moving ≡ []
      → May site (copies (bucket_at site.shape s c + mark_place) x (record { segment = s; key = k; from_bucket = b; from_slot = r; to_bucket = c; to_slot = t })) v
  -- and the clearing of its source
  pub clear : (m : Move) (x : ℕ) (word : Words) → HasLock v.held (bucket_at site.shape m.segment (home_of (key_hash site.shape m.key))) → m.from_bucket < homes
      → KnowsBucket site.shape v m.segment m.from_bucket word → KnowsBucket site.shape v m.segment m.to_bucket word
      → Hit site.shape word m.segment m.from_bucket m.from_slot m.key → Hit site.shape word m.segment m.to_bucket m.to_slot m.key
      → (m.to_bucket ≡ m.from_bucket → m.to_slot ≡ m.from_slot → ⊥) → FreesSlot m.from_slot (word (bucket_at site.shape m.segment m.from_bucket + mark_place)) x
      → ((n : Move) → Has n v.moving → n ≡ m)
      → May site (clears (bucket_at site.shape m.segment m.from_bucket + mark_place) x m) v
