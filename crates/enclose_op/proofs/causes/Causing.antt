-- Who has all locks of a segment that has no room, and knows its words, knows the cause of a refusal: its home, its probing bucket and both
-- stash buckets are full, each key stands once in it, and the segment's header, which it knows, covers all their hashes.
use Rattle.std.proofs.Common.{◌≡◌, ℕ, zero, suc, ◌+◌, ◌/◌, ◌%◌, ◌<◌, ◌≤◌, true, Option, Some, List, [], is_some, refl, sym, ap, ◌∙◌, subst, arith}
use Rattle.bucket_meta.specs.Bucket.{allocated, record_slots}
use Rattle.hash_word.specs.Hash.{top, home_of, probing_of}
use Rattle.segment_head.specs.HeadWord.{depth_in, pattern_in}
use Rattle.trace.specs.Events.{Words}
use Rattle.image_layout.specs.Places.{bucket_at, buckets, homes, slots_of_key}
use Rattle.sound_image.specs.Segments.{frame_of}
use Rattle.sound_image.specs.Records.{key_hash}
use Rattle.segment_table.proofs.frames.Owner.{found_owns}
use Rattle.way.specs.Ways.{is_leading}
use Rattle.way.proofs.Leading.{leading_is}
use Rattle.bucket_words.specs.Buckets.{IsTaken, key_in}
use Rattle.bucket_words.specs.Hits.{Hit}
use Rattle.bucket_words.specs.Owners.{owner_of}
use Rattle.map_model.specs.declared.call.Call.{Call}
use Rattle.map_model.specs.declared.entry.Reply.TheVariants.{Full, Deep}
use Rattle.map_model.specs.Map.{key_of}
use Rattle.map_model.specs.Changes.{call_of}
use Rattle.world.specs.Ground.{Ground}
use Rattle.world.specs.Views.{View, Has, HasLock}
use Rattle.world.specs.History.{HasFullKeys}
use Rattle.world.specs.Conditions.{IsUnplanned, IsNewest, IsMapNow, IsKnownCause}
use Rattle.world.specs.areas.Areas.{header_word}
use Rattle.world.specs.areas.Splitting.{KnowsBuckets}
use Rattle.whole_segment.specs.Room.{HasNoRoom, has_no_room}
use Rattle.whole_segment.proofs.Telling.{tells_room}
use Rattle.phase.specs.Giving.{IsLocated}
use Rattle.phase.proofs.Handing.{key_called}
use Rattle.enclose_op.specs.declared.enclosed.Enclosed.{Enclosed}
use Rattle.enclose_op.specs.Whole.{kept_word, kept_words, kept_first}
use Rattle.enclose_op.proofs.Places.{kept_there}

-- WHAT A REFUSAL RESTS ON, whatever else the view holds
pub record IsCrowd (site : Ground) (e : Enclosed) (v : View) : Type 0 where
  pub located : IsLocated site e.site e.segment
  pub hashed : e.hash ≡ key_hash site.shape e.change.key
  pub leads : is_leading e.head e.hash ≡ true
  pub locks : (b : ℕ) → b < buckets → HasLock v.held (bucket_at site.shape e.segment b)
  pub header : Has (header_word site.shape e.segment, e.head) v.known
  pub words : KnowsBuckets site.shape v e.segment (kept_words e)
  pub planned : v.planned ≡ []
  pub moving : v.moving ≡ []
  pub no_room : has_no_room (kept_first e) (home_of e.hash) ≡ true

-- ---- the full buckets, by numbers
abbrev full_number : ℕ → ℕ → ℕ
full_number hash zero = home_of hash
full_number hash (suc zero) = probing_of (home_of hash)
full_number hash (suc (suc zero)) = homes
full_number hash (suc (suc (suc n))) = homes + 1

number_near : (hash a : ℕ) → full_number hash a < buckets
number_near hash zero = omega arith
number_near hash (suc zero) = omega arith
number_near hash (suc (suc zero)) = omega arith
number_near hash (suc (suc (suc n))) = omega arith

-- they are apart
number_once : (hash a b : ℕ) → a < 4 → b < 4 → full_number hash a ≡ full_number hash b → a ≡ b
number_once hash zero zero p q e = refl
number_once hash zero (suc zero) p q e = absurd (omega (arith, e))
number_once hash zero (suc (suc zero)) p q e = absurd (omega (arith, e))
number_once hash zero (suc (suc (suc n))) p q e = absurd (omega (arith, e))
number_once hash (suc zero) zero p q e = absurd (omega (arith, e))
number_once hash (suc zero) (suc zero) p q e = refl
number_once hash (suc zero) (suc (suc zero)) p q e = absurd (omega (arith, e))
number_once hash (suc zero) (suc (suc (suc n))) p q e = absurd (omega (arith, e))
number_once hash (suc (suc zero)) zero p q e = absurd (omega (arith, e))
number_once hash (suc (suc zero)) (suc zero) p q e = absurd (omega (arith, e))
number_once hash (suc (suc zero)) (suc (suc zero)) p q e = refl
number_once hash (suc (suc zero)) (suc (suc (suc n))) p q e = absurd (omega (arith, e))
number_once hash (suc (suc (suc m))) zero p q e = absurd (omega (arith, e))
number_once hash (suc (suc (suc m))) (suc zero) p q e = absurd (omega (arith, e))
number_once hash (suc (suc (suc m))) (suc (suc zero)) p q e = absurd (omega (arith, e))
number_once hash (suc (suc (suc m))) (suc (suc (suc n))) p q e = omega (arith, p, q)

-- a number of a slot, of all their slots, is one of a bucket and one of a slot there
same_slot : (r t : ℕ) → r / 14 ≡ t / 14 → r % 14 ≡ t % 14 → r ≡ t
same_slot r t bucket slot = omega (arith, bucket, slot)

module _ (site : Ground) (e : Enclosed) (v : View) (crowd : IsCrowd site e v) where
  room : HasNoRoom (kept_first e) (home_of e.hash)
  room = (tells_room (kept_first e) (home_of e.hash)).0 crowd.no_room

  full_at : (a r : ℕ) → r < record_slots → allocated r (kept_first e (full_number e.hash a)) ≡ 1
  full_at zero r low = room.crowded.own r low
  full_at (suc zero) r low = room.crowded.probing r low
  full_at (suc (suc zero)) r low = room.crowded.stash r low
  full_at (suc (suc (suc n))) r low = room.crowded.last r low

  unplanned : (k : ℕ) → IsUnplanned site v k
  unplanned k call planned is = subst (λ (l : List Call). Has call l) crowd.planned planned

  -- the header covers the hash of the call's key
  own_covered : top (depth_in e.head) (key_hash site.shape (key_of (call_of e.change))) ≡ pattern_in e.head
  own_covered =
      subst (λ h. top (depth_in e.head) h ≡ pattern_in e.head) (crowd.hashed ∙ ap (key_hash site.shape) (sym (key_called e.change))) (leading_is e.head e.hash crowd.leads).covers

  module _ (m : ℕ → Option ℕ) (words : Words) (new : IsNewest site v words) (is : IsMapNow site v words m) where
    abbrev number : ℕ → ℕ
    number a = full_number e.hash a

    abbrev at : ℕ → ℕ
    at a = bucket_at site.shape e.segment (number a)

    has_word : (a n : ℕ) → 1 ≤ n → n < 32 → words (at a + n) ≡ kept_word e (number a) n
    has_word a n from low =
        new.knows (at a + n) (kept_words e (at a + n)) (crowd.words (number a) n (number_near e.hash a) from low).known ∙ kept_there site e crowd.located (number a) n

    taken : (a r : ℕ) → r < record_slots → IsTaken words (at a) r
    taken a r low = ap (allocated r) (has_word a 1 (omega arith) (omega arith)) ∙ full_at a r low

    -- the keys, by the numbers of their slots
    abbrev key_at : ℕ → ℕ → ℕ
    key_at a r = key_in words (at a) r

    abbrev key : ℕ → ℕ
    key n = key_at (n / 14) (n % 14)

    lock : (a : ℕ) → HasLock v.held (at a)
    lock a = crowd.locks (number a) (number_near e.hash a)

    hit : (a r k : ℕ) → r < record_slots → key_at a r ≡ k → Hit site.shape words e.segment (number a) r k
    hit a r k low same = record { segment = crowd.located.within; bucket = number_near e.hash a; slot = low; taken = taken a r low; key = same }

    owned : (a r : ℕ) → r < record_slots → owner_of site.shape words (key_hash site.shape (key_at a r)) ≡ Some e.segment
    owned a r low = new.own e.segment (number a) r (key_at a r) (lock a) (hit a r (key_at a r) low refl)

    has_something : (a r : ℕ) → r < record_slots → is_some (m (key_at a r)) ≡ true
    has_something a r low = ap is_some (is.records e.segment (number a) r (key_at a r) (lock a) (unplanned (key_at a r)) (owned a r low) (hit a r (key_at a r) low refl))

    -- and the header covers their hashes
    covered : (a r : ℕ) → r < record_slots → top (depth_in e.head) (key_hash site.shape (key_at a r)) ≡ pattern_in e.head
    covered a r low =
        let owns = found_owns (frame_of site.shape words) (key_hash site.shape (key_at a r)) e.segment (owned a r low) in
        subst (λ h1. top (depth_in h1) (key_hash site.shape (key_at a r)) ≡ pattern_in h1) (new.knows (header_word site.shape e.segment) e.head crowd.header) owns.own.covers

    differ : (r t : ℕ) → r < slots_of_key → t < slots_of_key → key r ≡ key t → r ≡ t
    differ r t r_low t_low same =
        let both = is.differ e.segment (number (r / 14)) (r % 14) (number (t / 14)) (t % 14) (key t) (lock (r / 14)) crowd.moving
        (hit (r / 14) (r % 14) (key t) (omega arith) same) (hit (t / 14) (t % 14) (key t) (omega arith) refl) in
        same_slot r t (number_once e.hash (r / 14) (t / 14) (omega (arith, r_low)) (omega (arith, t_low)) both.0) both.1

    full_keys : (Passes : ℕ → Type 0) → ((a r : ℕ) → r < record_slots → Passes (key_at a r)) → HasFullKeys Passes m
    full_keys Passes passes = record {
      key = key;
      differ = differ;
      there = λ r low. has_something (r / 14) (r % 14) (omega arith);
      pass = λ r low. passes (r / 14) (r % 14) (omega arith);
    }

  -- THE REFUSAL because no slot is free has its cause
  pub knows_full : IsKnownCause site v (call_of e.change) Full
  knows_full m words new is = full_keys m words new is (λ k. Unit {0}) (λ a r low. tt)

  -- and so has that of a segment which is as deep as the image allows
  pub knows_deep : depth_in e.head ≡ site.shape.depth → IsKnownCause site v (call_of e.change) Deep
  knows_deep deep m words new is =
      full_keys m words new is (λ k. top site.shape.depth (key_hash site.shape k) ≡ top site.shape.depth (key_hash site.shape (key_of (call_of e.change))))
      (λ a r low. subst (λ d. top d (key_hash site.shape (key_at m words new is a r)) ≡ top d (key_hash site.shape (key_of (call_of e.change)))) deep (covered m words new is a r low ∙ sym own_covered))
