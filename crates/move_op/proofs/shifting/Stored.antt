-- The words at each store of a shift: the record stands at its source, then its copy too, then the copy alone; and then the new record
-- stands where its source was.
use Rattle.std.proofs.Common.{◌≡◌, ◌≢◌, ℕ, ◌+◌, ◌*◌, ◌^◌, ◌<◌, ◌≤◌, refl, sym, ap, ◌∙◌, subst, arith, List, slice_index}
use Rattle.hash_word.specs.Hash.{finger_of}
use Rattle.bucket_meta.specs.Bucket.{allocated, member, finger}
use Rattle.bucket_meta.specs.Marks.{finger_place, with_finger, removed_mark}
use Rattle.bucket_meta.proofs.Marks.{frees_slot}
use Rattle.bucket_meta.proofs.fields.Uppers.{removed_upper, removed_fits}
use Rattle.trace.specs.Events.{Words, with_word}
use Rattle.trace.proofs.Replaced.{replaced_same, replaced_other}
use Rattle.sound_image.specs.Records.{key_hash}
use Rattle.bucket_words.specs.Buckets.{value_in}
use Rattle.bucket_words.specs.Hits.{Hit}
use Rattle.bucket_words.specs.TableChanges.{IsReadyAt}
use Rattle.world.specs.Ground.{Ground}
use Rattle.world.specs.Holders.{TakesSlot, FreesSlot}
use Rattle.phase.specs.declared.role.Role.{Role}
use Rattle.phase.specs.declared.kept.Kept.{Kept}
use Rattle.phase.specs.Places.{bucket_of_role}
use Rattle.phase.specs.Buckets.{words_in}
use Rattle.phase.specs.Giving.{IsLocated}
use Rattle.phase.specs.Making.{FitsSlot}
use Rattle.phase.specs.Keeps.{kept_words}
use Rattle.phase.specs.AreWords.{AreWords}
use Rattle.phase.proofs.locks.Giving.{bucket_near}
use Rattle.phase.proofs.locks.Finding.{publish_tells}
use Rattle.phase.proofs.locks.Storing.{place_near, prepares_record}
use Rattle.phase.specs.Makes.{brought}
use Rattle.move_op.specs.declared.step.Direction.{Direction}
use Rattle.move_op.specs.declared.step.Direction.TheVariants.{Forward, Backward}
use Rattle.move_op.specs.declared.step.Shift.{Shift}
use Rattle.move_op.specs.Shifts.{source_of, target_of, shift_at}
use Rattle.move_op.specs.Steps.{lock_of}
use Rattle.move_op.specs.Fits.{with_copy_ready, with_copy, with_clearing, with_insert_ready, with_insert, CanMove}
use Rattle.move_op.proofs.shifting.Marks.{arrives, copy_stands, insert_stands}
use Rattle.move_op.proofs.shifting.Beside.{key_place, value_place, at, at_is, kept_here, kept_at, recorded_beside, marked_beside}

-- the bucket that a record leaves is not the one to which it comes
pub leaves : (d : Direction) → source_of d ≢ target_of d
leaves Forward e = cc
leaves Backward e = cc

module _ (site : Ground) (kept : Kept) (d : Direction) (from to : ℕ) (l : IsLocated site kept.site kept.segment) (can : CanMove site kept d from to) (all : (place : Role) → AreWords (words_in kept.buckets place)) where
  abbrev shift : Shift
  shift = shift_at kept d from to

  abbrev source : List ℕ
  source = words_in kept.buckets (source_of d)

  abbrev target : List ℕ
  target = words_in kept.buckets (target_of d)

  -- the key of the record that moves
  abbrev key : ℕ
  key = slice_index source (4 + 2 * from)

  abbrev b : ℕ
  b = bucket_of_role kept.hash (source_of d)

  abbrev c : ℕ
  c = bucket_of_role kept.hash (target_of d)

  abbrev from_lock : ℕ
  from_lock = lock_of kept (source_of d)

  abbrev to_lock : ℕ
  to_lock = lock_of kept (target_of d)

  abbrev number : ℕ
  number = finger from (slice_index source 2) (slice_index source 3)

  -- ---- the copy
  pub copy_fits : FitsSlot site.shape (kept_words kept) kept.segment c to_lock shift.copy number
  copy_fits = record {
    segment = l.within;
    bucket = bucket_near kept.hash (target_of d);
    at = at_is site kept l (target_of d);
    slot = can.to_low;
    is_free = ap (allocated to) (kept_here site kept l (target_of d) 1 (omega arith) (omega arith)) ∙ can.is_free;
    small = subst (λ f. f < 2 ^ 8) (sym can.fingerprint) (omega arith);
    fingers = let near = place_near to in
        ap (λ x. with_finger x to number) (sym (kept_here site kept l (target_of d) (finger_place to) (let n = near.0 in omega (arith, n)) (let n = near.1 in omega (arith, n))));
  }

  pub copy_ready : IsReadyAt site.shape (with_copy_ready kept shift) kept.segment c to key
  copy_ready = prepares_record.ready site.shape (kept_words kept) kept.segment c to_lock number shift.copy copy_fits can.fingerprint

  ready_meta : with_copy_ready kept shift (at site kept l (target_of d) + 1) ≡ slice_index target 1
  ready_meta = ap (λ z. with_copy_ready kept shift (z + 1)) (sym (at_is site kept l (target_of d)))
      ∙ prepares_record.meta site.shape (kept_words kept) kept.segment c to_lock number shift.copy copy_fits
      ∙ kept_here site kept l (target_of d) 1 (omega arith) (omega arith)

  -- the words of another bucket
  pub ready_beside : (place : Role) (j : ℕ) → place ≢ target_of d → 1 ≤ j → j < 32 → with_copy_ready kept shift (at site kept l place + j) ≡ slice_index (words_in kept.buckets place) j
  ready_beside place j differ some low = recorded_beside site kept l (target_of d) shift.copy can.to_low (kept_words kept) place j differ low ∙ kept_at site kept l place j some low

  pub copy_beside : (place : Role) (j : ℕ) → place ≢ target_of d → 1 ≤ j → j < 32 → with_copy kept shift (at site kept l place + j) ≡ slice_index (words_in kept.buckets place) j
  copy_beside place j differ some low = marked_beside site kept l (target_of d) shift.copy refl (with_copy_ready kept shift) place j differ low ∙ ready_beside place j differ some low

  pub copy_value : value_in (with_copy_ready kept shift) (at site kept l (target_of d)) to ≡ value_in (with_copy_ready kept shift) (at site kept l (source_of d)) from
  copy_value =
      ap (λ z. value_in (with_copy_ready kept shift) z to) (sym (at_is site kept l (target_of d)))
      ∙ prepares_record.value site.shape (kept_words kept) kept.segment c to_lock number shift.copy copy_fits
      ∙ sym (ap (with_copy_ready kept shift) (value_place (at site kept l (source_of d)) from)
      ∙ ready_beside (source_of d) (5 + 2 * from) (leaves d) (omega arith) (let low = can.from_low in omega (arith, low)))

  pub copy_takes : TakesSlot site.shape c to key (with_copy_ready kept shift (at site kept l (target_of d) + 1)) shift.copy.mark
  copy_takes =
      let a = arrives d (slice_index target 1) to ((all (target_of d)).small 1) can.to_low in
      subst (λ w. TakesSlot site.shape c to key w shift.copy.mark) (sym ready_meta)
      (record { others = a.others; taken = a.taken; stands = copy_stands site.shape d kept.hash key (member to shift.copy.mark) a.has_bit can.home; overflow = a.upper })

  -- the record stands at its source, in words that have that bucket as it is kept
  module _ (word : Words) (same : (j : ℕ) → 1 ≤ j → j < 32 → word (at site kept l (source_of d) + j) ≡ slice_index source j) where
    stands_there : Hit site.shape word kept.segment b from key
    stands_there = let low = can.from_low in record {
      segment = l.within;
      bucket = bucket_near kept.hash (source_of d);
      slot = can.from_low;
      taken = ap (allocated from) (same 1 (omega arith) (omega arith)) ∙ can.taken;
      key = ap word (key_place (at site kept l (source_of d)) from) ∙ same (4 + 2 * from) (omega arith) (omega (arith, low));
    }

  pub source_ready : Hit site.shape (with_copy_ready kept shift) kept.segment b from key
  source_ready = stands_there (with_copy_ready kept shift) (λ j some low. ready_beside (source_of d) j (leaves d) some low)

  pub source_stands : Hit site.shape (with_copy kept shift) kept.segment b from key
  source_stands = stands_there (with_copy kept shift) (λ j some low. copy_beside (source_of d) j (leaves d) some low)

  pub copy_stood : Hit site.shape (with_copy kept shift) kept.segment c to key
  copy_stood = subst (λ z. Hit site.shape (with_word (with_copy_ready kept shift) (z + 1) shift.copy.mark) kept.segment c to key) (sym (at_is site kept l (target_of d)))
      (publish_tells.taken site.shape (with_copy_ready kept shift) kept.segment c to key shift.copy.mark copy_ready
      (arrives d (slice_index target 1) to ((all (target_of d)).small 1) can.to_low).taken)

  -- ---- its source is cleared
  -- the metadata word of the source, as it was loaded
  abbrev w1 : ℕ
  w1 = slice_index source 1

  pub clear_frees : FreesSlot from (with_copy kept shift (at site kept l (source_of d) + 1)) shift.clearing.mark
  clear_frees =
      let f = frees_slot w1 from can.from_low in
      subst (λ w. FreesSlot from w shift.clearing.mark) (sym (copy_beside (source_of d) 1 (leaves d) (omega arith) (omega arith)))
      (record { others = f.others; free = f.is_free; overflow = removed_upper w1 from ((all (source_of d)).small 1) can.from_low })

  pub clear_meta : with_clearing kept shift (from_lock + 1) ≡ removed_mark w1 from
  clear_meta = replaced_same (with_copy kept shift) (from_lock + 1) (removed_mark w1 from)

  other_word : (a j : ℕ) → 2 ≤ j → a + j ≡ a + 1 → ⊥
  other_word a j some e = omega (arith, some, e)

  pub clear_rest : (j : ℕ) → 2 ≤ j → j < 32 → with_clearing kept shift (from_lock + j) ≡ slice_index source j
  clear_rest j some low =
      replaced_other (with_copy kept shift) (from_lock + 1) (removed_mark w1 from) (from_lock + j) (other_word from_lock j some)
      ∙ ap (λ z. with_copy kept shift (z + j)) (at_is site kept l (source_of d))
      ∙ copy_beside (source_of d) j (leaves d) (omega (arith, some)) low

  -- ---- the new record
  pub insert_fits : FitsSlot site.shape (with_clearing kept shift) kept.segment b from_lock shift.insert (finger_of kept.hash)
  insert_fits = record {
    segment = l.within;
    bucket = bucket_near kept.hash (source_of d);
    at = at_is site kept l (source_of d);
    slot = can.from_low;
    is_free = ap (allocated from) clear_meta ∙ (frees_slot w1 from can.from_low).is_free;
    small = omega arith;
    fingers = let near = place_near from in ap (λ x. with_finger x from (finger_of kept.hash)) (sym (clear_rest (finger_place from) near.0 (let n = near.1 in omega (arith, n))));
  }

  insert_meta : with_insert_ready kept shift (at site kept l (source_of d) + 1) ≡ removed_mark w1 from
  insert_meta = ap (λ z. with_insert_ready kept shift (z + 1)) (sym (at_is site kept l (source_of d)))
      ∙ prepares_record.meta site.shape (with_clearing kept shift) kept.segment b from_lock (finger_of kept.hash) shift.insert insert_fits ∙ clear_meta

  pub insert_value : value_in (with_insert_ready kept shift) (at site kept l (source_of d)) from ≡ brought kept.change.effect
  insert_value = ap (λ z. value_in (with_insert_ready kept shift) z from) (sym (at_is site kept l (source_of d)))
      ∙ prepares_record.value site.shape (with_clearing kept shift) kept.segment b from_lock (finger_of kept.hash) shift.insert insert_fits

  module _ (hashed : kept.hash ≡ key_hash site.shape kept.change.key) where
    pub insert_ready : IsReadyAt site.shape (with_insert_ready kept shift) kept.segment b from kept.change.key
    insert_ready = prepares_record.ready site.shape (with_clearing kept shift) kept.segment b from_lock (finger_of kept.hash) shift.insert insert_fits (ap finger_of hashed)

    pub insert_takes : TakesSlot site.shape b from kept.change.key (with_insert_ready kept shift (at site kept l (source_of d) + 1)) shift.insert.mark
    insert_takes =
        let small = removed_fits w1 from ((all (source_of d)).small 1) can.from_low in
        let a = arrives d (removed_mark w1 from) from small can.from_low in
        subst (λ w. TakesSlot site.shape b from kept.change.key w shift.insert.mark) (sym insert_meta)
        (record { others = a.others; taken = a.taken; stands = insert_stands site.shape d kept.hash kept.change.key (member from shift.insert.mark) a.has_bit hashed; overflow = a.upper })

    pub insert_stood : Hit site.shape (with_insert kept shift) kept.segment b from kept.change.key
    insert_stood = subst (λ z. Hit site.shape (with_word (with_insert_ready kept shift) (z + 1) shift.insert.mark) kept.segment b from kept.change.key) (sym (at_is site kept l (source_of d)))
        (publish_tells.taken site.shape (with_insert_ready kept shift) kept.segment b from kept.change.key shift.insert.mark insert_ready
        (let small = removed_fits w1 from ((all (source_of d)).small 1) can.from_low in (arrives d (removed_mark w1 from) from small can.from_low).taken))
