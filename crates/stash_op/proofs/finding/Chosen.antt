-- The slot that was chosen: it is one of the stash bucket, and free, and the record that is stored fits it.
use Rattle.std.proofs.Common.{◌≡◌, ℕ, ◌+◌, ◌<◌, ◌≤◌, List, sym, ap, ◌∙◌, subst, arith, slice_index}
use Rattle.hash_word.specs.Hash.{finger_of}
use Rattle.bucket_meta.specs.Bucket.{allocated, record_slots}
use Rattle.bucket_meta.specs.Marks.{inserted_mark, finger_place, with_finger}
use Rattle.bucket_meta.proofs.Found.{free_at}
use Rattle.image_layout.specs.Places.{bucket_at}
use Rattle.sound_image.specs.Records.{key_hash}
use Rattle.bucket_words.specs.TableChanges.{IsReadyAt}
use Rattle.world.specs.Ground.{Ground}
use Rattle.phase.specs.declared.role.Role.{Role}
use Rattle.phase.specs.declared.make.Record.{Record}
use Rattle.phase.specs.declared.kept.Kept.{Kept}
use Rattle.phase.specs.Places.{bucket_of_role}
use Rattle.phase.specs.Buckets.{words_in}
use Rattle.phase.specs.Giving.{IsLocated}
use Rattle.phase.specs.Making.{FitsSlot}
use Rattle.phase.proofs.locks.Giving.{lock_at, bucket_near}
use Rattle.phase.proofs.locks.Finding.{words_stand}
use Rattle.phase.proofs.locks.Storing.{place_near, prepares_record}
use Rattle.phase.specs.Makes.{brought}
use Rattle.stash_op.specs.declared.step.Seen.{Seen}
use Rattle.stash_op.specs.Search.{place_of}
use Rattle.stash_op.specs.Steps.{lock_of}
use Rattle.stash_op.specs.Fits.{loaded, prepared, IsChosen, IsIn}

module _ (site : Ground) (kept : Kept) (seen : Seen) (c : IsChosen site kept seen) where
  abbrev pub place : Role
  place = place_of seen.bucket

  abbrev words : List ℕ
  words = words_in seen.buckets place

  pub slot_low : seen.written.slot < record_slots
  slot_low = (free_at (slice_index words 1) seen.written.slot c.free).1

  pub slot_free : allocated seen.written.slot (slice_index words 1) ≡ 0
  slot_free = (free_at (slice_index words 1) seen.written.slot c.free).0

  -- what is stored
  pub key_is : seen.written.key ≡ kept.change.key
  key_is = ap (λ (w : Record). w.key) c.written

  pub value_is : seen.written.value ≡ brought kept.change.effect
  value_is = ap (λ (w : Record). w.value) c.written

  pub published_is : seen.written.published ≡ 1
  published_is = ap (λ (w : Record). w.published) c.written

  pub mark_is : seen.written.mark ≡ inserted_mark (slice_index words 1) seen.written.slot
  mark_is = ap (λ (w : Record). w.mark) c.written

  module _ (at : IsLocated site kept.site kept.segment) where
    abbrev lock : ℕ
    lock = lock_of kept place

    pub word_here : (j : ℕ) → 1 ≤ j → j < 32 → loaded kept seen (lock + j) ≡ slice_index words j
    word_here j from low = words_stand site kept.site kept.hash kept.segment seen.buckets place at j from low

    pub lock_is : lock ≡ bucket_at site.shape kept.segment (bucket_of_role kept.hash place)
    lock_is = lock_at site kept.site kept.hash kept.segment at place

    pub fits_slot : FitsSlot site.shape (loaded kept seen) kept.segment (bucket_of_role kept.hash place) lock seen.written (finger_of kept.hash)
    fits_slot = record {
      segment = at.within;
      bucket = bucket_near kept.hash place;
      at = lock_is;
      slot = slot_low;
      is_free = ap (allocated seen.written.slot) (word_here 1 (omega arith) (omega arith)) ∙ slot_free;
      small = omega arith;
      fingers =
          let near = place_near seen.written.slot in
          ap (λ (w : Record). w.fingers) c.written
          ∙ ap (λ x. with_finger x seen.written.slot (finger_of kept.hash)) (sym (word_here (finger_place seen.written.slot) (let a = near.0 in omega (arith, a)) (let b = near.1 in omega (arith, b))));
    }

    -- and stands ready there
    pub stands_ready : IsIn site kept → IsReadyAt site.shape (prepared kept seen) kept.segment (bucket_of_role kept.hash place) seen.written.slot kept.change.key
    stands_ready is = subst (λ k. IsReadyAt site.shape (prepared kept seen) kept.segment (bucket_of_role kept.hash place) seen.written.slot k) key_is
        (prepares_record.ready site.shape (loaded kept seen) kept.segment (bucket_of_role kept.hash place) lock (finger_of kept.hash) seen.written fits_slot
        (ap finger_of is.hash ∙ ap (λ k. finger_of (key_hash site.shape k)) (sym key_is)))
