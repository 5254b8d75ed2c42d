-- The record that is chosen can move: in the newest words its segment owns it, so it stands right, and its membership bit tells its home.
use Rattle.std.proofs.Common.{◌≡◌, ◌⊎◌, ℕ, ◌+◌, ◌*◌, ◌<◌, ◌≤◌, Option, None, Some, inl, inr, refl, sym, ap, ◌∙◌, subst, arith, List, slice_index}
use Rattle.hash_word.specs.Hash.{home_of, probing_of, previous_of}
use Rattle.bucket_meta.specs.Bucket.{allocated, member, finger}
use Rattle.bucket_meta.specs.Search.{lowest_free}
use Rattle.bucket_meta.proofs.Found.{free_at}
use Rattle.trace.specs.Events.{Words}
use Rattle.image_layout.specs.Places.{homes}
use Rattle.sound_image.specs.Records.{key_hash}
use Rattle.bucket_words.specs.Hits.{Hit}
use Rattle.bucket_words.specs.Owners.{owner_of}
use Rattle.bucket_words.specs.Standing.{IsRight, IsTable}
use Rattle.world.specs.Ground.{Ground}
use Rattle.phase.specs.declared.kept.Kept.{Kept}
use Rattle.phase.specs.Places.{bucket_of_role}
use Rattle.phase.specs.Buckets.{words_in}
use Rattle.phase.specs.Giving.{IsLocated}
use Rattle.phase.proofs.locks.Giving.{bucket_near}
use Rattle.move_op.specs.declared.step.Direction.{Direction}
use Rattle.move_op.specs.declared.step.Direction.TheVariants.{Forward, Backward}
use Rattle.move_op.specs.declared.step.Shift.{Shift}
use Rattle.move_op.specs.Shifts.{source_of, target_of, home_place, bit_of, lowest_of, moving_slot, shift_at, shift_by, shift_in}
use Rattle.move_op.specs.Order.{HasTurn, IsInOrder}
use Rattle.move_op.specs.Fits.{CanMove, IsShift}
use Rattle.move_op.proofs.Slots.{HasBit, found_slot, found_lowest}
use Rattle.move_op.proofs.shifting.Beside.{key_place, at}
use Rattle.sound_image.proofs.Hashes.{home_of-below}

-- a bucket whose probing bucket is this one is the one before it
back : (h m : ℕ) → m < 64 → h ≡ probing_of m → previous_of h ≡ m
back h m low e = omega (arith, low, e)

-- where a record with this bit stands in the bucket that it may leave, its home is the one that the direction says
home_is : (direction : Direction) (hash g bit : ℕ) → bit ≡ bit_of direction
    → ((bucket_of_role hash (source_of direction) ≡ home_of g) × (bit ≡ 0)) ⊎ ((bucket_of_role hash (source_of direction) ≡ probing_of (home_of g)) × (bit ≡ 1)) ⊎ (homes ≤ bucket_of_role hash (source_of direction))
    → bucket_of_role hash (home_place direction) ≡ home_of g
home_is Forward hash g bit is stands = elim stands [
  | inl home ↦ home.0
  | inr more ↦ elim more [
    | inl probing ↦ absurd (let one = probing.1 in omega (arith, one, is))
    | inr stash ↦ absurd (omega (arith, stash))
  ]
]
home_is Backward hash g bit is stands = elim stands [
  | inl home ↦ absurd (let none = home.1 in omega (arith, none, is))
  | inr more ↦ elim more [
    | inl probing ↦ back (home_of hash) (home_of g) (home_of-below g) probing.0
    | inr stash ↦ absurd (omega (arith, stash))
  ]
]

module _ (site : Ground) (kept : Kept) (d : Direction) (l : IsLocated site kept.site kept.segment) (words : Words) (table : IsTable site.shape words)
    (own : (r k : ℕ) → Hit site.shape words kept.segment (bucket_of_role kept.hash (source_of d)) r k → owner_of site.shape words (key_hash site.shape k) ≡ Some kept.segment)
    (newest : (j : ℕ) → 1 ≤ j → j < 32 → words (at site kept l (source_of d) + j) ≡ slice_index (words_in kept.buckets (source_of d)) j) where
  abbrev source : List ℕ
  source = words_in kept.buckets (source_of d)

  abbrev w1 : ℕ
  w1 = slice_index source 1

  module _ (from to : ℕ) (taken : lowest_of (bit_of d) w1 ≡ Some from) (free : lowest_free (slice_index (words_in kept.buckets (target_of d)) 1) ≡ Some to) where
    abbrev key : ℕ
    key = slice_index source (4 + 2 * from)

    found : HasBit (bit_of d) w1 from × (from < 14)
    found = found_slot (bit_of d) w1 from taken

    hit : Hit site.shape words kept.segment (bucket_of_role kept.hash (source_of d)) from key
    hit = let low = found.1 in record {
      segment = l.within;
      bucket = bucket_near kept.hash (source_of d);
      slot = found.1;
      taken = ap (allocated from) (newest 1 (omega arith) (omega arith)) ∙ found.0.taken;
      key = ap words (key_place (at site kept l (source_of d)) from) ∙ newest (4 + 2 * from) (omega arith) (omega (arith, low));
    }

    right : IsRight site.shape words kept.segment (bucket_of_role kept.hash (source_of d)) from key
    right = table.stands kept.segment (bucket_of_role kept.hash (source_of d)) from key hit (own from key hit)

    can_move : CanMove site kept d from to
    can_move =
        let f = free_at (slice_index (words_in kept.buckets (target_of d)) 1) to free in
        record {
          from_low = found.1;
          to_low = f.1;
          taken = found.0.taken;
          is_free = f.0;
          home = home_is d kept.hash (key_hash site.shape key) (member from (words (at site kept l (source_of d) + 1))) (ap (member from) (newest 1 (omega arith) (omega arith)) ∙ found.0.same) right.bucket;
          fingerprint = ap (λ x. finger from x (slice_index source 3)) (sym (newest 2 (omega arith) (omega arith)))
              ∙ ap (λ x. finger from (words (at site kept l (source_of d) + 2)) x) (sym (newest 3 (omega arith) (omega arith)))
              ∙ right.fingerprint;
        }

    in_order : HasTurn d kept → IsInOrder kept (shift_at kept d from to)
    in_order turn = record {
      turn = turn;
      source = record { within = found.1; taken = found.0.taken; bit = found.0.same };
      lowest = λ slot below may. found_lowest (bit_of d) w1 from taken slot below (record { taken = may.taken; same = may.bit });
      target = free;
    }

  -- by the two searches
  shift_is : HasTurn d kept → (from to : Option ℕ) → lowest_free (slice_index (words_in kept.buckets (target_of d)) 1) ≡ to → moving_slot d w1 to ≡ from → (shift : Shift) → shift_by kept d from to ≡ Some shift → IsShift site kept shift
  shift_is turn (Some from) (Some to) free taken shift e =
      let same : shift_at kept d from to ≡ shift = cc in
      subst (λ (s : Shift). IsShift site kept s) same (record { from = from; to = to; same = refl; can = can_move from to taken free; order = in_order from to taken free turn })
  shift_is turn (Some from) None free taken shift e = absurd (let z : None ≡ Some shift = e in cc)
  shift_is turn None to free taken shift e = absurd (let z : None ≡ Some shift = e in cc)

  toward : (from to : Option ℕ) (shift : Shift) → shift_by kept d from to ≡ Some shift → shift.direction ≡ d
  toward (Some from) (Some to) shift e = let same : shift_at kept d from to ≡ shift = cc in ap (λ (s : Shift). s.direction) (sym same)
  toward (Some from) None shift e = absurd (let z : None ≡ Some shift = e in cc)
  toward None to shift e = absurd (let z : None ≡ Some shift = e in cc)

  pub shift_toward : (shift : Shift) → shift_in kept d ≡ Some shift → shift.direction ≡ d
  shift_toward shift e = toward (moving_slot d w1 (lowest_free (slice_index (words_in kept.buckets (target_of d)) 1))) (lowest_free (slice_index (words_in kept.buckets (target_of d)) 1)) shift e

  -- THE SHIFT THAT IS CHOSEN is that of a record that can move
  pub chosen_shifts : HasTurn d kept → (shift : Shift) → shift_in kept d ≡ Some shift → IsShift site kept shift
  chosen_shifts turn shift e = shift_is turn (moving_slot d w1 (lowest_free (slice_index (words_in kept.buckets (target_of d)) 1))) (lowest_free (slice_index (words_in kept.buckets (target_of d)) 1)) refl refl shift e
