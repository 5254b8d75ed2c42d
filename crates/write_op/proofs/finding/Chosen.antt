-- The spot that a change chose: its bucket is held, its slot is one of the bucket, and the record that is stored fits it.
use Rattle.std.proofs.Common.{◌≡◌, ◌⊎◌, ℕ, ◌+◌, ◌<◌, ◌≤◌, true, inl, inr, refl, sym, ap, ◌∙◌, subst, arith, slice_index}
use Rattle.hash_word.specs.Hash.{finger_of}
use Rattle.bucket_meta.specs.Bucket.{allocated, record_slots}
use Rattle.bucket_meta.specs.Marks.{finger_place, with_finger}
use Rattle.bucket_meta.proofs.Found.{found_with, free_at}
use Rattle.image_layout.specs.Places.{bucket_at}
use Rattle.map_model.specs.declared.change.Effect.{Effect}
use Rattle.map_model.specs.declared.change.Effect.TheVariants.{Insert, Update, Remove}
use Rattle.world.specs.Ground.{Ground}
use Rattle.phase.specs.declared.role.Role.{Role}
use Rattle.phase.specs.declared.role.Role.TheVariants.{Home, Probing}
use Rattle.phase.specs.declared.make.Record.{Record}
use Rattle.phase.specs.Places.{bucket_of_role}
use Rattle.phase.specs.Buckets.{words_in}
use Rattle.phase.specs.Giving.{IsLocated, IsHeld}
use Rattle.phase.specs.Making.{FitsSlot}
use Rattle.phase.proofs.locks.Giving.{lock_at, bucket_near}
use Rattle.phase.proofs.locks.Finding.{words_stand}
use Rattle.phase.proofs.locks.Storing.{place_near}
use Rattle.write_op.specs.declared.step.Task.{Task}
use Rattle.write_op.specs.declared.step.Spot.{Spot}
use Rattle.write_op.specs.declared.step.Seen.{Seen}
use Rattle.write_op.specs.Search.{found, record_at}
use Rattle.write_op.specs.Steps.{lock_of}
use Rattle.write_op.specs.Fits.{is_asked, HoldsUpto, IsSpot, IsChosen, loaded}
use Rattle.write_op.proofs.finding.Searching.{IsFound, found_some}
use Rattle.write_op.proofs.finding.Rooms.{IsRoom, room_some}
use Rattle.write_op.proofs.finding.Finding.{asked_held}

module _ (site : Ground) (task : Task) (seen : Seen) (upto : HoldsUpto seen 4) (c : IsChosen site task seen) where
  abbrev pub spot : Spot
  spot = record { place = seen.place; slot = seen.written.slot }

  -- by what it does
  pub is_spot : (d : Effect) → task.change.effect ≡ d → IsSpot site task seen d (found seen task.change.key)
  is_spot d e = subst (λ (z : Effect). IsSpot site task seen z (found seen task.change.key)) e c.spot

  pub update_found : (value : ℕ) → task.change.effect ≡ Update value → IsFound seen task.change.key spot
  update_found value e = found_some seen task.change.key spot (is_spot (Update value) e)

  pub remove_found : task.change.effect ≡ Remove → IsFound seen task.change.key spot
  remove_found e = found_some seen task.change.key spot (is_spot Remove e)

  pub room_free : (value : ℕ) → task.change.effect ≡ Insert value → IsRoom seen.buckets spot
  room_free value e = room_some seen.buckets spot (is_spot (Insert value) e).1

  near_asked : (p : Role) → (p ≡ Home) ⊎ (p ≡ Probing) → is_asked seen p ≡ true
  near_asked p (inl home) = ap (is_asked seen) home
  near_asked p (inr probing) = ap (is_asked seen) probing

  -- its bucket is held
  held_by : (d : Effect) → task.change.effect ≡ d → IsHeld seen.held seen.place
  held_by (Insert value) e = asked_held seen upto seen.place (near_asked seen.place (room_free value e).near)
  held_by (Update value) e = asked_held seen upto seen.place (update_found value e).asked
  held_by Remove e = asked_held seen upto seen.place (remove_found e).asked

  pub place_held : IsHeld seen.held seen.place
  place_held = held_by task.change.effect refl

  -- and its slot is one of it
  low_by : (d : Effect) → task.change.effect ≡ d → seen.written.slot < record_slots
  low_by (Insert value) e = (free_at (slice_index (words_in seen.buckets seen.place) 1) seen.written.slot (room_free value e).slot).1
  low_by (Update value) e = (found_with (words_in seen.buckets seen.place) task.change.key seen.written.slot (update_found value e).slot).1
  low_by Remove e = (found_with (words_in seen.buckets seen.place) task.change.key seen.written.slot (remove_found e).slot).1

  pub slot_low : seen.written.slot < record_slots
  slot_low = low_by task.change.effect refl

  -- what is stored
  pub written_is : seen.written ≡ record_at task seen.buckets spot
  written_is = c.written

  module _ (at : IsLocated site task.site seen.path.segment) where
    abbrev lock : ℕ
    lock = lock_of task seen seen.place

    pub word_here : (j : ℕ) → 1 ≤ j → j < 32 → loaded task seen (lock + j) ≡ slice_index (words_in seen.buckets seen.place) j
    word_here j from low = words_stand site task.site task.hash seen.path.segment seen.buckets seen.place at j from low

    pub lock_is : lock ≡ bucket_at site.shape seen.path.segment (bucket_of_role task.hash seen.place)
    lock_is = lock_at site task.site task.hash seen.path.segment at seen.place

    free_here : (value : ℕ) → task.change.effect ≡ Insert value → allocated seen.written.slot (loaded task seen (lock + 1)) ≡ 0
    free_here value e =
        let there = free_at (slice_index (words_in seen.buckets seen.place) 1) seen.written.slot (room_free value e).slot in
        ap (allocated seen.written.slot) (word_here 1 (omega arith) (omega arith)) ∙ there.0

    -- an insert's record fits its slot
    pub fits_slot : (value : ℕ) → task.change.effect ≡ Insert value
        → FitsSlot site.shape (loaded task seen) seen.path.segment (bucket_of_role task.hash seen.place) lock seen.written (finger_of task.hash)
    fits_slot value e = record {
      segment = at.within;
      bucket = bucket_near task.hash seen.place;
      at = lock_is;
      slot = slot_low;
      is_free = free_here value e;
      small = omega arith;
      fingers =
          let near = place_near seen.written.slot in
          ap (λ (w : Record). w.fingers) written_is
          ∙ ap (λ x. with_finger x seen.written.slot (finger_of task.hash)) (sym (word_here (finger_place seen.written.slot) (let a = near.0 in omega (arith, a)) (let b = near.1 in omega (arith, b))));
    }
