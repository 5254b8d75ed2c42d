-- What is stored are words, and the words that are asked for lie in the image or right behind it.
use Rattle.std.proofs.Common.{ℕ, ◌+◌, ◌*◌, ◌%◌, ◌^◌, ◌<◌, sym, subst, arith, slice_index}
use Rattle.hash_word.specs.Hash.{finger_of}
use Rattle.bucket_meta.specs.Marks.{finger_place, removed_mark}
use Rattle.bucket_meta.proofs.Fingers.{finger_below}
use Rattle.bucket_meta.proofs.fields.Uppers.{removed_fits}
use Rattle.image_layout.specs.Places.{Shape, IsShape}
use Rattle.image_layout.specs.Volatile.{all_words_of}
use Rattle.map_model.specs.declared.call.Call.{Call}
use Rattle.world.specs.declared.site.Site.{Site}
use Rattle.world.specs.Ground.{Ground}
use Rattle.world.specs.Views.{View}
use Rattle.world.specs.Wants.{word_of}
use Rattle.part.specs.Asks.{IsWithin, PutsWord}
use Rattle.phase.specs.declared.kept.Kept.{Kept}
use Rattle.phase.specs.Helds.{give_next}
use Rattle.phase.specs.Buckets.{words_in}
use Rattle.phase.specs.Keeps.{IsOfCall}
use Rattle.phase.proofs.asking.Events.{puts_word, IsSmall, make_small, IsInBucket, FlushesWithin, asks_within, here_within, make_within, take_within, give_within, make_line, take_line, give_line}
use Rattle.phase.proofs.Wanting.{number_of, take_small, give_small}
use Rattle.move_op.specs.declared.step.Direction.{Direction}
use Rattle.move_op.specs.declared.step.Shift.{Shift}
use Rattle.move_op.specs.declared.step.Leg.{Leg}
use Rattle.move_op.specs.declared.step.Leg.TheVariants.{Copy, Clear, Insert}
use Rattle.move_op.specs.declared.step.MoveStep.{MoveStep}
use Rattle.move_op.specs.declared.step.MoveStep.TheVariants.{Lock, Fill, CountSpent, Draw, Give, Ended}
use Rattle.move_op.specs.declared.step.MoveStep.TheVariants as step
use Rattle.move_op.specs.Shifts.{source_of, target_of, shift_at, place_of, record_of}
use Rattle.move_op.specs.Steps.{lock_of, lock_at, wanted_in}
use Rattle.move_op.specs.Fits.{CanMove, IsShift, SuitsStep}
use Rattle.move_op.proofs.shifting.Marks.{arrives}
use Rattle.move_op.proofs.keeping.Storing.{slot_low, published_one}

-- ---- what is stored of a shift
module _ (site : Ground) (here : Site) (call : Call) (kept : Kept) (whose : IsOfCall here call kept) where
  module _ (d : Direction) (from to : ℕ) (can : CanMove site kept d from to) where
    small_by : (leg : Leg) → IsSmall (record_of (shift_at kept d from to) leg)
    small_by Copy = record {
      key = (whose.buckets (source_of d)).small (4 + 2 * from);
      value = (whose.buckets (source_of d)).small (5 + 2 * from);
      fingers = finger_below (slice_index (words_in kept.buckets (target_of d)) (finger_place to)) to _ (subst (λ f. f < 256) (sym can.fingerprint) (omega arith));
      mark = (arrives d (slice_index (words_in kept.buckets (target_of d)) 1) to ((whose.buckets (target_of d)).small 1) can.to_low).fits;
    }
    small_by Clear = record {
      key = omega arith;
      value = omega arith;
      fingers = omega arith;
      mark = removed_fits (slice_index (words_in kept.buckets (source_of d)) 1) from ((whose.buckets (source_of d)).small 1) can.from_low;
    }
    small_by Insert = record {
      key = whose.key;
      value = whose.value;
      fingers = finger_below (slice_index (words_in kept.buckets (source_of d)) (finger_place from)) from (finger_of kept.hash) (omega arith);
      mark =
          let w1 : ℕ = slice_index (words_in kept.buckets (source_of d)) 1 in
          let small = removed_fits w1 from ((whose.buckets (source_of d)).small 1) can.from_low in
          (arrives d (removed_mark w1 from) from small can.from_low).fits;
    }

  small_record : (shift : Shift) → IsShift site kept shift → (leg : Leg) → IsSmall (record_of shift leg)
  small_record shift is leg = subst (λ (s : Shift). IsSmall (record_of s leg)) (sym is.same) (small_by shift.direction is.from is.to is.can leg)

  small_in : (v : View) (s : MoveStep) → SuitsStep site kept s v → number_of (wanted_in kept s) < 2 ^ 64
  small_in v (Lock d t) suits = take_small (lock_of kept (target_of d)) t
  small_in v (Fill d load) suits = omega arith
  small_in v CountSpent suits = omega arith
  small_in v (step.Make shift leg m) suits = make_small (lock_at kept shift leg) (record_of shift leg) m (small_record shift suits.all.shifts leg)
  small_in v (Draw shift) suits = omega arith
  small_in v (Give held end) suits = give_small kept.site kept.hash kept.segment (give_next held)
  small_in v (Ended end) suits = omega arith

  pub puts_in : (v : View) (s : MoveStep) → SuitsStep site kept s v → PutsWord (wanted_in kept s)
  puts_in v s suits = puts_word (wanted_in kept s) (small_in v s suits)

-- ---- words of the image
module _ (site : Ground) (kept : Kept) (shape : IsShape kept.site.geometry) where
  abbrev g : Shape
  g = kept.site.geometry

  -- the record that is stored lies in its bucket
  stored_in : (shift : Shift) → IsShift site kept shift → (leg : Leg) → IsInBucket (record_of shift leg)
  stored_in shift is leg = record { slot = slot_low site kept shift is leg; published = (let one = published_one site kept shift is leg in omega (arith, one)) }

  within_in : (v : View) (s : MoveStep) → SuitsStep site kept s v → word_of g (wanted_in kept s) < all_words_of g
  within_in v (Lock d t) suits = take_within kept.site kept.hash kept.segment shape (target_of d) t
  within_in v (Fill d load) suits = here_within kept.site kept.hash kept.segment shape (target_of d) (load.next % 32) (omega arith)
  within_in v CountSpent suits = omega arith
  within_in v (step.Make shift leg m) suits = make_within kept.site kept.hash kept.segment shape (place_of shift.direction leg) (record_of shift leg) m (stored_in shift suits.all.shifts leg)
  within_in v (Draw shift) suits = omega arith
  within_in v (Give held end) suits = give_within kept.site kept.hash kept.segment shape (give_next held)
  within_in v (Ended end) suits = omega arith

  -- a line that is flushed
  line_in : (v : View) (s : MoveStep) → SuitsStep site kept s v → FlushesWithin g (wanted_in kept s)
  line_in v (Lock d t) suits = take_line kept.site kept.hash kept.segment shape (target_of d) t
  line_in v (Fill d load) suits = tt
  line_in v CountSpent suits = tt
  line_in v (step.Make shift leg m) suits = make_line kept.site kept.hash kept.segment shape site suits.all.located (place_of shift.direction leg) (record_of shift leg) m (stored_in shift suits.all.shifts leg)
  line_in v (Draw shift) suits = tt
  line_in v (Give held end) suits = give_line kept.site kept.hash kept.segment shape (give_next held)
  line_in v (Ended end) suits = tt

  pub asks_in : (v : View) (s : MoveStep) → SuitsStep site kept s v → IsWithin g (wanted_in kept s)
  asks_in v s suits = asks_within g (wanted_in kept s) (within_in v s suits) (line_in v s suits)
