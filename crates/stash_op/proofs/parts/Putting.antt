-- Words alone are put into the memory, and words of the image and those right behind it are asked for.
use Rattle.std.proofs.Common.{◌≡◌, ℕ, ◌+◌, ◌%◌, ◌^◌, ◌<◌, Option, Some, None, List, refl, sym, subst, arith, slice_index}
use Rattle.std.specs.Prelude.{◌==◌}
use Rattle.hash_word.specs.Hash.{finger_of}
use Rattle.bucket_meta.specs.Marks.{finger_place}
use Rattle.bucket_meta.specs.NoteWords.{unused_place, noted_fingers, raised_count}
use Rattle.bucket_meta.proofs.Fingers.{finger_below}
use Rattle.bucket_meta.proofs.notes.Noted.{noted_fits}
use Rattle.bucket_meta.proofs.fields.Uppers.{inserted_fits}
use Rattle.image_layout.specs.Places.{Shape, IsShape}
use Rattle.image_layout.specs.Volatile.{all_words_of}
use Rattle.world.specs.Ground.{Ground}
use Rattle.world.specs.Views.{View}
use Rattle.world.specs.Wants.{word_of}
use Rattle.part.specs.Asks.{IsWithin, PutsWord}
use Rattle.phase.specs.declared.role.Role.{Role}
use Rattle.phase.specs.declared.role.Role.TheVariants as place
use Rattle.phase.specs.declared.make.Record.{Record}
use Rattle.phase.specs.declared.kept.Kept.{Kept}
use Rattle.phase.specs.Makes.{brought}
use Rattle.phase.specs.Helds.{give_next}
use Rattle.phase.specs.Buckets.{words_in}
use Rattle.phase.specs.AreWords.{AreWords}
use Rattle.phase.proofs.asking.Events.{puts_word, IsSmall, make_small, IsInBucket, FlushesWithin, asks_within, here_within, make_within, take_within, give_within, make_line, take_line, give_line}
use Rattle.phase.proofs.Wanting.{number_of, take_small, give_small}
use Rattle.stash_op.specs.declared.step.NoteBucket.{NoteBucket}
use Rattle.stash_op.specs.declared.step.NoteBucket.TheVariants.{Home, Probing}
use Rattle.stash_op.specs.declared.step.NoteWords.{NoteWords}
use Rattle.stash_op.specs.declared.step.Seen.{Seen}
use Rattle.phase.specs.declared.note.NoteWord.{NoteWord}
use Rattle.phase.specs.declared.note.NoteWord.TheVariants.{Mark, Fingers}
use Rattle.phase.proofs.Wording.{either_small}
use Rattle.stash_op.specs.declared.step.StashStep.{StashStep}
use Rattle.stash_op.specs.declared.step.StashStep.TheVariants.{Lock, Fill, Note, Draw, CountSpent, Give, Ended}
use Rattle.stash_op.specs.declared.step.StashStep.TheVariants as step
use Rattle.stash_op.specs.Search.{place_of, index_of, side_of, note_place, noted_or, noted}
use Rattle.stash_op.specs.Steps.{lock_of, note_wanted, wanted_in}
use Rattle.stash_op.specs.Fits.{IsChosen, SuitsStep, IsIn}
use Rattle.stash_op.proofs.finding.Standing.{located}
use Rattle.stash_op.proofs.finding.Chosen.{slot_low, key_is, value_is, published_is, mark_is}
use Rattle.stash_op.proofs.permitting.Filled.{unused_is}

-- ---- the note
fingers_small : (w i finger : ℕ) → w < 2 ^ 64 → finger < 2 ^ 8 → noted_fingers w i finger < 2 ^ 64
fingers_small w i finger fits small = either_small (i == 0) _ _ (finger_below w 6 finger small) (either_small (i == 1) _ w (finger_below w 7 finger small) fits)

pub record NoteIsSmall (n : NoteWords) : Type 0 where
  pub mark : n.mark < 2 ^ 64
  pub fingers : n.fingers < 2 ^ 64

noted_small : (bucket : NoteBucket) (words : List ℕ) (finger index : ℕ) → finger < 2 ^ 8 → (a : Option ℕ) → unused_place (slice_index words 1) ≡ a → (rest : NoteWords) → AreWords words → NoteIsSmall rest
    → NoteIsSmall (noted_or bucket words finger index a rest)
noted_small bucket words finger index small (Some i) e rest w r = record {
  mark = noted_fits (slice_index words 1) i (side_of bucket) finger index (w.small 1) (unused_is (slice_index words 1) i e).1 small;
  fingers = fingers_small (slice_index words 3) i finger (w.small 3) small;
}
noted_small bucket words finger index small None e rest w r = r

module _ (kept : Kept) (seen : Seen) (all : (p : Role) → AreWords (words_in seen.buckets p)) where
  abbrev finger : ℕ
  finger = finger_of kept.hash

  abbrev index : ℕ
  index = index_of seen.bucket

  abbrev counted : NoteWords
  counted = record { bucket = Home; mark = raised_count (slice_index seen.buckets.home 1); fingers = slice_index seen.buckets.home 3 }

  counted_small : NoteIsSmall counted
  counted_small = record { mark = omega arith; fingers = (all place.Home).small 3 }

  note_small : NoteIsSmall (noted kept.hash seen)
  note_small = noted_small Home seen.buckets.home finger index (omega arith) (unused_place (slice_index seen.buckets.home 1)) refl
      (noted_or Probing seen.buckets.probing finger index (unused_place (slice_index seen.buckets.probing 1)) counted) (all place.Home)
      (noted_small Probing seen.buckets.probing finger index (omega arith) (unused_place (slice_index seen.buckets.probing 1)) refl counted (all place.Probing) counted_small)

module _ (site : Ground) (kept : Kept) (is : IsIn site kept) (seen : Seen) (v : View) (all : (p : Role) → AreWords (words_in seen.buckets p)) (key : kept.change.key < 2 ^ 64) (value : brought kept.change.effect < 2 ^ 64) where
  written_small : IsChosen site kept seen → IsSmall seen.written
  written_small c = record {
    key = subst (λ x. x < 2 ^ 64) (sym (key_is site kept seen c)) key;
    value = subst (λ x. x < 2 ^ 64) (sym (value_is site kept seen c)) value;
    fingers = subst (λ (w : Record). w.fingers < 2 ^ 64) (sym c.written)
        (finger_below (slice_index (words_in seen.buckets (place_of seen.bucket)) (finger_place seen.written.slot)) seen.written.slot (finger_of kept.hash) (omega arith));
    mark = subst (λ x. x < 2 ^ 64) (sym (mark_is site kept seen c))
        (inserted_fits (slice_index (words_in seen.buckets (place_of seen.bucket)) 1) seen.written.slot ((all (place_of seen.bucket)).small 1) (slot_low site kept seen c));
  }

  note_by : (part : NoteWord) → number_of (note_wanted kept part (noted kept.hash seen)) < 2 ^ 64
  note_by Mark = (note_small kept seen all).mark
  note_by Fingers = (note_small kept seen all).fingers

  small_in : (s : StashStep) → SuitsStep site kept seen s v → number_of (wanted_in kept seen s) < 2 ^ 64
  small_in (Lock b t) suits = take_small (lock_of kept (place_of b)) t
  small_in (Fill b load) suits = omega arith
  small_in (step.Make m) suits = make_small (lock_of kept (place_of seen.bucket)) seen.written m (written_small suits.chosen)
  small_in (Note part) suits = note_by part
  small_in Draw suits = omega arith
  small_in CountSpent suits = omega arith
  small_in (Give held end) suits = give_small kept.site kept.hash kept.segment (give_next held)
  small_in (Ended end) suits = omega arith

  pub puts_in : (s : StashStep) → SuitsStep site kept seen s v → PutsWord (wanted_in kept seen s)
  puts_in s suits = puts_word (wanted_in kept seen s) (small_in s suits)

-- ---- words of the image
module _ (site : Ground) (kept : Kept) (is : IsIn site kept) (seen : Seen) (shape : IsShape kept.site.geometry) where
  abbrev g : Shape
  g = kept.site.geometry

  within_here : (p : Role) (n : ℕ) → n < 32 → lock_of kept p + n < all_words_of g
  within_here = here_within kept.site kept.hash kept.segment shape

  -- the record that is stored lies in its bucket
  written_in : IsChosen site kept seen → IsInBucket seen.written
  written_in c = record { slot = slot_low site kept seen c; published = (let w = published_is site kept seen c in omega (arith, w)) }

  note_within : (part : NoteWord) (n : NoteWords) → word_of g (note_wanted kept part n) < all_words_of g
  note_within Mark n = within_here (note_place n.bucket) 1 (omega arith)
  note_within Fingers n = within_here (note_place n.bucket) 3 (omega arith)

  within_in : (v : View) (s : StashStep) → SuitsStep site kept seen s v → word_of g (wanted_in kept seen s) < all_words_of g
  within_in v (Lock b t) suits = take_within kept.site kept.hash kept.segment shape (place_of b) t
  within_in v (Fill b load) suits = within_here (place_of b) (load.next % 32) (omega arith)
  within_in v (step.Make m) suits = make_within kept.site kept.hash kept.segment shape (place_of seen.bucket) seen.written m (written_in suits.chosen)
  within_in v (Note part) suits = note_within part (noted kept.hash seen)
  within_in v Draw suits = omega arith
  within_in v CountSpent suits = omega arith
  within_in v (Give held end) suits = give_within kept.site kept.hash kept.segment shape (give_next held)
  within_in v (Ended end) suits = omega arith

  -- a line that is flushed
  note_line : (part : NoteWord) (n : NoteWords) → FlushesWithin g (note_wanted kept part n)
  note_line Mark n = tt
  note_line Fingers n = tt

  line_in : (v : View) (s : StashStep) → SuitsStep site kept seen s v → FlushesWithin g (wanted_in kept seen s)
  line_in v (Lock b t) suits = take_line kept.site kept.hash kept.segment shape (place_of b) t
  line_in v (Fill b load) suits = tt
  line_in v (step.Make m) suits =
      make_line kept.site kept.hash kept.segment shape site (located site kept is suits.all.there.within) (place_of seen.bucket) seen.written m (written_in suits.chosen)
  line_in v (Note part) suits = note_line part (noted kept.hash seen)
  line_in v Draw suits = tt
  line_in v CountSpent suits = tt
  line_in v (Give held end) suits = give_line kept.site kept.hash kept.segment shape (give_next held)
  line_in v (Ended end) suits = tt

  pub asks_in : (v : View) (s : StashStep) → SuitsStep site kept seen s v → IsWithin g (wanted_in kept seen s)
  asks_in v s suits = asks_within g (wanted_in kept seen s) (within_in v s suits) (line_in v s suits)
