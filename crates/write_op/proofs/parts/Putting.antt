-- A change puts words alone into the memory, and asks for words of the image and those right behind it.
use Rattle.std.proofs.Common.{◌≡◌, ℕ, ◌+◌, ◌%◌, ◌^◌, ◌<◌, Option, Some, None, List, refl, sym, subst, lt_of_le_of_lt, arith, slice_index, bit_and}
use Rattle.std.specs.Prelude.{◌==◌}
use Rattle.std.specs.Int.{bit_not, w64}
use Rattle.std.proofs.lemmas.Nat.{and_le_l}
use Rattle.hash_word.specs.Hash.{finger_of}
use Rattle.word_bits.specs.Bits.{mask}
use Rattle.bucket_meta.specs.Bucket.{record_slots}
use Rattle.bucket_meta.specs.Marks.{finger_place}
use Rattle.bucket_meta.specs.NoteWords.{note_place, freed_mark, freed_fingers, lowered_count, finger_bits}
use Rattle.bucket_meta.proofs.Fingers.{finger_below}
use Rattle.bucket_meta.proofs.fields.Uppers.{inserted_fits, member_fits, removed_fits}
use Rattle.image_layout.specs.Places.{Shape, IsShape}
use Rattle.image_layout.specs.Volatile.{all_words_of}
use Rattle.map_model.specs.declared.change.Effect.{Effect}
use Rattle.map_model.specs.declared.change.Effect.TheVariants.{Insert, Update, Remove}
use Rattle.world.specs.Ground.{Ground}
use Rattle.world.specs.Views.{View}
use Rattle.world.specs.Wants.{word_of}
use Rattle.part.specs.Asks.{IsWithin, PutsWord}
use Rattle.phase.specs.declared.role.Role.{Role}
use Rattle.phase.specs.declared.role.Role.TheVariants.{Home, Probing}
use Rattle.phase.specs.Places.{stash_index}
use Rattle.phase.specs.declared.make.Record.{Record}
use Rattle.phase.specs.declared.make.Make.{Make}
use Rattle.phase.specs.Makes.{brought}
use Rattle.phase.specs.Helds.{give_next}
use Rattle.phase.specs.Buckets.{words_in}
use Rattle.phase.proofs.asking.Asking.{walk_within, back_within}
use Rattle.phase.proofs.asking.Events.{puts_word, IsSmall, make_small, walk_small, IsInBucket, FlushesWithin, asks_within, walk_line, here_within, make_within, take_within, give_within, make_line, take_line, give_line}
use Rattle.write_op.specs.declared.search.NoteWords.{NoteWords}
use Rattle.write_op.specs.declared.step.Task.{Task}
use Rattle.write_op.specs.declared.step.Seen.{Seen}
use Rattle.phase.specs.declared.note.NoteWord.{NoteWord}
use Rattle.phase.specs.declared.note.NoteWord.TheVariants.{Mark, Fingers}
use Rattle.write_op.specs.declared.step.WriteStep.{WriteStep}
use Rattle.write_op.specs.declared.step.WriteStep.TheVariants.{Way, Lock, Check, Fill, Count, Draw, Unnote, CountSpent, Give, Ended}
use Rattle.write_op.specs.declared.step.WriteStep.TheVariants as step
use Rattle.phase.proofs.Wanting.{number_of, take_small, give_small}
use Rattle.write_op.specs.Search.{published_mark, taken_mark, freed_or, unnoted}
use Rattle.write_op.specs.Steps.{lock_of, note_wanted, wanted_in}
use Rattle.phase.specs.AreWords.{AreWords}
use Rattle.phase.proofs.Wording.{either_small}
use Rattle.write_op.specs.Fits.{HasAll, IsChosen, SuitsStep, IsIn}
use Rattle.write_op.proofs.finding.Chosen.{slot_low, written_is}
use Rattle.write_op.proofs.permitting.Publishing.{located_all, key_is, value_is, mark_is, word_is}

-- ---- marks
freed_small : (w i : ℕ) → w < 2 ^ 64 → freed_mark w i < 2 ^ 64
freed_small w i fits =
    let a = lt_of_le_of_lt (and_le_l w (bit_not w64 (mask (28 + i)))) fits in
    let b = lt_of_le_of_lt (and_le_l (bit_and w (bit_not w64 (mask (28 + i)))) (bit_not w64 (mask (32 + i)))) a in
    let c = lt_of_le_of_lt (and_le_l (bit_and (bit_and w (bit_not w64 (mask (28 + i)))) (bit_not w64 (mask (32 + i)))) (bit_not w64 (mask (36 + i)))) b in
    lt_of_le_of_lt (and_le_l (bit_and (bit_and (bit_and w (bit_not w64 (mask (28 + i)))) (bit_not w64 (mask (32 + i)))) (bit_not w64 (mask (36 + i)))) (bit_not w64 (finger_bits i))) c

fingers_small : (w i : ℕ) → w < 2 ^ 64 → freed_fingers w i < 2 ^ 64
fingers_small w i fits = either_small (i == 0) _ _ (finger_below w 6 0 (omega arith)) (either_small (i == 1) _ w (finger_below w 7 0 (omega arith)) fits)

pub record NoteIsSmall (n : NoteWords) : Type 0 where
  pub mark : n.mark < 2 ^ 64
  pub fingers : n.fingers < 2 ^ 64

freed_or_small : (place : Role) (words : List ℕ) (a : Option ℕ) (rest : NoteWords) → AreWords words → NoteIsSmall rest → NoteIsSmall (freed_or place words a rest)
freed_or_small place words (Some i) rest w r = record { mark = freed_small (slice_index words 1) i (w.small 1); fingers = fingers_small (slice_index words 3) i (w.small 3) }
freed_or_small place words None rest w r = r

module _ (task : Task) (seen : Seen) (all : (p : Role) → AreWords (words_in seen.buckets p)) where
  abbrev counted : NoteWords
  counted = record { place = Home; mark = lowered_count (slice_index seen.buckets.home 1); fingers = slice_index seen.buckets.home 3 }

  counted_small : NoteIsSmall counted
  counted_small = record { mark = (let w = (all Home).small 1 in omega (arith, w)); fingers = (all Home).small 3 }

  abbrev in_home : Option ℕ
  in_home = note_place (slice_index seen.buckets.home 1) (slice_index seen.buckets.home 3) 0 (finger_of task.hash) (stash_index seen.place)

  abbrev in_probing : Option ℕ
  in_probing = note_place (slice_index seen.buckets.probing 1) (slice_index seen.buckets.probing 3) 1 (finger_of task.hash) (stash_index seen.place)

  note_small : NoteIsSmall (unnoted task.hash seen)
  note_small = freed_or_small Home seen.buckets.home in_home (freed_or Probing seen.buckets.probing in_probing counted) (all Home)
      (freed_or_small Probing seen.buckets.probing in_probing counted (all Probing) counted_small)

  taken_small : (place : Role) (w slot : ℕ) → w < 2 ^ 64 → slot < record_slots → taken_mark place w slot < 2 ^ 64
  taken_small Probing w slot fits low = member_fits w slot fits low
  taken_small place w slot fits low = inserted_fits w slot fits low

  mark_small : (d : Effect) (place : Role) (w slot : ℕ) → brought d < 2 ^ 64 → w < 2 ^ 64 → slot < record_slots → published_mark d place w slot < 2 ^ 64
  mark_small (Insert value) place w slot value_fits fits low = taken_small place w slot fits low
  mark_small (Update value) place w slot value_fits fits low = value_fits
  mark_small Remove place w slot value_fits fits low = removed_fits w slot fits low

module _ (site : Ground) (task : Task) (is : IsIn site task) (seen : Seen) (v : View) (all : (p : Role) → AreWords (words_in seen.buckets p)) (key : task.change.key < 2 ^ 64) (value : brought task.change.effect < 2 ^ 64) where
  written_small : HasAll site task seen v → IsChosen site task seen → IsSmall seen.written
  written_small a c = record {
    key = subst (λ x. x < 2 ^ 64) (sym (key_is site task is seen v a c)) key;
    value = subst (λ x. x < 2 ^ 64) (sym (value_is site task is seen v a c task.change.effect refl)) value;
    fingers = subst (λ (w : Record). w.fingers < 2 ^ 64) (sym (written_is site task seen a.upto c))
        (finger_below (slice_index (words_in seen.buckets seen.place) (finger_place seen.written.slot)) seen.written.slot (finger_of task.hash) (omega arith));
    mark = subst (λ x. x < 2 ^ 64) (sym (mark_is site task is seen v a c task.change.effect refl))
        (mark_small task seen all task.change.effect seen.place (slice_index (words_in seen.buckets seen.place) 1) seen.written.slot value ((all seen.place).small 1) (slot_low site task seen a.upto c));
  }

  note_by : (part : NoteWord) → number_of (note_wanted task seen part (unnoted task.hash seen)) < 2 ^ 64
  note_by Mark = (note_small task seen all).mark
  note_by Fingers = (note_small task seen all).fingers

  small_in : (s : WriteStep) → SuitsStep site task seen s v → number_of (wanted_in task seen s) < 2 ^ 64
  small_in (Way w) suits = walk_small task.site task.hash w
  small_in (Lock place t) suits = take_small (lock_of task seen place) t
  small_in (Check back) suits = omega arith
  small_in (Fill place load) suits = omega arith
  small_in Count suits = omega arith
  small_in (step.Make m) suits = make_small (lock_of task seen seen.place) seen.written m (written_small suits.all suits.chosen)
  small_in Draw suits = omega arith
  small_in (Unnote part place) suits = note_by part
  small_in CountSpent suits = omega arith
  small_in (Give held end) suits = give_small task.site task.hash seen.path.segment (give_next held)
  small_in (Ended end) suits = omega arith

  pub puts_in : (s : WriteStep) → SuitsStep site task seen s v → PutsWord (wanted_in task seen s)
  puts_in s suits = puts_word (wanted_in task seen s) (small_in s suits)

-- ---- words of the image
module _ (task : Task) (seen : Seen) (shape : IsShape task.site.geometry) (fits : task.hash < 2 ^ 64) where
  within_here : (p : Role) (n : ℕ) → n < 32 → lock_of task seen p + n < all_words_of task.site.geometry
  within_here = here_within task.site task.hash seen.path.segment shape

  note_within : (part : NoteWord) (n : NoteWords) → word_of task.site.geometry (note_wanted task seen part n) < all_words_of task.site.geometry
  note_within Mark n = within_here n.place 1 (omega arith)
  note_within Fingers n = within_here n.place 3 (omega arith)

  pub within_in : (s : WriteStep) → ((m : Make) → s ≡ step.Make m → IsInBucket seen.written) → word_of task.site.geometry (wanted_in task seen s) < all_words_of task.site.geometry
  within_in (Way w) stored = walk_within task.site task.hash shape fits w
  within_in (Lock place t) stored = take_within task.site task.hash seen.path.segment shape place t
  within_in (Check back) stored = let low = back_within task.site task.hash shape fits seen.path back in omega (arith, low)
  within_in (Fill place load) stored = within_here place (load.next % 32) (omega arith)
  within_in Count stored = omega arith
  within_in (step.Make m) stored = make_within task.site task.hash seen.path.segment shape seen.place seen.written m (stored m refl)
  within_in Draw stored = omega arith
  within_in (Unnote part place) stored = note_within part (unnoted task.hash seen)
  within_in CountSpent stored = omega arith
  within_in (Give held end) stored = give_within task.site task.hash seen.path.segment shape (give_next held)
  within_in (Ended end) stored = omega arith

module _ (site : Ground) (task : Task) (is : IsIn site task) (seen : Seen) (shape : IsShape task.site.geometry) where
  abbrev g : Shape
  g = task.site.geometry

  published_by : (v : View) → HasAll site task seen v → IsChosen site task seen → (d : Effect) → task.change.effect ≡ d → seen.written.published < 32
  published_by v a c (Insert value) e = let w = word_is site task is seen v a c (Insert value) e in omega (arith, w)
  published_by v a c (Update value) e = let w = word_is site task is seen v a c (Update value) e in let low = slot_low site task seen a.upto c in omega (arith, w, low)
  published_by v a c Remove e = let w = word_is site task is seen v a c Remove e in omega (arith, w)

  written_in : (v : View) → HasAll site task seen v → IsChosen site task seen → IsInBucket seen.written
  written_in v a c = record { slot = slot_low site task seen a.upto c; published = published_by v a c task.change.effect refl }

  in_bucket : (v : View) (s : WriteStep) → SuitsStep site task seen s v → (m : Make) → s ≡ step.Make m → IsInBucket seen.written
  in_bucket v s suits m e =
      let changing : SuitsStep site task seen (step.Make m) v = subst (λ z. SuitsStep site task seen z v) e suits in
      written_in v changing.all changing.chosen

  -- a line that is flushed
  note_line : (part : NoteWord) (n : NoteWords) → FlushesWithin g (note_wanted task seen part n)
  note_line Mark n = tt
  note_line Fingers n = tt

  line_in : (v : View) (s : WriteStep) → SuitsStep site task seen s v → FlushesWithin g (wanted_in task seen s)
  line_in v (Way w) suits = walk_line task.site task.hash w
  line_in v (Lock place t) suits = take_line task.site task.hash seen.path.segment shape place t
  line_in v (Check back) suits = tt
  line_in v (Fill place load) suits = tt
  line_in v Count suits = tt
  line_in v (step.Make m) suits =
      make_line task.site task.hash seen.path.segment shape site (located_all site task is seen v suits.all) seen.place seen.written m (written_in v suits.all suits.chosen)
  line_in v Draw suits = tt
  line_in v (Unnote part place) suits = note_line part (unnoted task.hash seen)
  line_in v CountSpent suits = tt
  line_in v (Give held end) suits = give_line task.site task.hash seen.path.segment shape (give_next held)
  line_in v (Ended end) suits = tt

  pub asks_in : (v : View) (s : WriteStep) → SuitsStep site task seen s v → IsWithin g (wanted_in task seen s)
  asks_in v s suits = asks_within g (wanted_in task seen s) (within_in task seen shape is.fits s (in_bucket v s suits)) (line_in v s suits)
