-- What is reckoned of the loaded words of a segment is the value that is to be reckoned of what is kept of it, and that is right.
use Rattle.std.proofs.Common.{◌≡◌, ℕ, ◌+◌, ◌*◌, ◌%◌, ◌^◌, ◌<◌, List, ◌++◌, length, slice_index, refl, sym, ap, ◌∙◌, subst, arith}
use Rattle.std.specs.Prelude.{min}
use Rattle.std.specs.Int.{bit_not, w64}
use Rattle.std.proofs.lemmas.Nat.{and_le_r}
use Rattle.bucket_meta.specs.Bucket.{overflow_count, record_slots, KeepsRecords}
use Rattle.bucket_meta.specs.Notes.{OverflowNote, AreExact, notes_by}
use Rattle.bucket_meta.specs.Marks.{slot_bits}
use Rattle.hash_word.specs.Hash.{probing_of}
use Rattle.segment_head.specs.HeadWord.{depth_in, pattern_in}
use Rattle.image_layout.specs.Places.{homes, buckets}
use Rattle.sound_image.specs.Records.{key_hash}
use Rattle.whole_segment.specs.Words.{words_by}
use Rattle.whole_segment.specs.Records.{first_in, third_in, key_in, uncovered_first, HasWords}
use Rattle.image_layout.specs.Standing.{stashed_of, HasExactNotes}
use Rattle.whole_segment.specs.Rebuilding.{first_with, third_with, rebuilt}
use Rattle.whole_segment.specs.declared.loaded.Loaded.{Loaded}
use Rattle.whole_segment.specs.declared.notes.Notes.{Notes}
use Rattle.whole_segment.proofs.Stashing.{stashed_same, rebuilt_same, uncovered_first_same}
use Rattle.whole_segment.proofs.Words.{word_is, words_small, same_words}
use Rattle.whole_segment.proofs.rebuilding.Written.{first_made_small, third_made_small, made_keeps, made_notes}
use Rattle.map_model.specs.declared.call.Call.{Call}
use Rattle.world.specs.declared.site.Site.{Site}
use Rattle.world.specs.Ground.{Ground, IsGround}
use Rattle.enclose_op.specs.declared.enclosed.Enclosed.{Enclosed}
use Rattle.enclose_op.specs.Whole.{kept_first, kept_third, kept_key, side_slots, IsOf, IsWhole}
use Rattle.rest_op.specs.Steps.{begun}
use Rattle.rest_op.specs.Reckoned.{side_depth, side_pattern, cleared_of, left_first, left_notes, notes_left, rest_of, IsReckoned}
use Rattle.rest_op.proofs.whole.Halving.{depth_low, pattern_low}

-- the notes of a home are made anew
abbrev IsRebuilt : Loaded → Notes → (ℕ → ℕ) → ℕ → Type 0
IsRebuilt rest notes hash b =
    (slice_index notes.first b ≡ first_with (first_in rest b) (rebuilt (first_in rest) (key_in rest) hash b))
    × (slice_index notes.third b ≡ third_with (third_in rest b) (rebuilt (first_in rest) (key_in rest) hash b))

-- ---- the value
module _ (e : Enclosed) (loaded rest : Loaded) (notes : Notes) (d p : ℕ) (kept : HasWords e.buckets loaded) (deep : d ≡ min (side_depth e) 64) (side : p ≡ side_pattern e % 2 ^ 32)
    (is : (b : ℕ) → b < buckets → first_in rest b ≡ uncovered_first (first_in loaded) (key_in loaded) (key_hash e.site.geometry) d p b)
    (third : rest.third ≡ loaded.third) (keys : rest.keys ≡ loaded.keys) (made : (b : ℕ) → b < homes → IsRebuilt rest notes (key_hash e.site.geometry) b) where
  abbrev hash : ℕ → ℕ
  hash = key_hash e.site.geometry

  rest_key : (b r : ℕ) → b < buckets → r < record_slots → key_in rest b r ≡ kept_key e b r
  rest_key b r near low = ap (λ (l : List ℕ). slice_index l (record_slots * b + r)) keys ∙ kept.keys b r near low

  rest_third : (b : ℕ) → b < buckets → third_in rest b ≡ kept_third e b
  rest_third b near = ap (λ (l : List ℕ). slice_index l b) third ∙ kept.third b near

  rest_first : (b : ℕ) → b < buckets → first_in rest b ≡ left_first e b
  rest_first b near =
      is b near ∙ uncovered_first_same (kept_first e) (first_in loaded) (kept_key e) (key_in loaded) hash d p b (kept.first b near) (λ r low. kept.keys b r near low)
      ∙ ap (λ (x : ℕ). uncovered_first (kept_first e) (kept_key e) hash x p b) deep ∙ ap (λ (x : ℕ). uncovered_first (kept_first e) (kept_key e) hash (min (side_depth e) 64) x b) side

  rest_notes : (b : ℕ) → rebuilt (first_in rest) (key_in rest) hash b ≡ left_notes e b
  rest_notes = rebuilt_same (left_first e) (first_in rest) (kept_key e) (key_in rest) hash (λ b stash near. rest_first b near) rest_key

  first_made : (b : ℕ) → b < homes → slice_index notes.first b ≡ first_with (left_first e b) (left_notes e b)
  first_made b home = (made b home).0 ∙ ap (λ (x : ℕ). first_with x (rebuilt (first_in rest) (key_in rest) hash b)) (rest_first b (omega (arith, home))) ∙ ap (first_with (left_first e b)) (rest_notes b)

  third_made : (b : ℕ) → b < homes → slice_index notes.third b ≡ third_with (kept_third e b) (left_notes e b)
  third_made b home = (made b home).1 ∙ ap (λ (x : ℕ). third_with x (rebuilt (first_in rest) (key_in rest) hash b)) (rest_third b (omega (arith, home))) ∙ ap (third_with (kept_third e b)) (rest_notes b)

  abbrev notes_of : List ℕ → List ℕ → Notes
  notes_of first third = record { first = first; third = third }

  pub rest_made : length notes.first ≡ homes → length notes.third ≡ homes → begun e rest.first notes ≡ rest_of e
  rest_made first_long third_long =
      let first = same_words homes (λ b. first_with (left_first e b) (left_notes e b)) notes.first first_long first_made in
      let thirds = same_words homes (λ b. third_with (kept_third e b) (left_notes e b)) notes.third third_long third_made in
      ap (λ (l : List ℕ). begun e l notes) (same_words buckets (left_first e) rest.first rest.each_first rest_first)
      ∙ ap (λ (l : List ℕ). begun e (words_by buckets (left_first e)) (notes_of l notes.third)) first
      ∙ ap (λ (l : List ℕ). begun e (words_by buckets (left_first e)) (notes_of (words_by homes (λ b. first_with (left_first e b) (left_notes e b))) l)) thirds

-- ---- IT IS RIGHT, where depth and pattern are in range
module _ (e : Enclosed) (low : depth_in e.head < 64) (small : pattern_in e.head < 2 ^ 31) where
  abbrev own_hash : ℕ → ℕ
  own_hash = key_hash e.site.geometry

  depth_is : min (side_depth e) 64 ≡ side_depth e
  depth_is = omega (arith, low)

  pattern_is : side_pattern e % 2 ^ 32 ≡ side_pattern e
  pattern_is = omega (arith, small)

  left_is : (b : ℕ) → left_first e b ≡ cleared_of e b
  left_is b = ap (λ (x : ℕ). uncovered_first (kept_first e) (kept_key e) own_hash x (side_pattern e % 2 ^ 32) b) depth_is
      ∙ ap (λ (x : ℕ). uncovered_first (kept_first e) (kept_key e) own_hash (side_depth e) x b) pattern_is

  left_small : (b : ℕ) → left_first e b < 2 ^ 64
  left_small b = let most = and_le_r (kept_first e b) (bit_not w64 (slot_bits (side_slots e b))) in omega (arith, most)

  first_is : (b : ℕ) → b < homes → slice_index (notes_left e).first b ≡ first_with (left_first e b) (left_notes e b)
  first_is = word_is homes (λ b. first_with (left_first e b) (left_notes e b))

  third_is : (b : ℕ) → b < homes → slice_index (notes_left e).third b ≡ third_with (kept_third e b) (left_notes e b)
  third_is = word_is homes (λ b. third_with (kept_third e b) (left_notes e b))

  notes_keep : (b : ℕ) → b < homes → KeepsRecords (cleared_of e b) (kept_third e b) (slice_index (notes_left e).first b) (slice_index (notes_left e).third b)
  notes_keep b home =
      subst (λ (x : ℕ). KeepsRecords x (kept_third e b) (slice_index (notes_left e).first b) (slice_index (notes_left e).third b)) (left_is b)
      (subst (λ (x : ℕ). KeepsRecords (left_first e b) (kept_third e b) (slice_index (notes_left e).first b) x) (sym (third_is b home))
      (subst (λ (x : ℕ). KeepsRecords (left_first e b) (kept_third e b) x (third_with (kept_third e b) (left_notes e b))) (sym (first_is b home))
      (made_keeps (left_first e) (kept_third e) (kept_key e) own_hash b home)))

  notes_exact : (b : ℕ) → b < homes → HasExactNotes (λ c. slice_index (notes_left e).first c) (λ c. slice_index (notes_left e).third c) b (stashed_of (cleared_of e) (kept_key e) own_hash b)
  notes_exact b home =
      let next : ℕ = probing_of b in
      let near : next < homes = omega arith in
      let first : ℕ → ℕ = slice_index (notes_left e).first in
      let third : ℕ → ℕ = slice_index (notes_left e).third in
      let by : (f g u w : ℕ) → List OverflowNote → Type 0 = λ f g u w stashed. AreExact (notes_by f g 0 ++ notes_by u w 1) (overflow_count f) stashed in
      subst (λ (x : List OverflowNote). by (first b) (third b) (first next) (third next) x)
      (sym (stashed_same (left_first e) (cleared_of e) (kept_key e) (kept_key e) own_hash (λ c _ _. sym (left_is c)) (λ c r _ _. refl) b))
      (subst (λ (x : ℕ). by (first b) (third b) (first next) x (stashed_of (left_first e) (kept_key e) own_hash b)) (sym (third_is next near))
      (subst (λ (x : ℕ). by (first b) (third b) x (third_with (kept_third e next) (left_notes e next)) (stashed_of (left_first e) (kept_key e) own_hash b)) (sym (first_is next near))
      (subst (λ (x : ℕ). by (first b) x (first_with (left_first e next) (left_notes e next)) (third_with (kept_third e next) (left_notes e next)) (stashed_of (left_first e) (kept_key e) own_hash b)) (sym (third_is b home))
      (subst (λ (x : ℕ). by x (third_with (kept_third e b) (left_notes e b)) (first_with (left_first e next) (left_notes e next)) (third_with (kept_third e next) (left_notes e next)) (stashed_of (left_first e) (kept_key e) own_hash b)) (sym (first_is b home))
      (made_notes (left_first e) (kept_third e) (kept_key e) own_hash b home)))))

  pub rest_is_reckoned : IsReckoned (rest_of e)
  rest_is_reckoned = record {
    cleared = λ b near. word_is buckets (left_first e) b near ∙ left_is b;
    records = notes_keep;
    exact = notes_exact;
    cleared_small = words_small buckets (left_first e) (λ b _. left_small b);
    first_small = words_small homes (λ b. first_with (left_first e b) (left_notes e b)) (first_made_small (left_first e) (kept_third e) (kept_key e) own_hash);
    third_small = words_small homes (λ b. third_with (kept_third e b) (left_notes e b)) (third_made_small (left_first e) (kept_third e) (kept_key e) own_hash);
  }

-- so it is of each whole segment
pub whole_is_reckoned : (site : Ground) → IsGround site → (here : Site) (call : Call) (e : Enclosed) → IsOf site here call e → IsWhole site e → IsReckoned (rest_of e)
whole_is_reckoned site ground here call e is whole =
    let deep = depth_low site ground here call e is whole in
    let wide = pattern_low site ground here call e is whole in
    rest_is_reckoned e (omega (arith, deep)) (omega (arith, wide))
