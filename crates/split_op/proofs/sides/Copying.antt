-- The metadata of a side is put in, bucket by bucket.
use Rattle.std.proofs.Common.{◌≡◌, ◌≢◌, ℕ, ◌+◌, ◌*◌, ◌<◌, ◌≤◌, List, length, slice_index, inl, inr, refl, sym, ◌∙◌, subst, arith}
use Rattle.std.specs.Prelude.{slice_set}
use Rattle.std.proofs.lemmas.Bool.{cases_eq}
use Rattle.std.proofs.lemmas.List.{get_or-set_same, get_or-set_other, length-set}
use Rattle.bucket_meta.specs.Bucket.{slot_fingers_part}
use Rattle.image_layout.specs.Places.{homes, buckets}
use Rattle.whole_segment.specs.Records.{first_in}
use Rattle.whole_segment.specs.declared.loaded.Loaded.{Loaded}
use Rattle.whole_segment.specs.declared.notes.Notes.{Notes}
use Rattle.split_op.specs.Sides.{side_word, HasMarks}

module _ (kept : List ℕ) (half : Loaded) (notes : Notes) where
  -- the buckets before one are put in, and nothing else is changed
  pub record IsMarking (k : ℕ) (words : List ℕ) : Type 0 where
    pub each : length words ≡ 2112
    pub first : (b : ℕ) → b < k → b < homes → side_word words b 1 ≡ slice_index notes.first b
    pub third : (b : ℕ) → b < k → b < homes → side_word words b 3 ≡ slice_index notes.third b
    pub stash : (b : ℕ) → b < k → homes ≤ b → side_word words b 1 ≡ first_in half b
    pub stash_third : (b : ℕ) → b < k → homes ≤ b → side_word words b 3 ≡ slot_fingers_part (side_word kept b 3)
    pub others : (b m : ℕ) → b < buckets → m < 32 → m ≢ 1 → m ≢ 3 → side_word words b m ≡ side_word kept b m

  pub begun_marking : length kept ≡ 2112 → IsMarking 0 kept
  begun_marking each = record {
    each = each;
    first = λ b low _. absurd (omega (arith, low));
    third = λ b low _. absurd (omega (arith, low));
    stash = λ b low _. absurd (omega (arith, low));
    stash_third = λ b low _. absurd (omega (arith, low));
    others = λ b m _ _ _ _. refl;
  }

  module _ (k : ℕ) (w : List ℕ) (near : k < buckets) (is : IsMarking k w) where
    at_other : (i x b m : ℕ) → (32 * b + m ≡ i → ⊥) → side_word (slice_set w i x) b m ≡ side_word w b m
    at_other i x b m apart = get_or-set_other w i (32 * b + m) x 0 apart

    -- a home
    module _ (home : k < homes) where
      abbrev one : List ℕ
      one = slice_set w (32 * k + 1) (slice_index notes.first k)

      abbrev two : List ℕ
      two = slice_set one (32 * k + 3) (slice_index notes.third k)

      each_one : length one ≡ 2112
      each_one = length-set w (32 * k + 1) (slice_index notes.first k) ∙ is.each

      other_word : (b m : ℕ) → (32 * b + m ≡ 32 * k + 1 → ⊥) → (32 * b + m ≡ 32 * k + 3 → ⊥) → side_word two b m ≡ side_word w b m
      other_word b m p q = get_or-set_other one (32 * k + 3) (32 * b + m) (slice_index notes.third k) 0 q ∙ at_other (32 * k + 1) (slice_index notes.first k) b m p

      first_here : side_word two k 1 ≡ slice_index notes.first k
      first_here = get_or-set_other one (32 * k + 3) (32 * k + 1) (slice_index notes.third k) 0 (λ s. omega (arith, s)) ∙ get_or-set_same w (32 * k + 1) (slice_index notes.first k) 0 (let each = is.each in omega (arith, each, near))

      third_here : side_word two k 3 ≡ slice_index notes.third k
      third_here = get_or-set_same one (32 * k + 3) (slice_index notes.third k) 0 (let each = each_one in omega (arith, each, near))

      pub home_marked : IsMarking (k + 1) two
      home_marked = record {
        each = length-set one (32 * k + 3) (slice_index notes.third k) ∙ each_one;
        first = λ b low small. elim (cases_eq b k) [
          | inl same ↦ subst (λ (z : ℕ). side_word two z 1 ≡ slice_index notes.first z) (sym same) first_here
          | inr apart ↦ other_word b 1 (λ s. apart (omega (arith, s))) (λ s. omega (arith, s)) ∙ is.first b (omega (arith, low, apart)) small
        ];
        third = λ b low small. elim (cases_eq b k) [
          | inl same ↦ subst (λ (z : ℕ). side_word two z 3 ≡ slice_index notes.third z) (sym same) third_here
          | inr apart ↦ other_word b 3 (λ s. omega (arith, s)) (λ s. apart (omega (arith, s))) ∙ is.third b (omega (arith, low, apart)) small
        ];
        stash = λ b low high. absurd (omega (arith, low, high, home));
        stash_third = λ b low high. absurd (omega (arith, low, high, home));
        others = λ b m small low no_one no_three. other_word b m (λ s. no_one (omega (arith, s, low))) (λ s. no_three (omega (arith, s, low))) ∙ is.others b m small low no_one no_three;
      }

    -- a stash bucket
    module _ (stash : homes ≤ k) where
      abbrev bare : ℕ
      bare = slot_fingers_part (side_word kept k 3)

      abbrev marked : List ℕ
      marked = slice_set w (32 * k + 1) (first_in half k)

      abbrev both : List ℕ
      both = slice_set marked (32 * k + 3) bare

      each_marked : length marked ≡ 2112
      each_marked = length-set w (32 * k + 1) (first_in half k) ∙ is.each

      kept_word : (b m : ℕ) → (32 * b + m ≡ 32 * k + 1 → ⊥) → (32 * b + m ≡ 32 * k + 3 → ⊥) → side_word both b m ≡ side_word w b m
      kept_word b m p q = get_or-set_other marked (32 * k + 3) (32 * b + m) bare 0 q ∙ at_other (32 * k + 1) (first_in half k) b m p

      mark_here : side_word both k 1 ≡ first_in half k
      mark_here = get_or-set_other marked (32 * k + 3) (32 * k + 1) bare 0 (λ s. omega (arith, s)) ∙ get_or-set_same w (32 * k + 1) (first_in half k) 0 (let each = is.each in omega (arith, each, near))

      bare_here : side_word both k 3 ≡ bare
      bare_here = get_or-set_same marked (32 * k + 3) bare 0 (let each = each_marked in omega (arith, each, near))

      pub stash_marked : IsMarking (k + 1) both
      stash_marked = record {
        each = length-set marked (32 * k + 3) bare ∙ each_marked;
        first = λ b low small. kept_word b 1 (λ s. omega (arith, s, small, stash)) (λ s. omega (arith, s)) ∙ is.first b (omega (arith, small, stash)) small;
        third = λ b low small. kept_word b 3 (λ s. omega (arith, s)) (λ s. omega (arith, s, small, stash)) ∙ is.third b (omega (arith, small, stash)) small;
        stash = λ b low high. elim (cases_eq b k) [
          | inl same ↦ subst (λ (z : ℕ). side_word both z 1 ≡ first_in half z) (sym same) mark_here
          | inr apart ↦ kept_word b 1 (λ s. apart (omega (arith, s))) (λ s. omega (arith, s)) ∙ is.stash b (omega (arith, low, apart)) high
        ];
        stash_third = λ b low high. elim (cases_eq b k) [
          | inl same ↦ subst (λ (z : ℕ). side_word both z 3 ≡ slot_fingers_part (side_word kept z 3)) (sym same) bare_here
          | inr apart ↦ kept_word b 3 (λ s. omega (arith, s)) (λ s. apart (omega (arith, s))) ∙ is.stash_third b (omega (arith, low, apart)) high
        ];
        others = λ b m small low no_one no_three. kept_word b m (λ s. no_one (omega (arith, s, low))) (λ s. no_three (omega (arith, s, low))) ∙ is.others b m small low no_one no_three;
      }

  pub all_marked : (k : ℕ) (w : List ℕ) → 66 ≤ k → IsMarking k w → HasMarks kept half notes w
  all_marked k w past is = record {
    each = is.each;
    first = λ b small. is.first b (omega (arith, small, past)) small;
    third = λ b small. is.third b (omega (arith, small, past)) small;
    stash = λ b high small. is.stash b (omega (arith, small, past)) high;
    stash_third = λ b high small. is.stash_third b (omega (arith, small, past)) high;
    others = is.others;
  }
