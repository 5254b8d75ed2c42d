-- What is made of the loaded words of a segment are the words of its side.
use Rattle.std.proofs.Common.{◌≡◌, ℕ, ◌+◌, ◌*◌, ◌%◌, ◌^◌, ◌<◌, List, slice_index, inl, inr, sym, ap, ◌∙◌, arith}
use Rattle.std.specs.Prelude.{min}
use Rattle.std.proofs.lemmas.Bool.{cases_lt}
use Rattle.bucket_meta.specs.Bucket.{record_slots}
use Rattle.image_layout.specs.Places.{homes, buckets, block}
use Rattle.sound_image.specs.Records.{key_hash}
use Rattle.whole_segment.specs.Records.{first_in, third_in, key_in, covered_first, HasWords}
use Rattle.whole_segment.specs.Rebuilding.{first_with, third_with, rebuilt}
use Rattle.whole_segment.specs.declared.loaded.Loaded.{Loaded}
use Rattle.whole_segment.specs.declared.notes.Notes.{Notes}
use Rattle.whole_segment.proofs.Stashing.{rebuilt_same, covered_first_same}
use Rattle.enclose_op.specs.declared.enclosed.Enclosed.{Enclosed}
use Rattle.enclose_op.specs.Whole.{kept_first, kept_third, kept_key, side_depth, side_pattern}
use Rattle.split_op.specs.Sides.{side_word, bare_mark, side_notes, side_mark, side_third, marked_word, thinned_word, side_words, HasMarks, IsThinned}
use Rattle.split_op.proofs.sides.Listing.{listed_same, by_word, thinned_is}
use Rattle.split_op.proofs.sides.Siding.{mark_home, mark_stash, third_home, third_stash, marked_other}

-- the notes of a home are made anew
abbrev IsRebuilt : Loaded → Notes → (ℕ → ℕ) → ℕ → Type 0
IsRebuilt half notes hash b =
    (slice_index notes.first b ≡ first_with (first_in half b) (rebuilt (first_in half) (key_in half) hash b))
    × (slice_index notes.third b ≡ third_with (third_in half b) (rebuilt (first_in half) (key_in half) hash b))

module _ (e : Enclosed) (loaded half : Loaded) (notes : Notes) (d p : ℕ) (kept : HasWords e.buckets loaded) (deep : d ≡ min (side_depth e) 64) (side : p ≡ side_pattern e % 2 ^ 32)
    (is : (b : ℕ) → b < buckets → first_in half b ≡ covered_first (first_in loaded) (key_in loaded) (key_hash e.site.geometry) d p b)
    (third : half.third ≡ loaded.third) (keys : half.keys ≡ loaded.keys) (made : (b : ℕ) → b < homes → IsRebuilt half notes (key_hash e.site.geometry) b) where
  abbrev hash : ℕ → ℕ
  hash = key_hash e.site.geometry

  -- ---- the half
  half_key : (b r : ℕ) → b < buckets → r < record_slots → key_in half b r ≡ kept_key e b r
  half_key b r near low = ap (λ (l : List ℕ). slice_index l (record_slots * b + r)) keys ∙ kept.keys b r near low

  half_third : (b : ℕ) → b < buckets → third_in half b ≡ kept_third e b
  half_third b near = ap (λ (l : List ℕ). slice_index l b) third ∙ kept.third b near

  half_first : (b : ℕ) → b < buckets → first_in half b ≡ bare_mark e b
  half_first b near =
      is b near ∙ covered_first_same (kept_first e) (first_in loaded) (kept_key e) (key_in loaded) hash d p b (kept.first b near) (λ r low. kept.keys b r near low)
      ∙ ap (λ (x : ℕ). covered_first (kept_first e) (kept_key e) hash x p b) deep ∙ ap (λ (x : ℕ). covered_first (kept_first e) (kept_key e) hash (min (side_depth e) 64) x b) side

  half_notes : (b : ℕ) → rebuilt (first_in half) (key_in half) hash b ≡ side_notes e b
  half_notes = rebuilt_same (bare_mark e) (first_in half) (kept_key e) (key_in half) hash (λ b stash near. half_first b near) half_key

  -- ---- with its metadata
  module _ (words : List ℕ) (marks : HasMarks e.buckets half notes words) where
    mark_there : (b : ℕ) → b < buckets → side_word words b 1 ≡ side_mark e b
    mark_there b near = elim (cases_lt b homes) [
      | inl home ↦ marks.first b home ∙ (made b home).0 ∙ ap (λ (x : ℕ). first_with x (rebuilt (first_in half) (key_in half) hash b)) (half_first b near)
          ∙ ap (first_with (bare_mark e b)) (half_notes b) ∙ sym (mark_home e b home)
      | inr stash ↦ marks.stash b stash near ∙ half_first b near ∙ sym (mark_stash e b stash)
    ]

    third_there : (b : ℕ) → b < buckets → side_word words b 3 ≡ side_third e b
    third_there b near = elim (cases_lt b homes) [
      | inl home ↦ marks.third b home ∙ (made b home).1 ∙ ap (λ (x : ℕ). third_with x (rebuilt (first_in half) (key_in half) hash b)) (half_third b near)
          ∙ ap (third_with (kept_third e b)) (half_notes b) ∙ sym (third_home e b home)
      | inr stash ↦ marks.stash_third b stash near ∙ sym (third_stash e b stash)
    ]

    marked_there : (b m : ℕ) → b < buckets → m < block → side_word words b m ≡ marked_word e b m
    marked_there b m near low = by_word (λ k. k < block → side_word words b k ≡ marked_word e b k) (λ _. mark_there b near)
        (λ l. marks.others b 2 near l (λ s. omega (arith, s)) (λ s. omega (arith, s))) (λ _. third_there b near)
        (λ k no_one no_two no_three l. marks.others b k near l no_one no_three ∙ sym (marked_other e b k no_one no_three)) m low

    -- THE WORDS OF THE SIDE
    pub words_made : (thin : List ℕ) → IsThinned words thin → thin ≡ side_words e
    words_made thin is_thin = listed_same (thinned_word (marked_word e)) thin is_thin.each (thinned_is words thin (marked_word e) marked_there is_thin)
