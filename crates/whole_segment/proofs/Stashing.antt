-- The records in the stash with their notes, and the records that a segment covers, by words that are the same.
use Rattle.std.proofs.Common.{◌≡◌, ℕ, zero, suc, ◌+◌, ◌<◌, ◌≤◌, Bool, List, [], ◌∷◌, ◌++◌, refl, sym, ap, ◌∙◌, arith}
use Rattle.std.specs.Prelude.{◌==◌, ◌&&◌, bit_or, if◌then◌else◌}
use Rattle.word_bits.specs.Bits.{mask}
use Rattle.std.specs.List.{flat_map}
use Rattle.std.proofs.lemmas.Grind.{flat_map-append}
use Rattle.hash_word.specs.Hash.{home_of, finger_of, top}
use Rattle.bucket_meta.specs.Bucket.{allocated, record_slots}
use Rattle.bucket_meta.specs.Marks.{copied_mark, cleared_mark}
use Rattle.bucket_meta.specs.Notes.{numbers_below}
use Rattle.image_layout.specs.Places.{homes, buckets, stash_buckets}
use Rattle.stash.specs.Segment.{Stashed}
use Rattle.whole_segment.specs.Slots.{set_below}
use Rattle.whole_segment.specs.Records.{is_covered, covered_set, covered_first, uncovered_first}
use Rattle.whole_segment.specs.Rebuilding.{no_overflow, all_noted, rebuilt}
use Rattle.image_layout.specs.Standing.{stash_piece, stashed_in, stashed_of}
use Rattle.whole_segment.specs.Notes.{entry_of, entries_below, stash_entries}

-- lists of the numbers below another, by equal lists of each
flat_same : {A : Type 0} (f g : ℕ → List A) (n : ℕ) → ((r : ℕ) → r < n → f r ≡ g r) → flat_map f (numbers_below n) ≡ flat_map g (numbers_below n)
flat_same f g zero same = refl
flat_same f g (suc n) same =
    flat_map-append f (numbers_below n) (n ∷ [])
    ∙ ap (λ front. front ++ flat_map f (n ∷ [])) (flat_same f g n (λ r low. same r (omega (arith, low))))
    ∙ ap (λ last. flat_map g (numbers_below n) ++ (last ++ [])) (same n (omega arith))
    ∙ sym (flat_map-append g (numbers_below n) (n ∷ []))

-- sets of the slots below a number, by equal tests
pub set_same : (f g : ℕ → Bool) (n : ℕ) → ((r : ℕ) → r < n → f r ≡ g r) → set_below f n ≡ set_below g n
unfolding set_below
set_same f g zero same = refl
set_same f g (suc n) same =
    ap (λ (t : Bool). if t then bit_or (set_below f n) (mask n) else set_below f n) (same n (omega arith))
    ∙ ap (λ (x : ℕ). if g n then bit_or x (mask n) else x) (set_same f g n (λ r low. same r (omega (arith, low))))

module _ (first later_first : ℕ → ℕ) (key later_key : ℕ → ℕ → ℕ) (hash : ℕ → ℕ) (words : (b : ℕ) → homes ≤ b → b < buckets → later_first b ≡ first b)
    (keys : (b r : ℕ) → b < buckets → r < record_slots → later_key b r ≡ key b r) where
  in_same : (b c : ℕ) → c < stash_buckets → stashed_in later_first later_key hash b c ≡ stashed_in first key hash b c
  in_same b c low = flat_same
      (λ r. stash_piece b c (allocated r (later_first (homes + c))) (hash (later_key (homes + c) r)))
      (λ r. stash_piece b c (allocated r (first (homes + c))) (hash (key (homes + c) r)))
      record_slots
      (λ r slot. ap
      (λ w. stash_piece b c (allocated r w) (hash (later_key (homes + c) r))) (words (homes + c) (omega arith) (omega (arith, low)))
      ∙ ap (λ k. stash_piece b c (allocated r (first (homes + c))) (hash k)) (keys (homes + c) r (omega (arith, low)) slot))

  -- THE RECORDS OF A HOME in the stash are the same
  pub stashed_same : (b : ℕ) → stashed_of later_first later_key hash b ≡ stashed_of first key hash b
  stashed_same b = ap (λ front. front ++ stashed_in later_first later_key hash b 1) (in_same b 0 (omega arith)) ∙ ap (λ back. stashed_in first key hash b 0 ++ back) (in_same b 1 (omega arith))

  -- and so are all records there, with their homes
  below_same : (c : ℕ) → c < stash_buckets → entries_below later_first later_key hash c record_slots ≡ entries_below first key hash c record_slots
  below_same c low = flat_same
      (λ r. if allocated r (later_first (homes + c)) == 1 then entry_of later_key hash c r ∷ [] else [])
      (λ r. if allocated r (first (homes + c)) == 1 then entry_of key hash c r ∷ [] else [])
      record_slots
      (λ r slot. ap
      (λ w. if allocated r w == 1 then entry_of later_key hash c r ∷ [] else []) (words (homes + c) (omega arith) (omega (arith, low)))
      ∙ ap (λ k. if allocated r (first (homes + c)) == 1 then (home_of (hash k), finger_of (hash k), c) ∷ [] else []) (keys (homes + c) r (omega (arith, low)) slot))

  pub entries_same : stash_entries later_first later_key hash ≡ stash_entries first key hash
  entries_same =
      ap (λ front. front ++ entries_below later_first later_key hash 1 record_slots) (below_same 0 (omega arith)) ∙ ap (λ back. entries_below first key hash 0 record_slots ++ back) (below_same 1 (omega arith))

  -- so the notes that are made of them are the same
  pub rebuilt_same : (b : ℕ) → rebuilt later_first later_key hash b ≡ rebuilt first key hash b
  rebuilt_same b = ap (λ (l : List Stashed). all_noted l (λ c. no_overflow) b) entries_same

-- THE SLOTS of a bucket with records that a segment covers are the same
pub covered_same : (first later_first : ℕ → ℕ) (key later_key : ℕ → ℕ → ℕ) (hash : ℕ → ℕ) (d p b : ℕ) → later_first b ≡ first b
    → ((r : ℕ) → r < record_slots → later_key b r ≡ key b r) → covered_set later_first later_key hash d p b ≡ covered_set first key hash d p b
covered_same first later_first key later_key hash d p b word keys = set_same (is_covered later_first later_key hash d p b) (is_covered first key hash d p b) record_slots
    (λ r low. ap (λ (x : ℕ). (allocated r x == 1) && (top d (hash (later_key b r)) == p)) word
    ∙ ap (λ (k : ℕ). (allocated r (first b) == 1) && (top d (hash k) == p)) (keys r low))

-- so is word 1 with these alone, and without them
pub covered_first_same : (first later_first : ℕ → ℕ) (key later_key : ℕ → ℕ → ℕ) (hash : ℕ → ℕ) (d p b : ℕ) → later_first b ≡ first b
    → ((r : ℕ) → r < record_slots → later_key b r ≡ key b r) → covered_first later_first later_key hash d p b ≡ covered_first first key hash d p b
covered_first_same first later_first key later_key hash d p b word keys =
    ap (λ (x : ℕ). copied_mark x (covered_set later_first later_key hash d p b)) word ∙ ap (copied_mark (first b)) (covered_same first later_first key later_key hash d p b word keys)

pub uncovered_first_same : (first later_first : ℕ → ℕ) (key later_key : ℕ → ℕ → ℕ) (hash : ℕ → ℕ) (d p b : ℕ) → later_first b ≡ first b
    → ((r : ℕ) → r < record_slots → later_key b r ≡ key b r) → uncovered_first later_first later_key hash d p b ≡ uncovered_first first key hash d p b
uncovered_first_same first later_first key later_key hash d p b word keys =
    ap (λ (x : ℕ). cleared_mark x (covered_set later_first later_key hash d p b)) word ∙ ap (cleared_mark (first b)) (covered_same first later_first key later_key hash d p b word keys)
