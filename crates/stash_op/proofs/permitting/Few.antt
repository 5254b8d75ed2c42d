-- A home has at most 28 records in the stash, which has as many slots; so where a note is owed for one that came, the count of those
-- without a note can be raised.
use Rattle.std.proofs.Common.{ℕ, zero, suc, ◌+◌, ◌<◌, ◌≤◌, Bool, true, false, List, [], ◌∷◌, length, ap, arith, length-append}
use Rattle.std.specs.Prelude.{◌==◌, ◌&&◌, if◌then◌else◌}
use Rattle.std.specs.List.{flat_map}
use Rattle.hash_word.specs.Hash.{home_of, finger_of}
use Rattle.bucket_meta.specs.Bucket.{allocated}
use Rattle.bucket_meta.specs.Notes.{OverflowNote, numbers_below, AreExact}
use Rattle.bucket_meta.proofs.Counts.{pieces_more}
use Rattle.trace.specs.Events.{Words}
use Rattle.image_layout.specs.Places.{Shape}
use Rattle.image_layout.specs.Standing.{stash_piece}
use Rattle.sound_image.specs.Records.{word_in, slot_hash, stashed_in, stashed_of}

one_piece : (b : Bool) (x : OverflowNote) → length (if b then x ∷ [] else []) ≤ 1
one_piece true x = omega arith
one_piece false x = omega arith

pieces_most : (p : ℕ → List OverflowNote) → ((i : ℕ) → length (p i) ≤ 1) → (n : ℕ) → length (flat_map p (numbers_below n)) ≤ n
pieces_most p few zero = omega arith
pieces_most p few (suc n) =
    let front = pieces_most p few n in
    let last = few n in
    let all = ap length (pieces_more p n) in
    let sum = length-append (flat_map p (numbers_below n)) (p n) in
    omega (arith, front, last, all, sum)

module _ (shape : Shape) (word : Words) (s b : ℕ) where
  stashed_few : (k : ℕ) → length (stashed_in shape word s b k) ≤ 14
  stashed_few k = pieces_most
      (λ r. stash_piece b k (allocated r (word_in shape word s (64 + k) 1)) (slot_hash shape word s (64 + k) r))
      (λ r. one_piece ((allocated r (word_in shape word s (64 + k) 1) == 1) && (home_of (slot_hash shape word s (64 + k) r) == b)) (finger_of (slot_hash shape word s (64 + k) r), k)) 14

  pub few_uncounted : (note : OverflowNote) (notes : List OverflowNote) (count : ℕ) → AreExact (note ∷ notes) count (stashed_of shape word s b) → count < 31
  few_uncounted note notes count exact =
      let first = stashed_few 0 in
      let second = stashed_few 1 in
      let both = length-append (stashed_in shape word s b 0) (stashed_in shape word s b 1) in
      let others = exact.counts_others in
      omega (arith, first, second, both, others)
