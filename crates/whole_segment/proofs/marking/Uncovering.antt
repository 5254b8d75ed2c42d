-- What word 1 of a bucket says of each slot, without the records that a segment covers: what it said, or that it is free.
use Rattle.std.proofs.Common.{◌≡◌, ℕ, ◌^◌, ◌<◌, ◌⊎◌, inl, inr, arith}
use Rattle.std.proofs.lemmas.Bool.{cases_eq}
use Rattle.word_bits.specs.Bits.{bit}
use Rattle.hash_word.specs.Hash.{Covers}
use Rattle.bucket_meta.specs.Bucket.{allocated, member, record_slots}
use Rattle.whole_segment.specs.Slots.{IsSetOf, AreHalves}
use Rattle.whole_segment.specs.Records.{IsCovered, covered_set, covered_first, uncovered_first}
use Rattle.whole_segment.proofs.marking.MarkHalves.{are_halves}
use Rattle.whole_segment.proofs.Telling.{covered_is}

module _ (first : ℕ → ℕ) (key : ℕ → ℕ → ℕ) (hash : ℕ → ℕ) (depth pattern b : ℕ) (small : first b < 2 ^ 64) where
  abbrev covered : ℕ
  covered = covered_set first key hash depth pattern b

  set : IsSetOf (IsCovered first key hash depth pattern b) covered
  set = covered_is first key hash depth pattern b

  halves : AreHalves (first b) covered (covered_first first key hash depth pattern b) (uncovered_first first key hash depth pattern b)
  halves = are_halves (first b) covered small set.within

  -- each slot says what it said, or is free, and then a record there was covered
  pub slot_says : (r : ℕ) → r < record_slots
      → ((allocated r (uncovered_first first key hash depth pattern b) ≡ allocated r (first b)) × (member r (uncovered_first first key hash depth pattern b) ≡ member r (first b)))
      ⊎ ((allocated r (uncovered_first first key hash depth pattern b) ≡ 0) × Covers depth pattern (hash (key b r)))
  slot_says r low = elim (cases_eq (bit r covered) 1) [
    | inl one ↦ inr ((halves.moved r low one).1.taken, ((set.each r low).0 one).covers)
    | inr other ↦ (let zero : bit r covered ≡ 0 = omega (arith, other) in let same = (halves.stayed r low zero).1 in inl (same.taken, same.membership))
  ]

  -- a covered record is freed
  pub covered_freed : (r : ℕ) → r < record_slots → allocated r (first b) ≡ 1 → Covers depth pattern (hash (key b r)) → allocated r (uncovered_first first key hash depth pattern b) ≡ 0
  covered_freed r low taken covers = (halves.moved r low ((set.each r low).1 (record { taken = taken; covers = covers }))).1.taken
