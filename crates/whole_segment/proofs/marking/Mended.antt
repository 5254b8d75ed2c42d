-- A segment whose spoiled slots are cleared has its own records alone, each key once, and of each key the first.
use Rattle.std.proofs.Common.{◌≡◌, ℕ, zero, suc, ◌-◌, ◌/◌, ◌^◌, ◌<◌, ◌⊎◌, sym, ap, ◌∙◌, subst, inl, inr, arith}
use Rattle.std.proofs.lemmas.Bool.{cases_eq, cases_lt}
use Rattle.std.proofs.lemmas.Nat.Bits.{bit_at-lt}
use Rattle.word_bits.specs.Bits.{bit}
use Rattle.hash_word.specs.Hash.{Covers, home_of}
use Rattle.bucket_meta.specs.Bucket.{allocated}
use Rattle.bucket_meta.specs.Marks.{copied_mark}
use Rattle.whole_segment.specs.Slots.{AreHalves}
use Rattle.whole_segment.specs.Records.{Stands}
use Rattle.whole_segment.specs.Order.{bucket_in_order, slot_at, position_of, IsAt, StandsBefore}
use Rattle.whole_segment.specs.Mending.{IsSpoiled, AreSpoiled, IsLookedFor, IsMended, without_spoiled}
use Rattle.whole_segment.proofs.marking.MarkHalves.{are_halves}
use Rattle.whole_segment.proofs.marking.Positions.{IsPlaceOf, position_most, position_again, place_again, bucket_low}
use Rattle.sound_image.proofs.Hashes.{home_of-below}

module _ (first : ℕ → ℕ) (key : ℕ → ℕ → ℕ) where
  -- ---- the first position of a key
  -- some position below n has the key and none before it has, or none below n has it
  pub record IsFirstAt (home k p : ℕ) : Type 0 where
    pub is_at : IsAt first key home k p
    pub none_before : (q : ℕ) → q < p → IsAt first key home k q → ⊥

  abbrev Searched : ℕ → ℕ → ℕ → Type 0
  Searched home k n = ((p : ℕ) × (p < n) × IsFirstAt home k p) ⊎ ((q : ℕ) → q < n → IsAt first key home k q → ⊥)

  search_more : (home k n : ℕ) → Searched home k n → Searched home k (suc n)
  search_more home k n (inl found) = inl (found.0, omega (arith, found.1), found.2)
  search_more home k n (inr none) = elim (cases_eq (allocated (slot_at n) (first (bucket_in_order home n))) 1) [
    | inl taken ↦ elim (cases_eq (key (bucket_in_order home n) (slot_at n)) k) [
      | inl same ↦ inl (n, omega arith, record { is_at = record { taken = taken; has_key = same }; none_before = none })
      | inr other ↦ inr (none_below (λ at. other at.has_key))
    ]
    | inr free ↦ inr (none_below (λ at. free at.taken))
  ]
    where
      none_below : (IsAt first key home k n → ⊥) → (q : ℕ) → q < suc n → IsAt first key home k q → ⊥
      none_below not_here q low at = elim (cases_eq q n) [
        | inl same ↦ not_here (subst (IsAt first key home k) same at)
        | inr apart ↦ none q (omega (arith, low, apart)) at
      ]

  searched : (home k n : ℕ) → Searched home k n
  searched home k zero = inr (λ q low at. omega (arith, low))
  searched home k (suc n) = search_more home k n (searched home k n)

  module _ (hash : ℕ → ℕ) (depth pattern : ℕ) (spoiled : ℕ → ℕ) (word : (b : ℕ) → first b < 2 ^ 64) (are : AreSpoiled first key hash depth pattern spoiled) where
    abbrev mended : ℕ → ℕ
    mended = without_spoiled first spoiled

    halves : (b : ℕ) → b < 66 → AreHalves (first b) (spoiled b) (copied_mark (first b) (spoiled b)) (mended b)
    halves b low = are_halves (first b) (spoiled b) (word b) (are b low).within

    -- ---- a slot that is not spoiled stays, and others do not
    stays : (b r k : ℕ) → Stands first key b r k → (IsSpoiled first key hash depth pattern b r → ⊥) → Stands mended key b r k
    stays b r k stands sound =
        let off : bit r (spoiled b) ≡ 0 = elim (cases_eq (bit r (spoiled b)) 1) [
          | inl on ↦ absurd (sound (((are b stands.bucket).each r stands.slot).0 on))
          | inr other ↦ omega (arith, bit_at-lt (spoiled b) r, other)
        ] in
        let same = (halves b stands.bucket).stayed r stands.slot off in
        record { bucket = stands.bucket; slot = stands.slot; taken = same.1.taken ∙ stands.taken; has_key = stands.has_key }

    -- a record that stands in the mended segment
    record Stood (b r k : ℕ) : Type 0 where
      stood : Stands first key b r k
      sound : IsSpoiled first key hash depth pattern b r → ⊥

    stood_there : (b r k : ℕ) → Stands mended key b r k → Stood b r k
    stood_there b r k stands = elim (cases_eq (bit r (spoiled b)) 1) [
      | inl on ↦ absurd (let gone = ((halves b stands.bucket).moved r stands.slot on).1.taken in let there = stands.taken in omega (arith, gone, there))
      | inr other ↦
          let off : bit r (spoiled b) ≡ 0 = omega (arith, bit_at-lt (spoiled b) r, other) in
          let same = (halves b stands.bucket).stayed r stands.slot off in
          record {
            stood = record { bucket = stands.bucket; slot = stands.slot; taken = sym same.1.taken ∙ stands.taken; has_key = stands.has_key };
            sound = λ bad. other (((are b stands.bucket).each r stands.slot).1 bad);
          }
    ]

    is_own : (b r k : ℕ) → Stood b r k → Covers depth pattern (hash k)
    is_own b r k s = elim (cases_eq (hash k / 2 ^ (64 - depth)) pattern) [
      | inl own ↦ own
      | inr foreign ↦ absurd (s.sound (record { taken = s.stood.taken; why = inl (subst (λ x. Covers depth pattern (hash x) → ⊥) (sym s.stood.has_key) foreign) }))
    ]

    first_stays : (b r k : ℕ) → Stands first key b r k → Covers depth pattern (hash k) → (StandsBefore first key hash b r → ⊥) → Stands mended key b r k
    first_stays b r k stands own none = stays b r k stands sound
      where
        by : (Covers depth pattern (hash (key b r)) → ⊥) ⊎ StandsBefore first key hash b r → ⊥
        by (inl foreign) = foreign (subst (λ x. Covers depth pattern (hash x)) (sym stands.has_key) own)
        by (inr before) = none before

        sound : IsSpoiled first key hash depth pattern b r → ⊥
        sound bad = by bad.why

    -- ---- where a key stands at a position
    stands_at : (k p : ℕ) → p < 56 → IsAt first key (home_of (hash k)) k p → Stands first key (bucket_in_order (home_of (hash k)) p) (slot_at p) k
    stands_at k p low at =
        record { bucket = bucket_low (home_of (hash k)) (home_of-below (hash k)) p; slot = omega arith; taken = at.taken; has_key = at.has_key }

    -- the key of a slot stands before exactly where it stands at an earlier position
    before_by : (b r k q : ℕ) → key b r ≡ k → q < position_of (home_of (hash k)) b r → IsAt first key (home_of (hash k)) k q → StandsBefore first key hash b r
    before_by b r k q same low at =
        let P : ℕ → Type 0 = λ x. (q < position_of (home_of (hash x)) b r) × IsAt first key (home_of (hash x)) x q in
        let here : P (key b r) = subst P (sym same) (low, at) in
        record { position = q; before = here.0; is_at = here.1 }

    none_before_by : (b r k : ℕ) → key b r ≡ k → ((q : ℕ) → q < position_of (home_of (hash k)) b r → IsAt first key (home_of (hash k)) k q → ⊥)
        → StandsBefore first key hash b r → ⊥
    none_before_by b r k same none before =
        let P : ℕ → Type 0 = λ x. (before.position < position_of (home_of (hash x)) b r) × IsAt first key (home_of (hash x)) x before.position in
        let here : P k = subst P same (before.before, before.is_at) in
        none before.position here.0 here.1

    module _ (k : ℕ) (own : Covers depth pattern (hash k)) where
      at_first : (p : ℕ) → p < 56 → IsFirstAt (home_of (hash k)) k p → Stands mended key (bucket_in_order (home_of (hash k)) p) (slot_at p) k
      at_first p low found =
          first_stays (bucket_in_order (home_of (hash k)) p) (slot_at p) k (stands_at k p low found.is_at) own
          (none_before_by (bucket_in_order (home_of (hash k)) p) (slot_at p) k found.is_at.has_key
          (λ q before at. found.none_before q (subst (λ n. q < n) (position_again (home_of (hash k)) (home_of-below (hash k)) p low) before) at))

      by_search : (b r : ℕ) → Stands first key b r k → Searched (home_of (hash k)) k 56 → (c : ℕ) × (t : ℕ) × Stands mended key c t k
      by_search b r stands (inl found) = (bucket_in_order (home_of (hash k)) found.0, slot_at found.0, at_first found.0 found.1 found.2)
      by_search b r stands (inr none) = (
        b,
        r,
        first_stays b r k stands own (none_before_by b r k stands.has_key
            (λ q before at. none q (omega (arith, before, position_most (home_of (hash k)) (home_of-below (hash k)) b r stands.slot)) at)),
      )

    keys_stay : (b r k : ℕ) → Stands first key b r k → Covers depth pattern (hash k) → (c : ℕ) × (t : ℕ) × Stands mended key c t k
    keys_stay b r k stands own = by_search k own b r stands (searched (home_of (hash k)) k 56)

    -- ---- each key once
    module _ (looked : IsLookedFor first key hash depth pattern) (k : ℕ) where
      abbrev own_home : ℕ
      own_home = home_of (hash k)

      abbrev at_of : ℕ → ℕ → ℕ
      at_of b r = position_of own_home b r

      is_looked : (b r : ℕ) → Stood b r k → at_of b r < 56
      is_looked b r s = subst (λ x. position_of (home_of (hash x)) b r < 56) s.stood.has_key (looked b r k s.stood (is_own b r k s))

      place : (b r : ℕ) → Stood b r k → IsPlaceOf own_home (home_of-below (hash k)) b r (at_of b r)
      place b r s = place_again own_home (home_of-below (hash k)) b r s.stood.slot (is_looked b r s)

      is_there : (b r : ℕ) → Stood b r k → IsAt first key own_home k (at_of b r)
      is_there b r s =
          let p = place b r s in record {
            taken = ap (λ c. allocated (slot_at (at_of b r)) (first c)) p.bucket ∙ ap (λ t. allocated t (first b)) p.slot ∙ s.stood.taken;
            has_key = ap (λ c. key c (slot_at (at_of b r))) p.bucket ∙ ap (λ t. key b t) p.slot ∙ s.stood.has_key;
          }

      none_lower : (b r c t : ℕ) → Stood b r k → Stood c t k → at_of b r < at_of c t → ⊥
      none_lower b r c t one other lower =
          other.sound (record { taken = other.stood.taken; why = inr (before_by c t k (at_of b r) other.stood.has_key lower (is_there b r one)) })

      once : (b r c t : ℕ) → Stood b r k → Stood c t k → (c ≡ b) × (t ≡ r)
      once b r c t one other = elim (cases_lt (at_of b r) (at_of c t)) [
        | inl lower ↦ absurd (none_lower b r c t one other lower)
        | inr not ↦ elim (cases_lt (at_of c t) (at_of b r)) [
          | inl lower ↦ absurd (none_lower c t b r other one lower)
          | inr nor ↦
              let same : at_of c t ≡ at_of b r = omega (arith, not, nor) in (
                sym (place c t other).bucket ∙ ap (bucket_in_order own_home) same ∙ (place b r one).bucket,
                sym (place c t other).slot ∙ ap slot_at same ∙ (place b r one).slot,
              )
        ]
      ]

    pub is_mended : IsMended first mended key hash depth pattern
    is_mended = record {
      own = λ b r k stands. let s = stood_there b r k stands in (s.stood, is_own b r k s);
      first_stays = first_stays;
      keys_stay = keys_stay;
      once = λ looked b r c t k one other. once looked k b r c t (stood_there b r k one) (stood_there c t k other);
    }
