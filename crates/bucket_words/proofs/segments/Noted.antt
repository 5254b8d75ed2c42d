-- What a home has noted depends on the metadata words of its bucket and of its probing bucket, and exact notes stay exact beside records that stay.
use Rattle.std.proofs.Common.{◌≡◌, ℕ, zero, suc, ◌+◌, ◌/◌, ◌^◌, ◌<◌, ◌≤◌, ◌++◌, refl, sym, ap, subst, ◌∙◌, inl, inr, arith}
use Rattle.std.proofs.lemmas.Bool.{cases_eq}
use Rattle.hash_word.specs.Hash.{probing_of}
use Rattle.bucket_meta.specs.Notes.{AreExact, note_piece, notes_by}
use Rattle.bucket_meta.specs.Bucket.{note_used, note_member, note_index, note_finger, overflow_count}
use Rattle.bucket_meta.proofs.Counts.{same_pieces}
use Rattle.trace.specs.Events.{Words, with_word}
use Rattle.image_layout.specs.Places.{Shape, bucket_at, homes, buckets}
use Rattle.segment_table.specs.Records.{word_in, notes_in, notes_of, stashed_of, HasExactNotes}
use Rattle.bucket_words.specs.HomeNotes.{SameHomeNotes}
use Rattle.bucket_words.proofs.segments.Places.{other_word, this_word}

module _ (shape : Shape) (word other : Words) (s b : ℕ) where
  pub notes_same : ((n : ℕ) → 1 ≤ n → n < 4 → other (bucket_at shape s b + n) ≡ word (bucket_at shape s b + n))
      → ((n : ℕ) → 1 ≤ n → n < 4 → other (bucket_at shape s (probing_of b) + n) ≡ word (bucket_at shape s (probing_of b) + n))
      → notes_of shape other s b ≡ notes_of shape word s b
  notes_same own next =
      ap (λ w. notes_by w (word_in shape other s b 3) 0 ++ notes_in shape other s (probing_of b) 1) (own 1 (omega arith) (omega arith))
      ∙ ap (λ w. notes_by (word_in shape word s b 1) w 0 ++ notes_in shape other s (probing_of b) 1) (own 3 (omega arith) (omega arith))
      ∙ ap (λ w. notes_in shape word s b 0 ++ notes_by w (word_in shape other s (probing_of b) 3) 1) (next 1 (omega arith) (omega arith))
      ∙ ap (λ w. notes_in shape word s b 0 ++ notes_by (word_in shape word s (probing_of b) 1) w 1) (next 3 (omega arith) (omega arith))

  -- so exact notes stay exact
  pub exact_same : SameHomeNotes shape word other s b → HasExactNotes shape word s b → HasExactNotes shape other s b
  exact_same same exact =
      subst (λ z. AreExact z (overflow_count (word_in shape other s b 1)) (stashed_of shape other s b)) (sym same.notes)
      (subst (λ z. AreExact (notes_of shape word s b) z (stashed_of shape other s b)) (sym same.count)
      (subst (λ z. AreExact (notes_of shape word s b) (overflow_count (word_in shape word s b 1)) z) (sym same.stashed) exact))

-- THE OVERFLOW PARTS of a metadata word
module _ (w x : ℕ) (same : x / 2 ^ 28 ≡ w / 2 ^ 28) where
  used_same : (i : ℕ) → i < 4 → note_used i x ≡ note_used i w
  used_same zero l = omega (arith, same)
  used_same (suc zero) l = omega (arith, same)
  used_same (suc (suc zero)) l = omega (arith, same)
  used_same (suc (suc (suc zero))) l = omega (arith, same)
  used_same (suc (suc (suc (suc i)))) l = absurd (omega (arith, l))

  member_same : (i : ℕ) → i < 4 → note_member i x ≡ note_member i w
  member_same zero l = omega (arith, same)
  member_same (suc zero) l = omega (arith, same)
  member_same (suc (suc zero)) l = omega (arith, same)
  member_same (suc (suc (suc zero))) l = omega (arith, same)
  member_same (suc (suc (suc (suc i)))) l = absurd (omega (arith, l))

  index_same : (i : ℕ) → i < 4 → note_index i x ≡ note_index i w
  index_same zero l = omega (arith, same)
  index_same (suc zero) l = omega (arith, same)
  index_same (suc (suc zero)) l = omega (arith, same)
  index_same (suc (suc (suc zero))) l = omega (arith, same)
  index_same (suc (suc (suc (suc i)))) l = absurd (omega (arith, l))

  finger_same : (i w3 : ℕ) → i < 4 → note_finger i x w3 ≡ note_finger i w w3
  finger_same zero w3 l = refl
  finger_same (suc zero) w3 l = refl
  finger_same (suc (suc zero)) w3 l = omega (arith, same)
  finger_same (suc (suc (suc zero))) w3 l = omega (arith, same)
  finger_same (suc (suc (suc (suc i)))) w3 l = absurd (omega (arith, l))

  pub count_same : overflow_count x ≡ overflow_count w
  count_same = omega (arith, same)

  pub overflow_same : (w3 side : ℕ) → notes_by x w3 side ≡ notes_by w w3 side
  overflow_same w3 side =
      same_pieces (λ i. note_piece side (note_used i w) (note_member i w) (note_finger i w w3) (note_index i w))
      (λ i. note_piece side (note_used i x) (note_member i x) (note_finger i x w3) (note_index i x)) 4
      (λ i l.
      ap (λ z. note_piece side z (note_member i x) (note_finger i x w3) (note_index i x)) (used_same i l)
      ∙ ap (λ z. note_piece side (note_used i w) z (note_finger i x w3) (note_index i x)) (member_same i l)
      ∙ ap (λ z. note_piece side (note_used i w) (note_member i w) z (note_index i x)) (finger_same i w3 l)
      ∙ ap (λ z. note_piece side (note_used i w) (note_member i w) (note_finger i w w3) z) (index_same i l))

-- A METADATA WORD that keeps the overflow parts keeps the notes and the count of each home
module _ (shape : Shape) (word : Words) (s b x : ℕ) (bucket : b < buckets) (same : x / 2 ^ 28 ≡ word (bucket_at shape s b + 1) / 2 ^ 28) where
  abbrev other : Words
  other = with_word word (bucket_at shape s b + 1) x

  upper : (q e : ℕ) → e < buckets → word_in shape other q e 1 / 2 ^ 28 ≡ word_in shape word q e 1 / 2 ^ 28
  upper q e near = elim (cases_eq q s) [
    | inr n ↦ ap (λ z. z / 2 ^ 28) (other_word shape word s b 1 x (bucket_at shape s b + 1) bucket (omega arith) refl q e 1 (bucket_at shape q e + 1) near (omega arith) refl (λ f _ _. n f))
    | inl f ↦ elim (cases_eq e b) [
      | inr n ↦ ap (λ z. z / 2 ^ 28) (other_word shape word s b 1 x (bucket_at shape s b + 1) bucket (omega arith) refl q e 1 (bucket_at shape q e + 1) near (omega arith) refl (λ _ g _. n g))
      | inl g ↦
          let place : bucket_at shape q e + 1 ≡ bucket_at shape s b + 1 = ap (λ z. bucket_at shape z e + 1) f ∙ ap (λ z. bucket_at shape s z + 1) g in
          ap (λ z. z / 2 ^ 28) (this_word shape word s b 1 x (bucket_at shape s b + 1) bucket (omega arith) refl (bucket_at shape q e + 1) place)
          ∙ same ∙ ap (λ z. word z / 2 ^ 28) (sym place)
    ]
  ]

  side_kept : (q e side : ℕ) → e < buckets → notes_in shape other q e side ≡ notes_in shape word q e side
  side_kept q e side near =
      ap (λ w. notes_by (word_in shape other q e 1) w side)
      (other_word shape word s b 1 x (bucket_at shape s b + 1) bucket (omega arith) refl q e 3 (bucket_at shape q e + 3) near (omega arith) refl (λ _ _ g. omega (arith, g)))
      ∙ overflow_same (word_in shape word q e 1) (word_in shape other q e 1) (upper q e near) (word_in shape word q e 3) side

  pub notes_kept : (q d : ℕ) → d < homes → notes_of shape other q d ≡ notes_of shape word q d
  notes_kept q d near =
      ap (λ z. z ++ notes_in shape other q (probing_of d) 1) (side_kept q d 0 (omega (arith, near)))
      ∙ ap (λ z. notes_in shape word q d 0 ++ z) (side_kept q (probing_of d) 1 (omega arith))

  pub count_kept : (q d : ℕ) → d < homes → overflow_count (word_in shape other q d 1) ≡ overflow_count (word_in shape word q d 1)
  count_kept q d near = count_same (word_in shape word q d 1) (word_in shape other q d 1) (upper q d (omega (arith, near)))
