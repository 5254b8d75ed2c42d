-- The records in the stash that are of one home are those of the list of all.
use Rattle.std.proofs.Common.{◌≡◌, ◌≢◌, ℕ, ◌+◌, Bool, true, false, cond, ◌==◌, ◌&&◌, List, [], ◌∷◌, ◌++◌, refl, ap, ◌∙◌, inl, inr, add-one, append-nil}
use Rattle.std.specs.List.{flat_map}
use Rattle.std.proofs.lemmas.Bool.{eq-eqb, ne_eqb}
use Rattle.std.proofs.lemmas.Bool.Decides.{eqb_tells}
use Rattle.std.proofs.lemmas.Grind.{flat_map-append}
use Rattle.bucket_meta.specs.Bucket.{allocated}
use Rattle.bucket_meta.specs.Notes.{OverflowNote, numbers_below}
use Rattle.stash.specs.Segment.{Stashed, of_home}
use Rattle.stash.proofs.Buckets.{of_home-append}
use Rattle.image_layout.specs.Standing.{stashed_in, stashed_of}
use Rattle.whole_segment.specs.Notes.{entry_of, entries_below, stash_entries}

alone : (entry : Stashed) (b : ℕ) → of_home (entry ∷ []) b ≡ cond (entry.0 == b) ((entry.1, entry.2) ∷ []) []
alone entry b = elim (eqb_tells entry.0 b) [ inl same ↦ rw (same.0) refl | inr differs ↦ rw (differs.0) refl ]

one_if : (taken : Bool) (entry : Stashed) (b : ℕ) → of_home (cond taken (entry ∷ []) []) b ≡ cond (taken && (entry.0 == b)) ((entry.1, entry.2) ∷ []) []
one_if true entry b = alone entry b
one_if false entry b = refl

module _ (taken : ℕ → Bool) (entry : ℕ → Stashed) (b : ℕ) where
  abbrev all_of : ℕ → List Stashed
  all_of r = cond (taken r) (entry r ∷ []) []

  abbrev own_of : ℕ → List OverflowNote
  own_of r = cond (taken r && ((entry r).0 == b)) (((entry r).1, (entry r).2) ∷ []) []

  own_alone : (slots : List ℕ) → of_home (flat_map all_of slots) b ≡ flat_map own_of slots
  own_alone [] = refl
  own_alone (r ∷ slots) =
      of_home-append (all_of r) (flat_map all_of slots) b
      ∙ (ap (λ front. front ++ of_home (flat_map all_of slots) b) (one_if (taken r) (entry r) b) ∙ ap (λ back. own_of r ++ back) (own_alone slots))

module _ (first : ℕ → ℕ) (key : ℕ → ℕ → ℕ) (hash : ℕ → ℕ) (b : ℕ) where
  of_bucket : (c : ℕ) → of_home (entries_below first key hash c 14) b ≡ stashed_in first key hash b c
  of_bucket c = own_alone (λ r. allocated r (first (64 + c)) == 1) (λ r. entry_of key hash c r) b (numbers_below 14)

  pub entries_of_home : of_home (stash_entries first key hash) b ≡ stashed_of first key hash b
  entries_of_home =
      of_home-append (entries_below first key hash 0 14) (entries_below first key hash 1 14) b
      ∙ (ap (λ front. front ++ of_home (entries_below first key hash 1 14) b) (of_bucket 0) ∙ ap (λ back. stashed_in first key hash b 0 ++ back) (of_bucket 1))

-- ---- the records of a stash bucket are gathered slot by slot
module _ (first : ℕ → ℕ) (key : ℕ → ℕ → ℕ) (hash : ℕ → ℕ) (c r : ℕ) where
  abbrev entries_to : ℕ → List Stashed
  entries_to = entries_below first key hash c

  one_slot : entries_to (r + 1) ≡ entries_to r ++ cond (allocated r (first (64 + c)) == 1) (entry_of key hash c r ∷ []) []
  one_slot =
      let p : ℕ → List Stashed = λ t. cond (allocated t (first (64 + c)) == 1) (entry_of key hash c t ∷ []) [] in
      ap entries_to (add-one r) ∙ (flat_map-append p (numbers_below r) (r ∷ []) ∙ ap (λ last. entries_to r ++ last) (append-nil (p r)))

  pub with_slot : allocated r (first (64 + c)) ≡ 1 → entries_to (r + 1) ≡ entries_to r ++ entry_of key hash c r ∷ []
  with_slot taken = one_slot ∙ ap (λ b. entries_to r ++ cond b (entry_of key hash c r ∷ []) []) (eq-eqb (allocated r (first (64 + c))) 1 taken)

  pub without_slot : allocated r (first (64 + c)) ≢ 1 → entries_to (r + 1) ≡ entries_to r
  without_slot free =
      one_slot ∙ (ap (λ b. entries_to r ++ cond b (entry_of key hash c r ∷ []) []) (ne_eqb (allocated r (first (64 + c))) 1 free) ∙ append-nil (entries_to r))
