-- The notes of a home bucket that has no record in the stash are exact exactly where there are none.
use Rattle.std.proofs.Common.{◌≡◌, ℕ, zero, suc, ◌+◌, ◌<◌, refl, sym, ap, ◌∙◌, arith, List, [], ◌∷◌, length, length-append, ⊎_elim}
use Rattle.std.specs.Prelude.{◌==◌, ◌&&◌, if◌then◌else◌}
use Rattle.std.specs.List.{flat_map}
use Rattle.std.proofs.lemmas.Bool.{cases_lt}
use Rattle.std.proofs.lemmas.List.Concat.{flat_map-append}
use Rattle.std.proofs.lemmas.Bool.Decides.{nat_tests}
use Rattle.hash_word.specs.Hash.{probing_of}
use Rattle.image_layout.specs.Bucket.{allocated, note_used, note_member, note_finger, note_index, overflow_count}
use Rattle.image_layout.specs.Notes.{numbers_below, note_piece}
use Rattle.image_layout.specs.Places.{Shape}
use Rattle.image_layout.specs.Standing.{stash_piece}
use Rattle.sound_image.specs.Segments.{ImageWords}
use Rattle.sound_image.specs.Records.{word_in, slot_hash, notes_in, notes_of, stashed_in, stashed_of, HasExactNotes}
use Rattle.sound_image.proofs.Unnoted.{HasNote, IsUnnoted, IsUnstashed}

-- a list of pieces of which all are empty
all_empty : {X : Type 0} (f : ℕ → List X) (n : ℕ) → ((i : ℕ) → i < n → f i ≡ []) → flat_map f (numbers_below n) ≡ []
all_empty f zero none = refl
all_empty f (suc n) none =
    flat_map-append f (numbers_below n) (n ∷ []) ∙ rw (all_empty f n (λ i h. none i (omega arith)), none n (omega arith)) refl

-- and of pieces whose list is empty each is
each_empty : {X : Type 0} (f : ℕ → List X) (n : ℕ) → length (flat_map f (numbers_below n)) ≡ 0 → (i : ℕ) → i < n → length (f i) ≡ 0
each_empty f zero none i h = absurd (omega arith)
each_empty f (suc n) none i h =
    let parts : length (flat_map f (numbers_below n)) + length (flat_map f (n ∷ [])) ≡ 0 =
    sym (length-append (flat_map f (numbers_below n)) (flat_map f (n ∷ []))) ∙ ap length (sym (flat_map-append f (numbers_below n) (n ∷ []))) ∙ none in
    let last : length (f n) + 0 ≡ length (flat_map f (n ∷ [])) = sym (length-append (f n) []) in
    ⊎_elim (λ below. each_empty f n (omega arith) i below)
    (λ above. let same : i ≡ n = omega arith in ap (λ j. length (f j)) same ∙ omega arith)
    (cases_lt i n)

-- a piece that is there only where two tests pass
nothing_there : {X : Type 0} (a b c d : ℕ) (xs : List X) → (a ≡ b → c ≡ d → ⊥) → (if (a == b) && (c == d) then xs else []) ≡ []
nothing_there a b c d xs never = grind (arith, nat_tests)

something_there : {X : Type 0} (a b c d : ℕ) (x : X) → length (if (a == b) && (c == d) then x ∷ [] else []) ≡ 0 → a ≡ b → c ≡ d → ⊥
something_there a b c d x none e f = grind (arith, nat_tests)

module _ (shape : Shape) (word : ImageWords) (s : ℕ) where
  -- the note on place i of bucket b
  abbrev piece : ℕ → ℕ → ℕ → List (ℕ × ℕ)
  piece b side i =
      note_piece side (note_used i (word_in shape word s b 1)) (note_member i (word_in shape word s b 1))
      (note_finger i (word_in shape word s b 1) (word_in shape word s b 3)) (note_index i (word_in shape word s b 1))

  none_in : (b side : ℕ) → (HasNote (word_in shape word s b 1) side → ⊥) → notes_in shape word s b side ≡ []
  none_in b side none =
      all_empty (piece b side) 4
      (λ i h. nothing_there _ _ _ _ _ (λ used at. none (record { note_slot = i; within = h; used = used; on_side = at })))

  no_note : (b side : ℕ) → length (notes_in shape word s b side) ≡ 0 → HasNote (word_in shape word s b 1) side → ⊥
  no_note b side none n =
      something_there _ _ _ _ _ (each_empty (piece b side) 4 none n.note_slot n.within) n.used n.on_side

  abbrev stashed_piece : ℕ → ℕ → ℕ → List (ℕ × ℕ)
  stashed_piece b k r = stash_piece b k (allocated r (word_in shape word s (64 + k) 1)) (slot_hash shape word s (64 + k) r)

  none_stashed : (b k : ℕ) → k < 2 → IsUnstashed shape word s b → stashed_in shape word s b k ≡ []
  none_stashed b k two none = all_empty (stashed_piece b k) 14 (λ r slot. nothing_there _ _ _ _ _ (λ taken home. none k r two slot taken home))

  none_in_stash : (b : ℕ) → IsUnstashed shape word s b → stashed_of shape word s b ≡ []
  none_in_stash b none = rw (none_stashed b 0 (omega arith) none, none_stashed b 1 (omega arith) none) refl

  pub unnoted-exact : (b : ℕ) → IsUnstashed shape word s b → IsUnnoted shape word s b → HasExactNotes shape word s b
  unnoted-exact b unstashed u =
      let none : notes_of shape word s b ≡ [] = rw (none_in b 0 u.none_here, none_in (probing_of b) 1 u.none_beside) refl in
      record {
        names_different = λ note. rw none (omega arith);
        counts_others = rw (none, none_in_stash b unstashed, u.no_count) refl;
      }

  pub exact-unnoted : (b : ℕ) → IsUnstashed shape word s b → HasExactNotes shape word s b → IsUnnoted shape word s b
  exact-unnoted b unstashed e =
      let all : overflow_count (word_in shape word s b 1) + length (notes_of shape word s b) ≡ 0 = e.counts_others ∙ ap length (none_in_stash b unstashed) in
      let parts : length (notes_of shape word s b) ≡ length (notes_in shape word s b 0) + length (notes_in shape word s (probing_of b) 1) =
      length-append (notes_in shape word s b 0) (notes_in shape word s (probing_of b) 1) in
      record {
        no_count = omega (arith, all);
        none_here = no_note b 0 (omega (arith, all, parts));
        none_beside = no_note (probing_of b) 1 (omega (arith, all, parts));
      }
