-- The set of stash buckets to visit has those that notes name, and over exact data each that a record stands in.
use Rattle.std.proofs.Common.{◌≡◌, ℕ, zero, suc, ◌+◌, ◌*◌, ◌<◌, Bool, true, false, IsTrue, ◌↔◌, List, [], ◌∷◌, ◌++◌, length, sym, ◌∙◌, inl, inr, arith, below_more, Option, Some, None, is_some, MatchOption, Contains}
use borrow.Author.Count.{below_none}
use Rattle.std.proofs.Math.Nat.{eq-zero-or-pos}
use Rattle.std.specs.Prelude.{slice_index_or}
use Rattle.bucket_meta.specs.declared.metadata.Meta.{Meta}
use Rattle.word_bits.specs.Bits.{bit}
use Rattle.bucket_meta.specs.Notes.{OverflowNote, how_often}
use Rattle.stash.specs.Exact.{notes_at}
use Rattle.stash.specs.NoteSlots.{IsNoteAt, IsLowest, HoldsNowhere}
use Rattle.bucket_meta.proofs.Counts.{how_often-append}
use Rattle.bucket_meta.proofs.ExactNotes.{same_or_other, often_head}
use Rattle.stash.proofs.Homes.{not_held, held}

pub each_stash : (P : ℕ → Type 0) → P 0 → P 1 → (k : ℕ) → k < 2 → P k
each_stash P p0 p1 = below_more P 1 (below_more P 0 (below_none P) p0) p1

pub has_by_note_slot : (found : Option ℕ) (answer : Bool) (meta : Meta) (side : ℕ) (note : OverflowNote) → answer ≡ is_some found
    → MatchOption found (HoldsNowhere (IsNoteAt meta side note)) (IsLowest (IsNoteAt meta side note)) → IsTrue answer ↔ (0 < how_often note (notes_at meta side))
has_by_note_slot None answer meta side note e nowhere =
    (λ yes. absurd (cc (e, yes)), λ some. absurd (omega (arith, some, not_held meta side note nowhere)))
has_by_note_slot (Some k) answer meta side note e lowest =
    (λ yes. held meta side k note lowest.here lowest.within, λ some. e)

pub named_by_first : (note : OverflowNote) (first second : List OverflowNote) (x : Bool) → x ≡ true → (IsTrue x ↔ (0 < how_often note first))
    → IsTrue x ↔ (0 < how_often note (first ++ second))
named_by_first note first second x has by_first = (λ _. omega (arith, how_often-append note first second, by_first.0 has), λ _. has)

pub named_by_second : (note : OverflowNote) (first second : List OverflowNote) (x y : Bool) → x ≡ false → (IsTrue x ↔ (0 < how_often note first)) → (IsTrue y ↔ (0 < how_often note second))
    → IsTrue y ↔ (0 < how_often note (first ++ second))
named_by_second note first second x y lacks by_first by_second =
    let both = how_often-append note first second in
    let not_first : how_often note first ≡ 0 =
    elim (eq-zero-or-pos (how_often note first)) [ inl none ↦ none | inr some ↦ absurd (cc (lacks, by_first.1 some)) ] in
    (λ yes. omega (arith, both, by_second.0 yes), λ some. by_second.1 (omega (arith, both, not_first, some)))

low_of_two : (m n : ℕ) → m < 2 → n < 2 → bit 0 (m + 2 * n) ≡ m
low_of_two m n a b = omega arith

high_of_two : (m n : ℕ) → m < 2 → n < 2 → bit 1 (m + 2 * n) ≡ n
high_of_two m n a b = omega arith

pub set_of_two : (P : ℕ → Type 0) (first second : ℕ) → first < 2 → second < 2 → ((first ≡ 1) ↔ P 0) → ((second ≡ 1) ↔ P 1)
    → (k : ℕ) → k < 2 → (bit k (first + 2 * second) ≡ 1) ↔ P k
set_of_two P first second first_fits second_fits by_first by_second =
    let low = low_of_two first second first_fits second_fits in
    let high = high_of_two first second first_fits second_fits in
    let Q : ℕ → Type 0 = λ k. (bit k (first + 2 * second) ≡ 1) ↔ P k in
    each_stash Q
    (λ one. by_first.0 (sym low ∙ one), λ holds. low ∙ by_first.1 holds)
    (λ one. by_second.0 (sym high ∙ one), λ holds. high ∙ by_second.1 holds)

often_at : (note : OverflowNote) (notes : List OverflowNote) (k : ℕ) → k < length notes → slice_index_or notes k note ≡ note → 0 < how_often note notes
often_at note [] k within here = absurd (omega arith)
often_at note (first ∷ notes) zero within here =
    elim (same_or_other note first) [
      | inl same ↦ omega (arith, often_head note first notes, same.1)
      | inr differs ↦ absurd (differs.0 (sym here))
    ]
often_at note (first ∷ notes) (suc k) within here = omega (arith, often_head note first notes, often_at note notes k (omega arith) here)

pub often_contained : (note : OverflowNote) (notes : List OverflowNote) → Contains notes note → 0 < how_often note notes
often_contained note notes there = often_at note notes there.0 there.1 there.2
