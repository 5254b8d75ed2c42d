-- Notes and a count that are exact stay so where a note, or a record without one, is added or taken away.
use Rattle.std.proofs.Common.{◌≡◌, ◌≢◌, ℕ, ◌+◌, ◌-◌, ◌≤◌, ◌<◌, ◌⊎◌, List, [], ◌∷◌, ◌++◌, length, ap, sym, ◌∙◌, refl, inl, inr, arith, length-append}
use Rattle.std.proofs.Math.Nat.{eq-zero-or-pos}
use Rattle.std.proofs.lemmas.Bool.Decides.{eqb_tells}
use Rattle.bucket_meta.specs.Notes.{OverflowNote, how_often, AreExact}
use Rattle.bucket_meta.proofs.Counts.{IsSum, how_often-append, how_often-is_sum, length-is_sum}

-- one list has what the other has and this note once more
pub record IsOneMore (more less : List OverflowNote) (note : OverflowNote) : Type 0 where
  pub often : (other : OverflowNote) → how_often other more ≡ how_often other less + how_often other (note ∷ [])
  pub longer : length more ≡ length less + 1

pub one_more_by_sums : (more less : List OverflowNote) (note : OverflowNote) → ((f : List OverflowNote → ℕ) → IsSum f → f more ≡ f less + f (note ∷ [])) → IsOneMore more less note
one_more_by_sums more less note sums =
    record { often = λ other. sums (how_often other) (how_often-is_sum other); longer = sums length length-is_sum }

-- and it has it once more beside others
pub more_left : (a b c : List OverflowNote) (note : OverflowNote) → IsOneMore a b note → IsOneMore (a ++ c) (b ++ c) note
more_left a b c note one = record {
  often = λ other. (let x = one.often other in let y = how_often-append other a c in let z = how_often-append other b c in omega (arith, x, y, z));
  longer = (let x = one.longer in let y = length-append a c in let z = length-append b c in omega (arith, x, y, z));
}

pub more_right : (a b c : List OverflowNote) (note : OverflowNote) → IsOneMore a b note → IsOneMore (c ++ a) (c ++ b) note
more_right a b c note one = record {
  often = λ other. (let x = one.often other in let y = how_often-append other c a in let z = how_often-append other c b in omega (arith, x, y, z));
  longer = (let x = one.longer in let y = length-append c a in let z = length-append c b in omega (arith, x, y, z));
}

abbrev pair : ℕ → ℕ → OverflowNote
pair finger index = (finger, index)

same_parts : (f i g j : ℕ) → g ≡ f → j ≡ i → pair f i ≡ pair g j
same_parts f i g j fingers indexes = cc

-- whether two notes are one is seen by how often the one is in a list of the other
pub same_or_other : (a b : OverflowNote) → ((a ≡ b) × (how_often a (b ∷ []) ≡ 1)) ⊎ ((a ≢ b) × (how_often a (b ∷ []) ≡ 0))
same_or_other a b =
    elim (eqb_tells b.0 a.0) [
      | inr fingers ↦ inr (λ e. fingers.1 (ap (λ n. n.0) (sym e)), rw (fingers.0) refl)
      | inl fingers ↦
          elim (eqb_tells b.1 a.1) [
            | inr indexes ↦ inr (λ e. indexes.1 (ap (λ n. n.1) (sym e)), rw (fingers.0, indexes.0) refl)
            | inl indexes ↦ inl (same_parts a.0 a.1 b.0 b.1 fingers.1 indexes.1, rw (fingers.0, indexes.0) refl)
          ]
    ]

pub often_head : (other note : OverflowNote) (notes : List OverflowNote) → how_often other (note ∷ notes) ≡ how_often other (note ∷ []) + how_often other notes
often_head other note notes = how_often-append other (note ∷ []) notes

-- a list with a note in it is one more than some list
pub taken : (note : OverflowNote) (notes : List OverflowNote) → 0 < how_often note notes → (rest : List OverflowNote) × IsOneMore notes rest note
taken note [] some = absurd (omega arith)
taken note (first ∷ notes) some =
    elim (same_or_other note first) [
      | inl same ↦ (
        notes,
        record {
          often = λ other.
              let by_first : how_often other (first ∷ []) ≡ how_often other (note ∷ []) = ap (λ n. how_often other (n ∷ [])) (sym same.0) in
              omega (arith, often_head other first notes, by_first);
          longer = omega arith;
        },
      )
      | inr differs ↦
          let within : 0 < how_often note notes = omega (arith, often_head note first notes, differs.1) in
          let inner = taken note notes within in (
            first ∷ inner.0,
            record {
              often = λ other. omega (arith, often_head other first notes, often_head other first inner.0, inner.1.often other);
              longer = omega (arith, inner.1.longer);
            },
          )
    ]

-- a list that has no note more often than another is not longer
pub not_longer : (few many : List OverflowNote) → ((note : OverflowNote) → how_often note few ≤ how_often note many) → length few ≤ length many
not_longer [] many less = omega arith
not_longer (first ∷ few) many less =
    let once : how_often first (first ∷ []) ≡ 1 = elim (same_or_other first first) [ inl same ↦ same.1 | inr differs ↦ absurd (differs.0 refl) ] in
    let rest = taken first many (omega (arith, less first, often_head first first few, once)) in
    let inner = not_longer few rest.0 (λ note. omega (arith, less note, often_head note first few, rest.1.often note)) in
    omega (arith, inner, rest.1.longer)

-- where no record is without a note, each record in the stash is named
pub each_is_named : (notes stashed : List OverflowNote) (count : ℕ) (note : OverflowNote) → AreExact notes count stashed → count ≡ 0 → 0 < how_often note stashed → 0 < how_often note notes
each_is_named notes stashed count note exact none some =
    elim (eq-zero-or-pos (how_often note notes)) [
      | inr named ↦ named
      | inl unnamed ↦
          let rest = taken note stashed some in
          let less : (other : OverflowNote) → how_often other notes ≤ how_often other rest.0 =
          (λ other. elim (same_or_other other note) [
            | inl same ↦
                let no_other : how_often other notes ≡ 0 = ap (λ n. how_often n notes) same.0 ∙ unnamed in
                omega (arith, no_other)
            | inr differs ↦ omega (arith, exact.names_different other, rest.1.often other, differs.1)
          ]) in
          absurd (omega (arith, not_longer notes rest.0 less, rest.1.longer, exact.counts_others))
    ]

-- ---- a record comes to the stash

pub exact_with_note : (more notes : List OverflowNote) (count : ℕ) (note : OverflowNote) (stashed : List OverflowNote) → IsOneMore more notes note
    → AreExact notes count stashed → AreExact more count (note ∷ stashed)
exact_with_note more notes count note stashed one exact =
    record {
      names_different = λ other. omega (arith, one.often other, exact.names_different other, often_head other note stashed);
      counts_others = omega (arith, one.longer, exact.counts_others);
    }

pub exact_with_count : (notes : List OverflowNote) (count : ℕ) (note : OverflowNote) (stashed : List OverflowNote) → AreExact notes count stashed → AreExact notes (count + 1) (note ∷ stashed)
exact_with_count notes count note stashed exact =
    record {
      names_different = λ other. omega (arith, exact.names_different other, often_head other note stashed);
      counts_others = omega (arith, exact.counts_others);
    }

-- ---- a record leaves the stash

pub exact_without_note : (notes fewer : List OverflowNote) (count : ℕ) (note : OverflowNote) (rest : List OverflowNote) → IsOneMore notes fewer note
    → AreExact notes count (note ∷ rest) → AreExact fewer count rest
exact_without_note notes fewer count note rest one exact =
    record {
      names_different = λ other. omega (arith, one.often other, exact.names_different other, often_head other note rest);
      counts_others = omega (arith, one.longer, exact.counts_others);
    }

pub exact_without_count : (notes : List OverflowNote) (count : ℕ) (note : OverflowNote) (rest : List OverflowNote) → how_often note notes ≡ 0 → 0 < count
    → AreExact notes count (note ∷ rest) → AreExact notes (count - 1) rest
exact_without_count notes count note rest unnamed some exact =
    record {
      names_different = λ other. elim (same_or_other other note) [
        | inl same ↦
            let no_other : how_often other notes ≡ 0 = ap (λ n. how_often n notes) same.0 ∙ unnamed in
            omega (arith, no_other)
        | inr differs ↦ omega (arith, exact.names_different other, often_head other note rest, differs.1)
      ];
      counts_others = omega (arith, exact.counts_others);
    }

-- ---- the order of the records does not matter

pub exact_moves : (notes : List OverflowNote) (count : ℕ) (note : OverflowNote) (stashed : List OverflowNote) → AreExact notes count (note ∷ stashed) → AreExact notes count (stashed ++ note ∷ [])
exact_moves notes count note stashed exact =
    record {
      names_different = λ other. omega (arith, exact.names_different other, often_head other note stashed, how_often-append other stashed (note ∷ []));
      counts_others = omega (arith, exact.counts_others, length-is_sum.both stashed (note ∷ []));
    }
