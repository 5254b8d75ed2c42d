-- Overflow notes: what home buckets remember of their records that stand in the stash.
use Rattle.std.specs.Prelude.{◌≡◌, ℕ, zero, suc, ◌+◌, ◌≤◌, ◌==◌, ◌&&◌, List, [], ◌∷◌, ◌++◌, length, filter, if◌then◌else◌}
use Rattle.std.specs.List.{flat_map}
use Rattle.bucket_meta.specs.Bucket.{note_slots, note_used, note_member, note_finger, note_index}

-- the numbers below n
abbrev pub numbers_below : ℕ → List ℕ
numbers_below zero = []
numbers_below (suc n) = numbers_below n ++ n ∷ []

-- an overflow note, or a record in the stash, as its fingerprint and its stash bucket
abbrev pub OverflowNote : Type 0
OverflowNote = ℕ × ℕ

abbrev pub how_often : OverflowNote → List OverflowNote → ℕ
how_often note notes = length (filter (λ other. (other.0 == note.0) && (other.1 == note.1)) notes)

-- a note slot of a bucket has a note for records of this side
pub record IsNoteOn (w1 side i : ℕ) : Type 0 where
  pub used : note_used i w1 ≡ 1
  pub on_side : note_member i w1 ≡ side

-- what a note slot gives the notes of this side: its note, with this fingerprint and index, if it is used and of that side, or nothing
abbrev pub note_piece : (side used side_of finger index : ℕ) → List OverflowNote
note_piece side used side_of finger index = if (used == 1) && (side_of == side) then (finger, index) ∷ [] else []

-- the notes on the four note slots of a bucket that are its own home's (`home_side`), or those of the home that has
-- it as its probing bucket (`probing_side`), where each place is used or not, is of a side, and has a fingerprint and an index
abbrev pub notes_on : (used side_of finger_on index_on : ℕ → ℕ) → ℕ → List OverflowNote
notes_on used side_of finger_on index_on side =
    flat_map (λ i. note_piece side (used i) (side_of i) (finger_on i) (index_on i)) (numbers_below note_slots)

-- the notes of a bucket of one side, by its words 1 and 3
abbrev pub notes_by : ℕ → ℕ → ℕ → List OverflowNote
notes_by w1 w3 side = notes_on (λ i. note_used i w1) (λ i. note_member i w1) (λ i. note_finger i w1 w3) (λ i. note_index i w1) side

-- notes and a count are exact for the records of one home that stand in the stash: the notes name different ones
-- of them, and the count is the number of the others
pub record AreExact (notes : List OverflowNote) (count : ℕ) (stashed : List OverflowNote) : Type 0 where
  pub names_different : (note : OverflowNote) → how_often note notes ≤ how_often note stashed
  pub counts_others : count + length notes ≡ length stashed
