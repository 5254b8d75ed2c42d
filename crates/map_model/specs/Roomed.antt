-- The entries of each caller as contracts see a `Lists`, with the room that is left beside each.
use Rattle.std.specs.Prelude.{ℕ, zero, suc, ◌-◌, List, [], ◌∷◌, ◌++◌, map}
use Rattle.map_model.specs.declared.entry.Entry.{Entry}

-- one caller's entries, and for how many more there is room
pub record Roomed : Type 0 where
  pub entries : List Entry
  pub spare : ℕ

-- no entry, and room for so many
abbrev pub with_room : ℕ → Roomed
with_room n = record { entries = []; spare = n }

-- one entry more at the end, and room for one less
abbrev pub one_more : Roomed → Entry → Roomed
one_more kept entry = record { entries = kept.entries ++ entry ∷ []; spare = kept.spare - 1 }

-- the lists with one entry more at the end of the i-th
abbrev pub with_entry : List Roomed → ℕ → Entry → List Roomed
with_entry [] i entry = []
with_entry (kept ∷ others) zero entry = one_more kept entry ∷ others
with_entry (kept ∷ others) (suc i) entry = kept ∷ with_entry others i entry

-- the entries alone
abbrev pub lists_of : List Roomed → List (List Entry)
lists_of kept = map (λ k. k.entries) kept
