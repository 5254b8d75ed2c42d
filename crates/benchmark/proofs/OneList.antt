-- One caller's list keeps its room for the entries that are still to come.
use Rattle.std.proofs.Common.{◌≡◌, ℕ, ◌-◌, ◌<◌, ◌≤◌, List, [], ◌∷◌, length, arith}
use Rattle.std.specs.Prelude.{IfSome, slice_get}
use Rattle.map_model.specs.declared.entry.Entry.{Entry}
use Rattle.map_model.specs.Roomed.{Roomed, with_entry}

-- the only list has room for so many
abbrev pub HasRoom : ℕ → List Roomed → Type 0
HasRoom n [] = ⊥
HasRoom n (kept ∷ []) = kept.spare ≡ n
HasRoom n (kept ∷ more ∷ others) = ⊥

pub count : (n : ℕ) (lists : List Roomed) → HasRoom n lists → length lists ≡ 1
count n [] h = elim h [ ]
count n (kept ∷ []) h = omega arith
count n (kept ∷ (_ ∷ _)) h = elim h [ ]

pub spare : (n : ℕ) (lists : List Roomed) → HasRoom n lists → 0 < n → IfSome (slice_get lists 0) (λ kept. 0 < kept.spare)
spare n [] h some = elim h [ ]
spare n (kept ∷ []) h some = grind arith
spare n (kept ∷ (_ ∷ _)) h some = elim h [ ]

pub pushed : (n : ℕ) (lists : List Roomed) (e : Entry) → HasRoom n lists → HasRoom (n - 1) (with_entry lists 0 e)
pushed n [] e h = elim h [ ]
pushed n (kept ∷ []) e h = grind arith
pushed n (kept ∷ (_ ∷ _)) e h = elim h [ ]
