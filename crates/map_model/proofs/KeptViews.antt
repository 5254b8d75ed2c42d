-- A change of one caller's vector is the same change of that caller's entries and room.
use Rattle.std.proofs.Common.{◌≡◌, ◌<◌, ◌+◌, ◌-◌, ℕ, zero, suc, List, [], ◌∷◌, ◌++◌, Some, map, length, refl, ap, arith, vec_len, vec_capacity, Vec, Global}
use Rattle.std.specs.Prelude.{slice_get, slice_set, slice_index_or}
use Rattle.map_model.specs.declared.entry.Entry.{Entry}
use Rattle.map_model.specs.Roomed.{Roomed, one_more, with_entry, lists_of}

-- a caller's vector as contracts see it
abbrev pub kept_of : Vec Entry Global → Roomed
kept_of list = record { entries = list.items; spare = vec_capacity list - vec_len list }

abbrev pub all_kept : List (Vec Entry Global) → List Roomed
all_kept lists = map (λ list. kept_of list) lists

pub lists_of-all_kept : (lists : List (Vec Entry Global)) → lists_of (all_kept lists) ≡ map (λ list. list.items) lists
lists_of-all_kept [] = refl
lists_of-all_kept (list ∷ lists) = ap (λ rest. list.items ∷ rest) (lists_of-all_kept lists)

pub slice_get-all_kept : (lists : List (Vec Entry Global)) (i : ℕ) (list : Vec Entry Global) → i < length lists → list ≡ slice_index_or lists i list
    → slice_get (lists_of (all_kept lists)) i ≡ Some list.items
slice_get-all_kept [] i list within there = absurd (omega arith)
slice_get-all_kept (first ∷ lists) zero list within there = cc
slice_get-all_kept (first ∷ lists) (suc i) list within there = slice_get-all_kept lists i list (omega arith) there

-- a push into room that was left
pub kept_of-push : (old new : Vec Entry Global) (entry : Entry) → new.items ≡ old.items ++ entry ∷ [] → vec_len new ≡ vec_len old + 1 → vec_capacity new ≡ vec_capacity old
    → kept_of new ≡ one_more (kept_of old) entry
kept_of-push old new entry items len capacity =
    let spare : vec_capacity new - vec_len new ≡ vec_capacity old - vec_len old - 1 = omega arith in
    λ j. record { entries = items j; spare = spare j }

pub all_kept-set : (lists : List (Vec Entry Global)) (i : ℕ) (old new : Vec Entry Global) (entry : Entry)
    → old ≡ slice_index_or lists i old → kept_of new ≡ one_more (kept_of old) entry
    → all_kept (slice_set lists i new) ≡ with_entry (all_kept lists) i entry
all_kept-set [] i old new entry there pushed = refl
all_kept-set (list ∷ lists) zero old new entry there pushed = cc
all_kept-set (list ∷ lists) (suc i) old new entry there pushed = ap (λ rest. kept_of list ∷ rest) (all_kept-set lists i old new entry there pushed)
