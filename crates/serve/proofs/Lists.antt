-- One list among others gets its entries.
use Rattle.std.proofs.Common.{◌≡◌, ℕ, zero, suc, ◌+◌, ◌-◌, List, [], ◌∷◌, ◌++◌, length, Some, slice_get, refl, sym, ap, ◌∙◌, arith}
use Rattle.std.specs.Prelude.{take}
use Rattle.map_model.specs.declared.entry.Entry.{Entry}
use Rattle.map_model.specs.Roomed.{Roomed, with_entry, one_more}
use Rattle.serve.specs.Jobs.{among}

pub there : (before : List Roomed) (one : Roomed) (behind : List Roomed) → slice_get (among before one behind) (length before) ≡ Some one
there [] one behind = refl
there (x ∷ before) one behind = there before one behind

pub with_one : (before : List Roomed) (one : Roomed) (behind : List Roomed) (e : Entry) → with_entry (among before one behind) (length before) e ≡ among before (one_more one e) behind
with_one [] one behind e = refl
with_one (x ∷ before) one behind e = ap (λ (ls : List Roomed). x ∷ ls) (with_one before one behind e)

pub same_length : (before : List Roomed) (one other : Roomed) (behind : List Roomed) → length (among before one behind) ≡ length (among before other behind)
same_length [] one other behind = refl
same_length (x ∷ before) one other behind = ap suc (same_length before one other behind)

pub length-with_entry : (lists : List Roomed) (i : ℕ) (e : Entry) → length (with_entry lists i e) ≡ length lists
length-with_entry [] i e = refl
length-with_entry (x ∷ lists) zero e = refl
length-with_entry (x ∷ lists) (suc i) e = ap suc (length-with_entry lists i e)

-- one entry more is listed
pub listed_more : (lists new before behind : List Roomed) (at i : ℕ) (told : List Entry) (e : Entry) → length before ≡ at
    → lists ≡ among before (record { entries = take i told; spare = length told - i }) behind → take (i + 1) told ≡ take i told ++ e ∷ []
    → new ≡ with_entry lists at e → new ≡ among before (record { entries = take (i + 1) told; spare = length told - (i + 1) }) behind
listed_more lists new before behind at i told e long was more is =
    let one : Roomed = record { entries = take i told; spare = length told - i } in
    let less : length told - i - 1 ≡ length told - (i + 1) = omega arith in
    is ∙ ap (λ (ls : List Roomed). with_entry ls at e) was
    ∙ ap (λ (n : ℕ). with_entry (among before one behind) n e) (sym long)
    ∙ with_one before one behind e
    ∙ ap (λ (es : List Entry). among before (record { entries = es; spare = length told - i - 1 }) behind) (sym more)
    ∙ ap (λ (n : ℕ). among before (record { entries = take (i + 1) told; spare = n }) behind) less
