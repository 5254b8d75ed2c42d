-- A sorted map's entries, seen as a finite map, change at a key as the finite map does.
use Rattle.std.proofs.Common.{◌≡◌, ℕ, List, [], ◌∷◌, cond, Option, Some, None, refl, sym, ap, ◌∙◌}
use Rattle.std.specs.Ordering.{nat_cmp}
use Rattle.std.specs.Cmp.{nat_cmp_total, eq_by_cmp_equiv}
use Rattle.std.specs.FinMap.{get, insert, remove, from_entries, find, get-from_entries, get-insert, get-remove, same_map, nat_cmp-IsAntisymmetric}
use Rattle.std.specs.Map.{lookup}
use Rattle.std.specs.BTreeMap.{is_at}

-- what the entries have at a key
abbrev pub value_at : List (ℕ × ℕ) → ℕ → Option ℕ
value_at entries key = lookup (is_at (nat_cmp key)) entries

find-value_at : (entries : List (ℕ × ℕ)) (key : ℕ) → find nat_cmp key entries ≡ value_at entries key
find-value_at [] key = refl
find-value_at (e ∷ entries) key = ap (cond (is_at (nat_cmp key) e.0) (Some e.1)) (find-value_at entries key)

pub get-from_entries_at : (entries : List (ℕ × ℕ)) (key : ℕ) → get (from_entries {R = nat_cmp} entries) key ≡ value_at entries key
get-from_entries_at entries key = get-from_entries nat_cmp_total entries key ∙ find-value_at entries key

module _ (old new : List (ℕ × ℕ)) (key : ℕ) where
  -- new entries that differ from the old ones by a value at one key
  pub from_entries-inserted : (value : ℕ) → ((q : ℕ) → value_at new q ≡ cond (is_at (nat_cmp key) q) (Some value) (value_at old q)) → from_entries {R = nat_cmp} new ≡ insert (from_entries old) key value
  from_entries-inserted value updates = same_map nat_cmp_total nat_cmp-IsAntisymmetric _ _ (λ q.
      get-from_entries_at new q ∙ updates q
      ∙ ap (λ b. cond b (Some value) (value_at old q)) ((eq_by_cmp_equiv nat_cmp_total).symm key q)
      ∙ sym (get-insert nat_cmp_total (from_entries old) key value q ∙ ap (cond (is_at (nat_cmp q) key) (Some value)) (get-from_entries_at old q)))

  -- or by nothing there
  pub from_entries-removed : ((q : ℕ) → value_at new q ≡ cond (is_at (nat_cmp key) q) None (value_at old q)) → from_entries {R = nat_cmp} new ≡ remove (from_entries old) key
  from_entries-removed updates = same_map nat_cmp_total nat_cmp-IsAntisymmetric _ _ (λ q.
      get-from_entries_at new q ∙ updates q
      ∙ ap (λ b. cond b None (value_at old q)) ((eq_by_cmp_equiv nat_cmp_total).symm key q)
      ∙ sym (get-remove nat_cmp_total (from_entries old) key q ∙ ap (cond (is_at (nat_cmp q) key) None) (get-from_entries_at old q)))
