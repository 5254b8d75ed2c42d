-- The views of all seats in one list, and the words of the table with one stored.
use Rattle.std.proofs.Common.{◌≡◌, inl, inr, ℕ, zero, suc, ◌<◌, List, [], ◌∷◌, ◌++◌, length, set, get_or, cond, refl, sym, ap, ◌∙◌, get_or-set_other, get_or-set_same, eqb}
use Rattle.std.proofs.lemmas.Bool.{cases_Bool, eqb-true, eqb-false}
use mathlib.Core.Path.{fun_ext}
use mathlib.Core.Option.{some, some-injective, some-ne-none}
use lib.ListN.{get_elem?}
use Rattle.trace.specs.Events.{with_word}
use Rattle.world.specs.Views.{View, At}
use Rattle.vlock.specs.declared.knows.Watch.{Watch}
use Rattle.vlock.specs.Ruling.{word, all_views}

-- a number behind those of a list
abbrev pub behind : List View → ℕ → ℕ
behind [] n = n
behind (x ∷ xs) n = suc (behind xs n)

-- where the own view of a seat stands
abbrev pub place : List Watch → ℕ → ℕ
place [] i = 0
place (p ∷ ps) zero = 0
place (p ∷ ps) (suc i) = suc (behind p.past (place ps i))

past_behind : (xs ys : List View) (n : ℕ) → get_elem? (xs ++ ys) (behind xs n) ≡ get_elem? ys n
past_behind [] ys n = refl
past_behind (x ∷ xs) ys n = past_behind xs ys n

set_behind : (xs ys : List View) (n : ℕ) (w : View) → set (xs ++ ys) (behind xs n) w ≡ xs ++ set ys n w
set_behind [] ys n w = refl
set_behind (x ∷ xs) ys n w = ap (λ (zs : List View). x ∷ zs) (set_behind xs ys n w)

pub at_place : (ps : List Watch) (i : ℕ) (p : Watch) → get_elem? ps i ≡ some p → At (all_views ps) (place ps i) p.view
at_place [] i p e = absurd (some-ne-none p (sym e))
at_place (q ∷ ps) zero p e = ap (λ (z : Watch). some z.view) (some-injective q p e)
at_place (q ∷ ps) (suc i) p e = past_behind q.past (all_views ps) (place ps i) ∙ at_place ps i p e

pub set_place : (ps : List Watch) (i : ℕ) (p w : Watch) → get_elem? ps i ≡ some p → w.past ≡ p.past → set (all_views ps) (place ps i) w.view ≡ all_views (set ps i w)
set_place [] i p w e same = absurd (some-ne-none p (sym e))
set_place (q ∷ ps) zero p w e same = ap (λ (zs : List View). w.view ∷ (zs ++ all_views ps)) (ap (λ (z : Watch). z.past) (some-injective q p e) ∙ sym same)
set_place (q ∷ ps) (suc i) p w e same = ap (λ (zs : List View). q.view ∷ zs) (set_behind q.past (all_views ps) (place ps i) w.view ∙ ap (λ (zs : List View). q.past ++ zs) (set_place ps i p w e same))

-- a table's words with one stored
pub stored_word : (ws : List ℕ) (i x : ℕ) → i < length ws → with_word (word ws) i x ≡ word (set ws i x)
stored_word ws i x h = fun_ext (λ n. elim (cases_Bool (eqb n i)) [
  | inl t ↦ ap (λ b. cond b x (get_or ws n 0)) t ∙ sym (ap (λ (m : ℕ). get_or (set ws i x) m 0) (eqb-true n i t) ∙ get_or-set_same ws i x 0 h)
  | inr f ↦ ap (λ b. cond b x (get_or ws n 0)) f ∙ sym (get_or-set_other ws i n x 0 (eqb-false n i f))
])
