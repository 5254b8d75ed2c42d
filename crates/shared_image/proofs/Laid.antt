-- Words with zeros behind them are the same words.
use Rattle.std.proofs.Common.{◌≡◌, ℕ, zero, suc, ◌≤◌, List, [], ◌∷◌, ◌++◌, length, refl, sym, ap, ◌∙◌, subst}
use Rattle.std.specs.Prelude.{replicate, slice_index, take}
use Rattle.std.proofs.lemmas.List.{take_all}
use mathlib.Core.Path.{fun_ext}
use Rattle.world.proofs.basics.Lists.{zeros}
use Rattle.vlock.specs.Ruling.{word}

padded : (xs : List ℕ) (n i : ℕ) → slice_index (xs ++ replicate n 0) i ≡ slice_index xs i
padded [] n i = zeros n i
padded (x ∷ xs) n zero = refl
padded (x ∷ xs) n (suc i) = padded xs n i

pub laid : (xs zs ys : List ℕ) (total n : ℕ) → ys ≡ take total zs ++ replicate n 0 → zs ≡ xs → length xs ≤ total → word ys ≡ slice_index xs
laid xs zs ys total n is same long =
    let all : ys ≡ xs ++ replicate n 0 = is ∙ ap (λ (ws : List ℕ). take total ws ++ replicate n 0) same ∙ ap (λ (ws : List ℕ). ws ++ replicate n 0) (take_all total xs long) in
    fun_ext (λ i. subst (λ (ws : List ℕ). slice_index ws i ≡ slice_index xs i) (sym all) (padded xs n i))
