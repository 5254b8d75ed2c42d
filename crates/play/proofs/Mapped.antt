-- A list of which the elements are changed one after another.
use Rattle.std.proofs.Common.{◌≡◌, ℕ, zero, suc, ◌<◌, Some, List, [], ◌∷◌, ◌++◌, length, take, drop, map, refl, ap, sym, ◌∙◌, arith}
use Rattle.std.specs.Prelude.{replicate, slice_get, slice_set, slice_index_or}

-- the elements before i are changed, and those behind it are to be
pub map_step : {X : Type 0} (f : X → X) (xs : List X) (i : ℕ) (d : X) → i < length xs
    → take (suc i) (slice_set xs i (f (slice_index_or xs i d))) ++ map f (drop (suc i) (slice_set xs i (f (slice_index_or xs i d))))
    ≡ take i xs ++ map f (drop i xs)
map_step f [] i d lt = absurd (omega arith)
map_step f (y ∷ xs) zero d lt = refl
map_step f (y ∷ xs) (suc i) d lt = ap (λ zs. y ∷ zs) (map_step f xs i d (omega arith))

take_none : {X : Type 0} (xs : List X) → take 0 xs ≡ []
take_none [] = refl
take_none (x ∷ xs) = refl

-- what is made of the elements before i stands in front, and nothing behind it
pub map_set : {X Y : Type 0} (f : X → Y) (none : Y) (xs : List X) (i m : ℕ) (x : X) → slice_get xs i ≡ Some x
    → slice_set (map f (take i xs) ++ replicate (suc m) none) i (f x) ≡ map f (take (suc i) xs) ++ replicate m none
map_set f none [] i m x is = absurd (cc)
map_set f none (y ∷ xs) zero m x is =
    let same : x ≡ y = cc in ap (λ z. f z ∷ replicate m none) same ∙ ap (λ ys. f y ∷ (map f ys ++ replicate m none)) (sym (take_none xs))
map_set f none (y ∷ xs) (suc i) m x is = ap (λ ys. f y ∷ ys) (map_set f none xs i m x is)
