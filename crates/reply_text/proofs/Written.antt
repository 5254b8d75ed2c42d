-- What was written may be put in other words.
use Rattle.std.proofs.Common.{◌≡◌, ◌∙◌, ap, sym, ℕ, ◌+◌, ◌<◌, List, ◌∷◌, ◌++◌, length, get_or, drop, append_assoc, Result, Ok, Err, OnOk}
use Rattle.std.proofs.lemmas.List.{at_drop_more}

pub by_equation : {T E A : Type 0} (r : Result T E) (a b c : A) → OnOk r (a ≡ b) → b ≡ c → OnOk r (a ≡ c)
by_equation (Ok x) a b c h e = h ∙ e
by_equation (Err x) a b c h e = tt

-- with what is written for one item more, what is to come is that of the items behind it
pub one_more : {X A : Type 0} (lines : List X → List A) (xs : List X) (i : ℕ) (d : X) (own old new all : List A)
    → i < length xs → lines (get_or xs i d ∷ drop (i + 1) xs) ≡ own ++ lines (drop (i + 1) xs)
    → new ≡ old ++ own → old ++ lines (drop i xs) ≡ all → new ++ lines (drop (i + 1) xs) ≡ all
one_more lines xs i d own old new all within one written so_far =
    ap (λ text. text ++ lines (drop (i + 1) xs)) written ∙ append_assoc old own (lines (drop (i + 1) xs))
    ∙ ap (λ rest. old ++ rest) (sym (at_drop_more lines xs i d within ∙ one)) ∙ so_far
