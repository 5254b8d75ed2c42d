-- Lines that are added one after another, each by its number.
use Rattle.std.proofs.Common.{◌≡◌, ℕ, ◌+◌, List, [], ◌∷◌, ◌++◌, length, map, length-append, append_assoc, ap, sym, ◌∙◌, arith}
use Rattle.std.specs.List.{range_with_len}
use Rattle.std.proofs.lemmas.List.FromFn.{map-range_with_len_more}
use Rattle.script_text.specs.declared.line.Line.{Line}

pub one_line_more : (f : ℕ → Line) (n : ℕ) (first old new : List Line) (line : Line) → new ≡ old ++ line ∷ [] → old ≡ first ++ map f (range_with_len 0 n) → line ≡ f n
    → new ≡ first ++ map f (range_with_len 0 (n + 1))
one_line_more f n first old new line e was is =
    e ∙ ap (λ ls. ls ++ line ∷ []) was ∙ append_assoc first (map f (range_with_len 0 n)) (line ∷ [])
    ∙ ap (λ l. first ++ (map f (range_with_len 0 n) ++ l ∷ [])) is ∙ ap (λ ls. first ++ ls) (sym (map-range_with_len_more f 0 n n (omega arith)))

pub one_longer : (a n : ℕ) (old new : List Line) (line : Line) → new ≡ old ++ line ∷ [] → length old ≡ a + n → length new ≡ a + (n + 1)
one_longer a n old new line e was = let long = ap length e ∙ length-append old (line ∷ []) in omega (arith, long, was)
