-- Text with a byte in it is parted at the byte's first place, and its front lacks that byte.
use Rattle.std.proofs.Common.{◌≡◌, ◌≢◌, ℕ, ◌+◌, ◌-◌, ◌<◌, ◌≤◌, List, [], ◌∷◌, ◌++◌, length, get_or, take, drop, zero, suc, sym, ap, ◌∙◌, arith, add-one}
use Rattle.std.proofs.Math.Seq.{drop-cons}
use Rattle.std.proofs.lemmas.List.{take-append-drop, take_rest}
use Rattle.std.specs.List.{AllByRecursion}
use Rattle.script_text.specs.Finding.{IsFirstAt}

-- no byte of a list is this one
abbrev pub Lacks : ℕ → List ℕ → Type 0
Lacks byte bytes = AllByRecursion (λ other. other ≢ byte) bytes

pub Lacks-take : (byte : ℕ) (bytes : List ℕ) (place : ℕ) → place ≤ length bytes → ((i : ℕ) → i < place → get_or bytes i 0 ≢ byte) → Lacks byte (take place bytes)
Lacks-take byte bytes zero le none = tt
Lacks-take byte [] (suc place) le none = tt
Lacks-take byte (b ∷ bytes) (suc place) le none =
    (none 0 (omega arith), Lacks-take byte bytes place (omega arith) (λ i lt. none (suc i) (omega arith)))

pub Lacks-all : (byte : ℕ) (bytes : List ℕ) → ((i : ℕ) → i < length bytes → get_or bytes i 0 ≢ byte) → Lacks byte bytes
Lacks-all byte [] none = tt
Lacks-all byte (b ∷ bytes) none = (none 0 (omega arith), Lacks-all byte bytes (λ i lt. none (suc i) (omega arith)))

-- text is parted by a byte at its first place
pub parted_at : (byte : ℕ) (bytes : List ℕ) (place : ℕ) → IsFirstAt byte bytes place
    → bytes ≡ take place bytes ++ byte ∷ take (length bytes - (place + 1)) (drop (place + 1) bytes)
parted_at byte bytes place first =
    let lt : place < length bytes = first.within in
    let next : drop (suc place) bytes ≡ take (length bytes - (place + 1)) (drop (place + 1) bytes) =
    ap (λ (n : ℕ). drop n bytes) (sym (add-one place)) ∙ sym (take_rest bytes (place + 1)) in
    sym (take-append-drop place bytes)
    ∙ ap (λ (t : List ℕ). take place bytes ++ t) (drop-cons bytes place 0 lt ∙ ap (λ (b : ℕ). b ∷ drop (suc place) bytes) first.here ∙ ap (λ (t : List ℕ). byte ∷ t) next)

-- the front of text that is parted lacks the byte
pub Lacks-front : (byte : ℕ) (bytes : List ℕ) (place : ℕ) → IsFirstAt byte bytes place → Lacks byte (take place bytes)
Lacks-front byte bytes place first = let lt : place < length bytes = first.within in Lacks-take byte bytes place (omega arith) first.before
