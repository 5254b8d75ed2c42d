-- The first line ends at the first line feed, and as many lines are counted as there are.
use Rattle.std.proofs.Common.{◌≡◌, ◌≢◌, ℕ, ◌+◌, ◌-◌, ◌<◌, ◌≤◌, List, [], ◌∷◌, ◌++◌, length, get_or, take, drop, zero, suc, Bool, true, false, cond, eqb, ◌&&◌, refl, sym, ap, ◌∙◌, subst, arith, add-zero}
use Rattle.std.proofs.lemmas.Bool.{ne_eqb, and_parts}
use Rattle.std.proofs.lemmas.List.{drop_all}
use Rattle.script_text.specs.Finding.{IsFirstAt}
use Rattle.script_text.specs.Splits.{begins_with, before_first, lines}
use Rattle.script_text.specs.Counting.{without_return, lines_to_come}
use Rattle.script_text.proofs.Finding.{Lacks, Lacks-all, Lacks-front, parted_at}

-- THE FIRST LINE
cut_at : ℕ → List ℕ → List ℕ
cut_at n line = cond (eqb (get_or line n 0) 13) (take n line) line

either_behind : (t : Bool) (b : ℕ) (x y : List ℕ) → cond t (b ∷ x) (b ∷ y) ≡ b ∷ cond t x y
either_behind true b x y = refl
either_behind false b x y = refl

cut_at-cons : (n b : ℕ) (line : List ℕ) → cut_at (suc n) (b ∷ line) ≡ b ∷ cut_at n line
unfolding cut_at
cut_at-cons n b line = either_behind (eqb (get_or line n 0) 13) b (take n line) line

without_return-cons : (b c : ℕ) (line : List ℕ) → without_return (b ∷ c ∷ line) ≡ b ∷ without_return (c ∷ line)
unfolding cut_at
without_return-cons b c line =
    let e : length (b ∷ c ∷ line) - 1 ≡ suc (length (c ∷ line) - 1) = omega arith in
    ap (λ (n : ℕ). cut_at n (b ∷ c ∷ line)) e ∙ cut_at-cons (length (c ∷ line) - 1) b (c ∷ line)

-- a byte that is no line feed, before bytes that do not begin with one
lines-byte : (b : ℕ) (bytes : List ℕ) → b ≢ 10 → begins_with 10 bytes ≡ false → lines (b ∷ bytes) ≡ before_first b (lines bytes)
lines-byte b bytes h e =
    ap (λ (t : Bool). cond t ([] ∷ lines bytes) (cond (begins_with 10 bytes && eqb b 13) (lines bytes) (before_first b (lines bytes)))) (ne_eqb b 10 h)
    ∙ ap (λ (t : Bool). cond (t && eqb b 13) (lines bytes) (before_first b (lines bytes))) e

-- a byte that is no line feed, before one
either_first : (t : Bool) (b : ℕ) (rest : List (List ℕ)) → cond t ([] ∷ rest) ((b ∷ []) ∷ rest) ≡ cond t [] (b ∷ []) ∷ rest
either_first true b rest = refl
either_first false b rest = refl

lines-ended : (b : ℕ) (back : List ℕ) → b ≢ 10 → lines (b ∷ 10 ∷ back) ≡ without_return (b ∷ []) ∷ lines back
lines-ended b back h =
    ap (λ (t : Bool). cond t ([] ∷ lines (10 ∷ back)) (cond (eqb b 13) ([] ∷ lines back) ((b ∷ []) ∷ lines back))) (ne_eqb b 10 h)
    ∙ either_first (eqb b 13) b (lines back)

lines-front : (line back : List ℕ) → Lacks 10 line → lines (line ++ 10 ∷ back) ≡ without_return line ∷ lines back
lines-front [] back h = refl
lines-front (b ∷ []) back h = lines-ended b back h.0
lines-front (b ∷ c ∷ line) back h =
    lines-byte b ((c ∷ line) ++ 10 ∷ back) h.0 (ne_eqb c 10 h.1.0)
    ∙ ap (before_first b) (lines-front (c ∷ line) back h.1)
    ∙ ap (λ (x : List ℕ). x ∷ lines back) (sym (without_return-cons b c line))

lines-alone : (b : ℕ) (line : List ℕ) → Lacks 10 (b ∷ line) → lines (b ∷ line) ≡ (b ∷ line) ∷ []
lines-alone b [] h = lines-byte b [] h.0 refl
lines-alone b (c ∷ line) h = lines-byte b (c ∷ line) h.0 (ne_eqb c 10 h.1.0) ∙ ap (before_first b) (lines-alone c line h.1)

pub line_then : (bytes : List ℕ) (end : ℕ) → IsFirstAt 10 bytes end
    → lines bytes ≡ without_return (take end bytes) ∷ lines (take (length bytes - (end + 1)) (drop (end + 1) bytes))
line_then bytes end first =
    ap lines (parted_at 10 bytes end first)
    ∙ lines-front (take end bytes) (take (length bytes - (end + 1)) (drop (end + 1) bytes)) (Lacks-front 10 bytes end first)

pub line_alone : (bytes : List ℕ) → 0 < length bytes → ((i : ℕ) → i < length bytes → get_or bytes i 0 ≢ 10) → lines bytes ≡ bytes ∷ []
line_alone [] lt none = absurd (omega arith)
line_alone (b ∷ bytes) lt none = lines-alone b bytes (Lacks-all 10 (b ∷ bytes) none)

-- HOW MANY
-- where a line has begun it is one more than none
abbrev at_least_one : ℕ → ℕ
at_least_one zero = 1
at_least_one (suc n) = suc n

length-before_first : (b : ℕ) (parts : List (List ℕ)) → length (before_first b parts) ≡ at_least_one (length parts)
length-before_first b [] = refl
length-before_first b (part ∷ parts) = refl

at_least_one-twice : (n : ℕ) → at_least_one (at_least_one n) ≡ at_least_one n
at_least_one-twice zero = refl
at_least_one-twice (suc n) = refl

-- what the lines are by the tests of the first byte
lines_by : Bool → Bool → ℕ → List (List ℕ) → List (List ℕ)
lines_by ends drops b behind = cond ends ([] ∷ behind) (cond drops behind (before_first b behind))

-- bytes that begin with a line feed have a line
begins_counted : (bytes : List ℕ) → begins_with 10 bytes ≡ true → at_least_one (length (lines bytes)) ≡ length (lines bytes)
begins_counted [] e = cc
begins_counted (b ∷ bytes) e =
    let P : Bool → Type 0 = λ t. at_least_one (length (cond t ([] ∷ lines bytes) (cond (begins_with 10 bytes && eqb b 13) (lines bytes) (before_first b (lines bytes)))))
    ≡ length (cond t ([] ∷ lines bytes) (cond (begins_with 10 bytes && eqb b 13) (lines bytes) (before_first b (lines bytes)))) in
    subst P (sym e) refl

count_by_tests : (ends drops : Bool) (b none begun : ℕ) (behind : List (List ℕ)) → none ≡ length behind → begun ≡ at_least_one (length behind)
    → (drops ≡ true → at_least_one (length behind) ≡ length behind)
    → (cond ends (1 + none) begun ≡ length (lines_by ends drops b behind)) × (cond ends (1 + none) begun ≡ at_least_one (length (lines_by ends drops b behind)))
unfolding lines_by
count_by_tests true drops b none begun behind e f some = (omega arith, omega arith)
count_by_tests false true b none begun behind e f some = (f ∙ some refl, f)
count_by_tests false false b none begun behind e f some = (
  f ∙ sym (length-before_first b behind),
  f ∙ sym (at_least_one-twice (length behind)) ∙ ap at_least_one (sym (length-before_first b behind)),
)

counted : (bytes : List ℕ) → (lines_to_come false bytes ≡ length (lines bytes)) × (lines_to_come true bytes ≡ at_least_one (length (lines bytes)))
unfolding lines_by
counted [] = (refl, refl)
counted (b ∷ bytes) =
    count_by_tests (eqb b 10) (begins_with 10 bytes && eqb b 13) b (lines_to_come false bytes) (lines_to_come true bytes) (lines bytes) (counted bytes).0 (counted bytes).1
    (λ e. begins_counted bytes (and_parts _ _ e).0)

line_count : (bytes : List ℕ) → lines_to_come false bytes ≡ length (lines bytes)
line_count bytes = (counted bytes).0

count_at_end : (bytes : List ℕ) (count n : ℕ) (begun : Bool) → length bytes ≤ n → count + lines_to_come begun (drop n bytes) ≡ lines_to_come false bytes
    → count + cond begun 1 0 ≡ length (lines bytes)
count_at_end bytes count n begun le h = ap (λ (w : List ℕ). count + lines_to_come begun w) (sym (drop_all n bytes le)) ∙ h ∙ line_count bytes

pub last_unended : (bytes : List ℕ) (count n : ℕ) (begun : Bool) → begun ≡ true → length bytes ≤ n → count + lines_to_come begun (drop n bytes) ≡ lines_to_come false bytes
    → count + 1 ≡ length (lines bytes)
last_unended bytes count n begun e le h = ap (λ (t : Bool). count + cond t 1 0) (sym e) ∙ count_at_end bytes count n begun le h

pub last_ended : (bytes : List ℕ) (count n : ℕ) (begun : Bool) → begun ≡ false → length bytes ≤ n → count + lines_to_come begun (drop n bytes) ≡ lines_to_come false bytes
    → count ≡ length (lines bytes)
last_ended bytes count n begun e le h = sym (add-zero count) ∙ ap (λ (t : Bool). count + cond t 1 0) (sym e) ∙ count_at_end bytes count n begun le h
