-- The words behind spaces are the words, and the first of them ends before the next space.
use Rattle.std.proofs.Common.{◌≡◌, ◌≢◌, ℕ, ◌+◌, ◌-◌, ◌<◌, List, [], ◌∷◌, ◌++◌, length, get_or, take, drop, zero, suc, Bool, cond, eqb, refl, sym, ap, ◌∙◌, arith}
use Rattle.std.proofs.lemmas.Grind.{common_steps}
use Rattle.std.proofs.lemmas.Bool.{ne_eqb}
use Rattle.std.proofs.lemmas.List.{take_rest}
use Rattle.script_text.specs.Finding.{IsFirstAt, IsFirstOther}
use Rattle.script_text.specs.Splits.{before_first, between_spaces, not_empty, words}
use Rattle.script_text.proofs.Finding.{Lacks, Lacks-all, Lacks-front, parted_at}

-- SPACES
space_first : (b : ℕ) (bytes : List ℕ) → b ≡ 32 → words (b ∷ bytes) ≡ words bytes
space_first b bytes e = ap (λ (w : ℕ). words (w ∷ bytes)) e

words-spaces : (bytes : List ℕ) (n : ℕ) → ((i : ℕ) → i < n → get_or bytes i 0 ≡ 32) → words bytes ≡ words (drop n bytes)
words-spaces bytes zero all = refl
words-spaces [] (suc n) all = refl
words-spaces (b ∷ bytes) (suc n) all = space_first b bytes (all 0 (omega arith)) ∙ words-spaces bytes n (λ i lt. all (suc i) (omega arith))

drop_all : (bytes : List ℕ) → drop (length bytes) bytes ≡ []
drop_all bytes = grind (arith, common_steps)

pub words_of_spaces : (bytes : List ℕ) → ((i : ℕ) → i < length bytes → get_or bytes i 0 ≡ 32) → words bytes ≡ []
words_of_spaces bytes all = words-spaces bytes (length bytes) all ∙ ap words (drop_all bytes)

-- A WORD
put_first : (b : ℕ) (parts other : List (List ℕ)) → b ≢ 32 → cond (eqb b 32) other (before_first b parts) ≡ before_first b parts
put_first b parts other h = ap (λ (t : Bool). cond t other (before_first b parts)) (ne_eqb b 32 h)

between_spaces-word : (word : List ℕ) → Lacks 32 word → between_spaces word ≡ word ∷ []
between_spaces-word [] h = refl
between_spaces-word (b ∷ word) h = put_first b (between_spaces word) ([] ∷ between_spaces word) h.0 ∙ ap (before_first b) (between_spaces-word word h.1)

between_spaces-front : (word back : List ℕ) → Lacks 32 word → between_spaces (word ++ 32 ∷ back) ≡ word ∷ between_spaces back
between_spaces-front [] back h = refl
between_spaces-front (b ∷ word) back h =
    put_first b (between_spaces (word ++ 32 ∷ back)) ([] ∷ between_spaces (word ++ 32 ∷ back)) h.0 ∙ ap (before_first b) (between_spaces-front word back h.1)

not_empty-cons : (word : List ℕ) (parts : List (List ℕ)) → 0 < length word → not_empty (word ∷ parts) ≡ word ∷ not_empty parts
not_empty-cons [] parts lt = absurd (omega arith)
not_empty-cons (b ∷ word) parts lt = refl

-- the bytes begin with another than a space
abbrev pub BeginsWord : List ℕ → Type 0
BeginsWord bytes = (0 < length bytes) × (get_or bytes 0 0 ≢ 32)

within_front : (bytes : List ℕ) (end : ℕ) → IsFirstAt 32 bytes end → BeginsWord bytes → 0 < length (take end bytes)
within_front bytes zero first begins = absurd (begins.1 first.here)
within_front [] (suc end) first begins = absurd (omega (arith, begins.0))
within_front (b ∷ bytes) (suc end) first begins = omega arith

word_then : (bytes : List ℕ) (end : ℕ) → BeginsWord bytes → IsFirstAt 32 bytes end
    → words bytes ≡ take end bytes ∷ words (take (length bytes - (end + 1)) (drop (end + 1) bytes))
word_then bytes end begins first =
    let back : List ℕ = take (length bytes - (end + 1)) (drop (end + 1) bytes) in
    ap words (parted_at 32 bytes end first)
    ∙ ap not_empty (between_spaces-front (take end bytes) back (Lacks-front 32 bytes end first))
    ∙ not_empty-cons (take end bytes) (between_spaces back) (within_front bytes end first begins)

word_alone : (bytes : List ℕ) → BeginsWord bytes → ((i : ℕ) → i < length bytes → get_or bytes i 0 ≢ 32) → words bytes ≡ bytes ∷ []
word_alone bytes begins none = ap not_empty (between_spaces-word bytes (Lacks-all 32 bytes none)) ∙ not_empty-cons bytes [] begins.0

-- BEHIND SPACES
first_of_rest : (bytes : List ℕ) (start : ℕ) → start < length bytes → get_or (drop start bytes) 0 0 ≡ get_or bytes start 0
first_of_rest bytes start lt = grind (arith, common_steps)

some_of_rest : (bytes : List ℕ) (start : ℕ) → start < length bytes → 0 < length (drop start bytes)
some_of_rest bytes start lt = grind (arith, common_steps)

begins_word : (bytes : List ℕ) (start : ℕ) → IsFirstOther 32 bytes start → BeginsWord (take (length bytes - start) (drop start bytes))
begins_word bytes start first =
    rw (take_rest bytes start) (some_of_rest bytes start first.within, λ e. first.here (sym (first_of_rest bytes start first.within) ∙ e))

from_rest : (bytes : List ℕ) (start : ℕ) → IsFirstOther 32 bytes start → words bytes ≡ words (take (length bytes - start) (drop start bytes))
from_rest bytes start first = words-spaces bytes start first.before ∙ ap words (sym (take_rest bytes start))

pub words_of_rest : (bytes rest : List ℕ) (start end : ℕ) → rest ≡ take (length bytes - start) (drop start bytes) → IsFirstOther 32 bytes start → IsFirstAt 32 rest end
    → words bytes ≡ take end rest ∷ words (take (length rest - (end + 1)) (drop (end + 1) rest))
words_of_rest bytes rest start end e first next =
    from_rest bytes start first ∙ ap words (sym e) ∙ word_then rest end (rw e (begins_word bytes start first)) next

pub words_of_last : (bytes rest : List ℕ) (start : ℕ) → rest ≡ take (length bytes - start) (drop start bytes) → IsFirstOther 32 bytes start
    → ((i : ℕ) → i < length rest → get_or rest i 0 ≢ 32) → words bytes ≡ rest ∷ []
words_of_last bytes rest start e first none =
    from_rest bytes start first ∙ ap words (sym e) ∙ word_alone rest (rw e (begins_word bytes start first)) none
