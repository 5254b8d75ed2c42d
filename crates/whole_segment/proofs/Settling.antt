-- Stores in rounds are all made, each line ends settled, and no more than eight lines are flushed and not fenced.
use Rattle.std.proofs.Common.{◌≡◌, ℕ, ◌+◌, ◌≤◌, ◌⊎◌, Bool, true, false, cond, List, [], ◌∷◌, ◌++◌, length, refl, ap, ◌∙◌, subst, inl, inr, arith, length-append}
use Rattle.std.specs.Prelude.{◌==◌, ◌||◌, nat_lt}
use Rattle.std.proofs.lemmas.Bool.{eqb-true, eqb-false, ltb-true}
use Rattle.whole_segment.specs.Rounds.{Deed, LineState, ends_with, takes, touched, ends_round, rounds, state_by, state_after, flushed_state, fenced_state, FlushesFew, stored_in, Settles}
use Rattle.whole_segment.specs.Rounds.Deed.{Stores, Flushes}
use Rattle.whole_segment.specs.Rounds.LineState.{Settled, Dirty, Flushed}

abbrev IsIn : ℕ → List ℕ → Type 0
IsIn line [] = ⊥
IsIn line (first ∷ lines) = (first ≡ line) ⊎ IsIn line lines

-- ---- the lines of a round
ends_in : (lines : List ℕ) (line : ℕ) → ends_with lines line ≡ true → IsIn line lines
ends_in [] line e = absurd (cc)
ends_in (first ∷ []) line e = inl (eqb-true first line e)
ends_in (first ∷ (second ∷ rest)) line e = inr (ends_in (second ∷ rest) line e)

last_in : (lines : List ℕ) (line : ℕ) → IsIn line (lines ++ line ∷ [])
last_in [] line = inl refl
last_in (first ∷ lines) line = inr (last_in lines line)

still_in : (lines : List ℕ) (line other : ℕ) → IsIn line lines → IsIn line (lines ++ other ∷ [])
still_in [] line other is = absurd is
still_in (first ∷ lines) line other (inl e) = inl e
still_in (first ∷ lines) line other (inr is) = inr (still_in lines line other is)

touched_in : (lines : List ℕ) (line : ℕ) → IsIn line (touched lines line)
touched_in lines line = by (ends_with lines line) refl
  where
    by : (b : Bool) → ends_with lines line ≡ b → IsIn line (cond b lines (lines ++ line ∷ []))
    by true e = ends_in lines line e
    by false e = last_in lines line

stays_in : (lines : List ℕ) (line other : ℕ) → IsIn line lines → IsIn line (touched lines other)
stays_in lines line other is = by (ends_with lines other)
  where
    by : (b : Bool) → IsIn line (cond b lines (lines ++ other ∷ []))
    by true = is
    by false = still_in lines line other is

-- ---- a line is settled
-- where the lines of a round are still to be flushed, a line that is dirty is one of them
abbrev Awaits : List ℕ → ℕ → LineState → Type 0
Awaits lines line Settled = Unit {0}
Awaits lines line Dirty = IsIn line lines
Awaits lines line Flushed = Unit {0}

-- and in the midst of a round no line is flushed and not fenced
abbrev AwaitsAll : List ℕ → ℕ → LineState → Type 0
AwaitsAll lines line Settled = Unit {0}
AwaitsAll lines line Dirty = IsIn line lines
AwaitsAll lines line Flushed = ⊥

weaker : (lines : List ℕ) (line : ℕ) (state : LineState) → AwaitsAll lines line state → Awaits lines line state
weaker lines line Settled a = tt
weaker lines line Dirty a = a
weaker lines line Flushed a = absurd a

flush_one : (first : ℕ) (lines : List ℕ) (line : ℕ) (state : LineState) (b : Bool) → (first == line) ≡ b → Awaits (first ∷ lines) line state
    → Awaits lines line (cond b (flushed_state state) state)
flush_one first lines line Settled true e a = tt
flush_one first lines line Dirty true e a = tt
flush_one first lines line Flushed true e a = tt
flush_one first lines line Settled false e a = tt
flush_one first lines line Dirty false e (inl same) = absurd (eqb-false first line e same)
flush_one first lines line Dirty false e (inr is) = is
flush_one first lines line Flushed false e a = tt

fence_all : (line : ℕ) (state : LineState) → Awaits [] line state → fenced_state state ≡ Settled
fence_all line Settled a = refl
fence_all line Dirty a = absurd a
fence_all line Flushed a = refl

lines_end : (first : ℕ) (lines : List ℕ) (after : List Deed) (line : ℕ) (state : LineState) → Awaits (first ∷ lines) line state
    → state_after line (ends_round (first ∷ lines) after) state ≡ state_after line after Settled
lines_end first [] after line state a =
    ap (state_after line after) (fence_all line (state_by line (Flushes first) state) (flush_one first [] line state (first == line) refl a))
lines_end first (second ∷ rest) after line state a =
    lines_end second rest after line (state_by line (Flushes first) state) (flush_one first (second ∷ rest) line state (first == line) refl a)

round_ends : (lines : List ℕ) (after : List Deed) (line : ℕ) (state : LineState) → AwaitsAll lines line state
    → state_after line (ends_round lines after) state ≡ state_after line after Settled
round_ends [] after line Settled a = refl
round_ends [] after line Dirty a = absurd a
round_ends [] after line Flushed a = absurd a
round_ends (first ∷ lines) after line state a = lines_end first lines after line state (weaker (first ∷ lines) line state a)

store_one : (lines : List ℕ) (other line : ℕ) (state : LineState) (b : Bool) → (other == line) ≡ b → AwaitsAll lines line state
    → AwaitsAll (touched lines other) line (cond b Dirty state)
store_one lines other line state true e a = subst (λ l. IsIn l (touched lines other)) (eqb-true other line e) (touched_in lines other)
store_one lines other line Settled false e a = tt
store_one lines other line Dirty false e a = stays_in lines line other a
store_one lines other line Flushed false e a = a

begin_one : (other line : ℕ) (b : Bool) → (other == line) ≡ b → AwaitsAll (other ∷ []) line (cond b Dirty Settled)
begin_one other line true e = inl (eqb-true other line e)
begin_one other line false e = tt

store_more : (stores lines : List ℕ) (other line : ℕ) (state : LineState) (b : Bool) → AwaitsAll lines line state
    → state_after line (rounds (touched lines other) stores) (state_by line (Stores other) state) ≡ Settled
    → state_after line (rounds (other ∷ []) stores) (state_by line (Stores other) Settled) ≡ Settled
    → state_after line (cond b (Stores other ∷ rounds (touched lines other) stores) (ends_round lines (Stores other ∷ rounds (other ∷ []) stores))) state ≡ Settled
store_more stores lines other line state true a here anew = here
store_more stores lines other line state false a here anew =
    round_ends lines (Stores other ∷ rounds (other ∷ []) stores) line state a ∙ anew

settled : (stores lines : List ℕ) (line : ℕ) (state : LineState) → AwaitsAll lines line state → state_after line (rounds lines stores) state ≡ Settled
settled [] lines line state a = round_ends lines [] line state a
settled (other ∷ stores) lines line state a =
    store_more stores lines other line state (takes lines other) a
    (settled stores (touched lines other) line (state_by line (Stores other) state) (store_one lines other line state (other == line) refl a))
    (settled stores (other ∷ []) line (state_by line (Stores other) Settled) (begin_one other line (other == line) refl))

-- ---- few lines are flushed at once
few_flushed : (first : ℕ) (lines : List ℕ) (after : List Deed) (n : ℕ) → n + length (first ∷ lines) ≤ 8 → FlushesFew 0 after → FlushesFew n (ends_round (first ∷ lines) after)
few_flushed first [] after n most few = (omega (arith, most), few)
few_flushed first (second ∷ rest) after n most few = (omega (arith, most), few_flushed second rest after (n + 1) (omega (arith, most)) few)

few_end : (lines : List ℕ) (after : List Deed) → length lines ≤ 8 → FlushesFew 0 after → FlushesFew 0 (ends_round lines after)
few_end [] after most few = few
few_end (first ∷ lines) after most few = few_flushed first lines after 0 (omega (arith, most)) few

pub touched_few : (lines : List ℕ) (line : ℕ) → length lines ≤ 8 → takes lines line ≡ true → length (touched lines line) ≤ 8
touched_few lines line most e = by (ends_with lines line) e
  where
    by : (b : Bool) → (b || nat_lt (length lines) 8) ≡ true → length (cond b lines (lines ++ line ∷ [])) ≤ 8
    by true e = most
    by false e = let less = ltb-true (length lines) 8 e in omega (arith, less, length-append lines (line ∷ []))

few_more : (stores lines : List ℕ) (line : ℕ) (b : Bool) → takes lines line ≡ b → length lines ≤ 8
    → (length (touched lines line) ≤ 8 → FlushesFew 0 (rounds (touched lines line) stores)) → FlushesFew 0 (rounds (line ∷ []) stores)
    → FlushesFew 0 (cond b (Stores line ∷ rounds (touched lines line) stores) (ends_round lines (Stores line ∷ rounds (line ∷ []) stores)))
few_more stores lines line true e most here anew = here (touched_few lines line most e)
few_more stores lines line false e most here anew = few_end lines (Stores line ∷ rounds (line ∷ []) stores) most anew

few : (stores lines : List ℕ) → length lines ≤ 8 → FlushesFew 0 (rounds lines stores)
few [] lines most = few_end lines [] most (omega arith)
few (line ∷ stores) lines most =
    few_more stores lines line (takes lines line) refl most (few stores (touched lines line)) (few stores (line ∷ []) (omega arith))

-- ---- all is stored
stored_end : (lines : List ℕ) (after : List Deed) → stored_in (ends_round lines after) ≡ stored_in after
stored_end [] after = refl
stored_end (first ∷ []) after = refl
stored_end (first ∷ (second ∷ rest)) after = stored_end (second ∷ rest) after

stored_more : (stores lines : List ℕ) (line : ℕ) (b : Bool) → stored_in (rounds (touched lines line) stores) ≡ stores → stored_in (rounds (line ∷ []) stores) ≡ stores
    → stored_in (cond b (Stores line ∷ rounds (touched lines line) stores) (ends_round lines (Stores line ∷ rounds (line ∷ []) stores))) ≡ line ∷ stores
stored_more stores lines line true here anew = ap (λ s. line ∷ s) here
stored_more stores lines line false here anew = stored_end lines (Stores line ∷ rounds (line ∷ []) stores) ∙ ap (λ s. line ∷ s) anew

stored : (stores lines : List ℕ) → stored_in (rounds lines stores) ≡ stores
stored [] lines = stored_end lines []
stored (line ∷ stores) lines = stored_more stores lines line (takes lines line) (stored stores (touched lines line)) (stored stores (line ∷ []))

pub settles : (stores : List ℕ) → Settles stores (rounds [] stores)
settles stores = record { all = stored stores []; settled = λ line. settled stores [] line Settled tt; few = few stores [] (omega arith) }
