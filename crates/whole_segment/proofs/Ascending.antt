-- Where stores ascend, the lines of each round do, and so do its flushes.
use Rattle.std.proofs.Common.{◌≡◌, ℕ, ◌+◌, ◌≤◌, Bool, true, false, cond, List, [], ◌∷◌, ◌++◌, refl, arith}
use Rattle.std.proofs.lemmas.Bool.{eqb-false}
use Rattle.whole_segment.specs.Rounds.{Deed, ends_with, takes, touched, ends_round, rounds, AscendsFrom, FlushesAscend}
use Rattle.whole_segment.specs.Rounds.Deed.{Stores}

-- the lines of a round ascend, from n to m at most
abbrev Rises : ℕ → List ℕ → ℕ → Type 0
Rises n [] m = Unit {0}
Rises n (line ∷ []) m = (n ≤ line) × (line ≤ m)
Rises n (line ∷ (second ∷ rest)) m = (n ≤ line) × Rises (line + 1) (second ∷ rest) m

rises_most : (n line m : ℕ) (rest : List ℕ) → Rises n (line ∷ rest) m → n ≤ m
rises_most n line m [] r = omega (arith, r.0, r.1)
rises_most n line m (second ∷ rest) r = omega (arith, r.0, rises_most (line + 1) second m rest r.1)

rises_still : (n m most : ℕ) (lines : List ℕ) → m ≤ most → Rises n lines m → Rises n lines most
rises_still n m most [] less r = tt
rises_still n m most (line ∷ []) less r = (r.0, omega (arith, r.1, less))
rises_still n m most (line ∷ (second ∷ rest)) less r = (r.0, rises_still (line + 1) m most (second ∷ rest) less r.1)

rises_more : (n m next : ℕ) (lines : List ℕ) → n ≤ next → m ≤ next → ends_with lines next ≡ false → Rises n lines m → Rises n (lines ++ next ∷ []) next
rises_more n m next [] low less e r = (low, omega arith)
rises_more n m next (line ∷ []) low less e r = let apart = eqb-false line next e in (r.0, (omega (arith, r.1, less, apart), omega arith))
rises_more n m next (line ∷ (second ∷ rest)) low less e r =
    let below = rises_most (line + 1) second m rest r.1 in
    (r.0, rises_more (line + 1) m next (second ∷ rest) (omega (arith, below, less)) less e r.1)

touched_rises : (m line : ℕ) (lines : List ℕ) → m ≤ line → Rises 0 lines m → Rises 0 (touched lines line) line
touched_rises m line lines less r = by (ends_with lines line) refl
  where
    by : (b : Bool) → ends_with lines line ≡ b → Rises 0 (cond b lines (lines ++ line ∷ [])) line
    by true e = rises_still 0 m line lines less r
    by false e = rises_more 0 m line lines (omega arith) less e r

some_flushed : (n m line : ℕ) (lines : List ℕ) (after : List Deed) → Rises n (line ∷ lines) m → FlushesAscend 0 after → FlushesAscend n (ends_round (line ∷ lines) after)
some_flushed n m line [] after r next = (r.0, next)
some_flushed n m line (second ∷ rest) after r next = (r.0, some_flushed (line + 1) m second rest after r.1 next)

flushes : (m : ℕ) (lines : List ℕ) (after : List Deed) → Rises 0 lines m → FlushesAscend 0 after → FlushesAscend 0 (ends_round lines after)
flushes m [] after r next = next
flushes m (line ∷ lines) after r next = some_flushed 0 m line lines after r next

store_more : (m line : ℕ) (stores lines : List ℕ) (b : Bool) → Rises 0 lines m → FlushesAscend 0 (rounds (touched lines line) stores) → FlushesAscend 0 (rounds (line ∷ []) stores)
    → FlushesAscend 0 (cond b (Stores line ∷ rounds (touched lines line) stores) (ends_round lines (Stores line ∷ rounds (line ∷ []) stores)))
store_more m line stores lines true r here anew = here
store_more m line stores lines false r here anew = flushes m lines (Stores line ∷ rounds (line ∷ []) stores) r anew

ascends_from : (m : ℕ) (stores lines : List ℕ) → Rises 0 lines m → AscendsFrom m stores → FlushesAscend 0 (rounds lines stores)
ascends_from m [] lines r a = flushes m lines [] r tt
ascends_from m (line ∷ stores) lines r a =
    store_more m line stores lines (takes lines line) r
    (ascends_from line stores (touched lines line) (touched_rises m line lines a.0 r) a.1)
    (ascends_from line stores (line ∷ []) (omega arith, omega arith) a.1)

pub ascends : (stores : List ℕ) → AscendsFrom 0 stores → FlushesAscend 0 (rounds [] stores)
ascends stores a = ascends_from 0 stores [] tt a
