-- The medium that is left, word by word.
use Rattle.std.proofs.Common.{◌≡◌, ℕ, zero, suc, ◌+◌, ◌≤◌, ◌%◌, ◌^◌, ◌↔◌, inl, inr, Bool, cond, eqb, nat_lt, List, [], ◌∷◌, length, map, take, refl, ap, sym, ◌∙◌, subst, arith}
use Rattle.std.specs.Prelude.{slice_index}
use Rattle.std.specs.List.{range_with_len}
use Rattle.std.proofs.lemmas.Bool.{cases_Bool}
use Rattle.std.proofs.lemmas.List.FromFn.{length-map-range_with_len}
use Rattle.image_layout.specs.Places.{words_of}
use Rattle.trace.specs.Events.{Words, Trace, value}
use Rattle.trace.specs.Settling.{IsSettledValue}
use Rattle.trace.specs.Steps.{settled_value}
use Rattle.core_run.specs.Engines.{Core}
use Rattle.pm_trace.specs.Memory.{Memory}
use Rattle.pm_trace.specs.TraceOf.{IsTraceOf}
use Rattle.pm_trace.specs.Choice.{chosen_by_name, chosen_by_stream, number_of, next_state, chosen, kept}

-- the first words of a list are those of a function
take_is : (xs : List ℕ) (f : Words) (n a : ℕ) → n ≤ length xs → ((i : ℕ) → slice_index xs i ≡ f (a + i)) → take n xs ≡ map f (range_with_len a n)
take_is [] f zero a long is = refl
take_is [] f (suc n) a long is = absurd (omega arith)
take_is (x ∷ xs) f zero a long is = refl
take_is (x ∷ xs) f (suc n) a long is =
    let here : a + 0 ≡ a = omega arith in
    let head : x ≡ f a = is 0 ∙ ap f here in
    let tail : (i : ℕ) → slice_index xs i ≡ f (a + 1 + i) = λ i. let e : a + suc i ≡ a + 1 + i = omega arith in is (suc i) ∙ ap f e in
    ap (λ y. y ∷ take n xs) head ∙ ap (λ ys. f a ∷ ys) (take_is xs f n (a + 1) (omega arith) tail)

-- a choice has no more words than either list
record AreShort (xs ys zs : List ℕ) : Type 0 where
  first : length zs ≤ length xs
  second : length zs ≤ length ys

by_name_short : (choice word : ℕ) (xs ys : List ℕ) → AreShort xs ys (chosen_by_name choice word xs ys)
by_name_short choice word [] ys = record { first = omega arith; second = omega arith }
by_name_short choice word (x ∷ xs) [] = record { first = omega arith; second = omega arith }
by_name_short choice word (x ∷ xs) (y ∷ ys) =
    let rest = by_name_short choice (word + 1) xs ys in
    let a = rest.first in let b = rest.second in
    record { first = omega arith; second = omega arith }

by_stream_short : (state : ℕ) (xs ys : List ℕ) → AreShort xs ys (chosen_by_stream state xs ys)
by_stream_short state [] ys = record { first = omega arith; second = omega arith }
by_stream_short state (x ∷ xs) [] = record { first = omega arith; second = omega arith }
by_stream_short state (x ∷ xs) (y ∷ ys) =
    let one = by_stream_short state xs ys in
    let two = by_stream_short (next_state state) xs ys in
    let a = one.first in let b = one.second in let c = two.first in let d = two.second in
    let P : Bool → Type 0 = λ b. AreShort (x ∷ xs) (y ∷ ys)
    (cond b (x ∷ chosen_by_stream state xs ys) (cond (eqb (number_of (next_state state) % 2) 1) y x ∷ chosen_by_stream (next_state state) xs ys)) in
    elim (cases_Bool (eqb x y)) [
      | inl t ↦ subst P (sym t) (record { first = omega arith; second = omega arith })
      | inr t ↦ subst P (sym t) (record { first = omega arith; second = omega arith })
    ]

chosen_short : (choice : ℕ) (xs ys : List ℕ) → AreShort xs ys (chosen choice xs ys)
chosen_short choice xs ys =
    let P : Bool → Type 0 = λ b. AreShort xs ys (cond b (chosen_by_name choice 0 xs ys) (chosen_by_stream choice xs ys)) in
    elim (cases_Bool (nat_lt choice (2 ^ 63))) [
      | inl t ↦ subst P (sym t) (by_name_short choice 0 xs ys)
      | inr t ↦ subst P (sym t) (by_stream_short choice xs ys)
    ]

take_short : (n : ℕ) (xs : List ℕ) → length (take n xs) ≤ length xs
take_short zero xs = omega arith
take_short (suc n) [] = omega arith
take_short (suc n) (x ∷ xs) = let a = take_short n xs in omega arith

-- the choice of a cut takes of the settled and the newest values of the state
pub kept_is : ((start : Words) (es : Trace) (i x : ℕ) → IsSettledValue start es i x ↔ (x ≡ settled_value start es i)) → (start : Words) (core : Core)
    (memory : Memory) (choice : ℕ) → IsTraceOf start core.trace memory → core.words ≡ value start core.trace
    → length (kept choice memory) ≡ words_of memory.shape
    → kept choice memory ≡ chosen choice (map (settled_value start core.trace) (range_with_len 0 (words_of memory.shape)))
    (map core.words (range_with_len 0 (words_of memory.shape)))
kept_is law start core memory choice traced words whole =
    let n : ℕ = words_of memory.shape in
    let short = chosen_short choice (take n memory.settled) (take n memory.newest) in
    let a = take_short n memory.settled in
    let b = take_short n memory.newest in
    let c = short.first in
    let d = short.second in
    let settled : take n memory.settled ≡ map (settled_value start core.trace) (range_with_len 0 n) =
    take_is memory.settled (settled_value start core.trace) n 0 (omega arith)
    (λ i. let e : i ≡ 0 + i = omega arith in (law start core.trace i (slice_index memory.settled i)).0 (traced.settled i)
    ∙ ap (settled_value start core.trace) e) in
    let newest : take n memory.newest ≡ map core.words (range_with_len 0 n) =
    take_is memory.newest core.words n 0 (omega arith)
    (λ i. let e : i ≡ 0 + i = omega arith in traced.newest i ∙ ap (λ (f : Words). f i) (sym words) ∙ ap core.words e) in
    ap (λ xs. chosen choice xs (take n memory.newest)) settled ∙ ap (λ ys. chosen choice (map (settled_value start core.trace) (range_with_len 0 n)) ys) newest

-- the choice 1 takes each newest value
by_one : (word : ℕ) (xs ys : List ℕ) → length xs ≡ length ys → chosen_by_name 1 word xs ys ≡ ys
by_one word [] [] same = refl
by_one word [] (y ∷ ys) same = absurd (omega arith)
by_one word (x ∷ xs) [] same = absurd (omega arith)
by_one word (x ∷ xs) (y ∷ ys) same = ap (λ zs. y ∷ zs) (by_one (word + 1) xs ys (omega arith))

pub newest_is : (f g : Words) (n : ℕ) → chosen 1 (map f (range_with_len 0 n)) (map g (range_with_len 0 n)) ≡ map g (range_with_len 0 n)
newest_is f g n = by_one 0 (map f (range_with_len 0 n)) (map g (range_with_len 0 n)) (length-map-range_with_len f 0 n ∙ sym (length-map-range_with_len g 0 n))
