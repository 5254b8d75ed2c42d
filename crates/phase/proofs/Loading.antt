-- The load of a bucket, over any list of loaded words; and what the words of a whole bucket tell of all memories that have them.
use Rattle.std.proofs.Common.{◌≡◌, ℕ, zero, suc, ◌+◌, ◌*◌, ◌%◌, ◌<◌, ◌≤◌, Bool, true, false, Option, Some, List, ◌∷◌, slice_index, slice_set, inl, inr, refl, sym, ap, ◌∙◌, subst, arith, get_or-set_same, get_or-set_other, length-set}
use Rattle.std.specs.Prelude.{◌==◌, ◌&&◌, nat_lt, if◌then◌else◌}
use Rattle.std.proofs.lemmas.Bool.{cases_eq, ltb-true, ltb-false}
use Rattle.bucket_meta.specs.Bucket.{allocated}
use Rattle.bucket_words.specs.Buckets.{find_below}
use Rattle.trace.specs.Events.{Words}
use Rattle.world.specs.Views.{Has}
use Rattle.phase.specs.declared.load.Load.{Load}
use Rattle.phase.specs.declared.load.Loaded.TheVariants.{On, All}
use Rattle.phase.specs.Loads.{load_begun, load_taken}
use Rattle.phase.specs.Stands.{IsLoading, HasLoaded, load_left, loaded_left}

pub load_begins : (lock : ℕ) (pairs : List (ℕ × ℕ)) → IsLoading lock pairs load_begun
load_begins lock pairs = record { same = λ i from low. absurd (omega (arith, from, low)); whole = refl; from = omega arith; last = omega arith }

pub load_falls : (load : Load) (n : ℕ) → loaded_left (load_taken load n) < load_left load
load_falls load n = by (nat_lt load.next 31) refl
  where
    by : (b : Bool) → nat_lt load.next 31 ≡ b
        → loaded_left (if b then On (record { words = slice_set load.words load.next n; next = load.next + 1 }) else All (slice_set load.words load.next n)) < load_left load
    by true is = let low = ltb-true load.next 31 is in omega (arith, low)
    by false is = omega arith

module _ (lock : ℕ) (pairs : List (ℕ × ℕ)) (load : Load) (n : ℕ) (l : IsLoading lock pairs load) where
  abbrev more : List (ℕ × ℕ)
  more = (lock + load.next % 32, n) ∷ pairs

  abbrev ws : List ℕ
  ws = slice_set load.words load.next n

  has_all : (i : ℕ) → 1 ≤ i → i < load.next + 1 → Has (lock + i, slice_index ws i) more
  has_all i from low = elim (cases_eq i load.next) [
    | inl e ↦
        let whole = l.whole in let last = l.last in
        let place : lock + i ≡ lock + load.next % 32 = omega (arith, e, last) in
        let got : slice_index ws i ≡ n = ap (slice_index ws) e ∙ get_or-set_same load.words load.next n 0 (omega (arith, whole, last)) in
        inl (ap (λ x. (x, slice_index ws i)) place ∙ ap (λ y. (lock + load.next % 32, y)) got)
    | inr other ↦
        inr (subst (λ x. Has (lock + i, x) pairs) (sym (get_or-set_other load.words load.next i n 0 other)) (l.same i from (omega (arith, low, other))))
  ]

  -- WHAT IS LOADED stays so with one word more
  pub load_stands : HasLoaded lock more (load_taken load n)
  load_stands = by (nat_lt load.next 31) refl
    where
      by : (b : Bool) → nat_lt load.next 31 ≡ b → HasLoaded lock more (if b then On (record { words = ws; next = load.next + 1 }) else All ws)
      by true is = record {
        same = has_all;
        whole = length-set load.words load.next n ∙ l.whole;
        from = omega arith;
        last = (let low = ltb-true load.next 31 is in omega (arith, low));
      }
      by false is = λ i from low. has_all i from (let high = ltb-false load.next 31 is in omega (arith, low, high))

-- ---- a whole bucket
one_slot : (r k a a' b b' c c' : ℕ) (rest rest' : Option ℕ) → a ≡ a' → b ≡ b' → c ≡ c' → rest ≡ rest'
    → (if (allocated r a == 1) && (b == k) then Some c else rest) ≡ (if (allocated r a' == 1) && (b' == k) then Some c' else rest')
one_slot r k a a' b b' c c' rest rest' p q s t =
    ap (λ x. if (allocated r x == 1) && (b == k) then Some c else rest) p
    ∙ (ap (λ x. if (allocated r a' == 1) && (x == k) then Some c else rest) q
    ∙ (ap (λ x. if (allocated r a' == 1) && (b' == k) then Some x else rest) s
    ∙ ap (λ x. if (allocated r a' == 1) && (b' == k) then Some c' else x) t))

pub same_below : (m : Words) (ws : List ℕ) (lock k n : ℕ) → n ≤ 14 → ((i : ℕ) → 1 ≤ i → i < 32 → m (lock + i) ≡ slice_index ws i)
    → find_below m lock k n ≡ find_below (λ i. slice_index ws i) 0 k n
unfolding find_below
same_below m ws lock k zero most same = refl
same_below m ws lock k (suc r) most same =
    let key : lock + 4 + 2 * r ≡ lock + (4 + 2 * r) = omega arith in
    let value : lock + 5 + 2 * r ≡ lock + (5 + 2 * r) = omega arith in
    one_slot r k (m (lock + 1)) (slice_index ws 1) (m (lock + 4 + 2 * r)) (slice_index ws (4 + 2 * r)) (m (lock + 5 + 2 * r)) (slice_index ws (5 + 2 * r)) _ _
    (same 1 (omega arith) (omega arith))
    (ap m key ∙ same (4 + 2 * r) (omega arith) (omega (arith, most)))
    (ap m value ∙ same (5 + 2 * r) (omega arith) (omega (arith, most)))
    (same_below m ws lock k r (omega (arith, most)) same)
