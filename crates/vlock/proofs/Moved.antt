-- Views in another order, with views among them that have nothing.
use Rattle.std.proofs.Common.{◌≡◌, ◌⊎◌, inl, inr, ℕ, zero, suc, ◌≤◌, List, [], ◌∷◌, ◌++◌, length, refl, sym, ap, subst, arith, append_assoc}
use Rattle.std.specs.Prelude.{filter}
use mathlib.Core.Option.{some-injective}
use Rattle.trace.specs.Events.{Words}
use Rattle.map_model.specs.Weave.{draws, drew_at}
use Rattle.world.specs.Ground.{Ground}
use Rattle.world.specs.Views.{View, Has, At, IsLoose}
use Rattle.world.specs.World.{fresh_view}
use Rattle.world.specs.Parts.{total}
use Rattle.world.specs.Invariant.{Holds}
use Rattle.world.proofs.stepping.Reseated.{From, KeepsNotes, KeepsOwn, Reseats}
use Rattle.world.proofs.fitting.lasting.Seated.{SeatsMove}
use Rattle.world.proofs.calls.seating.Moving.{holding_goes}

-- each new view has nothing, or is an old one; and each old one is there
pub record Moves (views views' : List View) : Type 0 where
  pub goes : ℕ → ℕ
  pub back : ℕ → ℕ
  pub from : (i : ℕ) (u : View) → At views' i u → (u ≡ fresh_view 0) ⊎ (At views (back i) u × (goes (back i) ≡ i))
  pub stays : (j : ℕ) (o : View) → At views j o → At views' (goes j) o
  pub sums : (f : View → ℕ) → f (fresh_view 0) ≡ 0 → total f views' ≡ total f views

-- the invariant, and somebody is there
abbrev pub HoldsOfSome : Ground → Words → List View → Type 0
HoldsOfSome site words views = Holds site words views × (j : ℕ) × (o : View) × At views j o

module _ (site : Ground) (words : Words) (views views' : List View) (h : HoldsOfSome site words views) (m : Moves views views') where
  every : (P : ℕ → View → Type 0) → ((i : ℕ) → P i (fresh_view 0)) → ((i j : ℕ) (u : View) → At views j u → m.goes j ≡ i → P i u) → (i : ℕ) (u : View) → At views' i u → P i u
  every P none other i u a = elim (m.from i u a) [
    | inl e ↦ subst (λ (z : View). P i z) (sym e) (none i)
    | inr s ↦ other i (m.back i) u s.0 s.1
  ]

  from_old : (P : View → Type 0) (i j : ℕ) (u : View) → At views j u → m.goes j ≡ i → P u → From views m.goes i u P
  from_old P i j u a e p = record { seat = j; old = u; at = a; went = e; locks = λ p l. l; areas = λ a l. l; has = p }

  -- what a view has that is not nothing comes from an old view
  comes : (P : View → Type 0) → (P (fresh_view 0) → ⊥) → (i : ℕ) (u : View) → At views' i u → P u → From views m.goes i u P
  comes P none = every (λ i u. P u → From views m.goes i u P) (λ i q. absurd (none q)) (λ i j u a e q. from_old P i j u a e q)

  -- and some old view has it
  had : (P : View → Type 0) → (P (fresh_view 0) → ⊥) → (i : ℕ) (u : View) → At views' i u → P u → (j : ℕ) × (o : View) × At views j o × P o
  had P none i u a q = let f = comes P none i u a q in (f.seat, f.old, f.at, f.has)

  stay : (P : View → Type 0) (j : ℕ) (o : View) → At views j o → P o → (u : View) × At views' (m.goes j) u × P u
  stay P j o a q = (o, m.stays j o a, q)

  reseats : Reseats views views'
  reseats = record {
    goes = m.goes;
    held = λ i u p. comes (λ o. Has p o.held) (λ q. q) i u;
    known = λ i u p. comes (λ o. Has p o.known) (λ q. q) i u;
    loose = λ i u p. comes (λ o. IsLoose o p) (λ q. elim q [ inl d ↦ d | inr f ↦ f ]) i u;
    planned = λ i u c. comes (λ o. Has c o.planned) (λ q. q) i u;
    moving = λ i u c. comes (λ o. Has c o.moving) (λ q. q) i u;
    owed = λ i u c. comes (λ o. Has c o.owed) (λ q. q) i u;
    notes = every (λ i u. KeepsNotes views u) (λ i. inl (refl, refl)) (λ i j u a e. inr (j, u, a, refl, refl, refl));
    own = every (λ i u. KeepsOwn views u) (λ i. inl refl) (λ i j u a e. inr (j, u, a, refl, omega arith));
    seen = every (λ i u. (j : ℕ) × (o : View) × At views j o × (u.seen ≤ o.seen)) (λ i. (h.1, h.2, h.3, omega arith)) (λ i j u a e. (j, u, a, omega arith));
    locks_stay = λ j o p. stay (λ z. Has p z.held) j o;
    planned_stays = λ j o c. stay (λ z. Has c z.planned) j o;
    moving_stays = λ j o c. stay (λ z. Has c z.moving) j o;
    owed_stays = λ j o c. stay (λ z. Has c z.owed) j o;
    draws = m.sums (λ v. draws v.own) refl;
    drew = λ n. m.sums (λ v. length (filter (drew_at n) v.own)) refl;
    callers = m.sums (λ v. v.callers) refl;
    each = every (λ i u. u.room ≤ u.callers) (λ i. omega arith) (λ i j u a e. h.0.room.each j u a);
    few = (let e = m.sums (λ v. v.room) refl in omega (arith, e));
    spent_locks = λ i u lock. had (λ o. Has lock o.spent_locks) (λ q. q) i u;
    facts = λ i u f. had (λ o. Has f o.facts) (λ q. q) i u;
    pinned = λ i u p. comes (λ o. Has p o.pinned) (λ q. q) i u;
    power_stays = λ j o a q. (m.goes j, o, m.stays j o a, q);
  }

  seats_move : SeatsMove views views'
  seats_move = record {
    goes = m.goes;
    held = λ i u p. comes (λ o. Has p o.held) (λ q. q) i u;
    loose = λ i u p. comes (λ o. IsLoose o p) (λ q. elim q [ inl d ↦ d | inr f ↦ f ]) i u;
    areas = λ i u a. comes (λ o. Has a o.areas) (λ q. q) i u;
    facts = λ i u f. comes (λ o. Has f o.facts) (λ q. q) i u;
    loose_stays = λ j o p. stay (λ z. IsLoose z p) j o;
    areas_stay = λ j o a. stay (λ z. Has a z.areas) j o;
  }

  pub moved : HoldsOfSome site words views'
  moved = (holding_goes site words views views' reseats seats_move h.0, m.goes h.1, h.2, m.stays h.1 h.2 h.3)

-- ---- two views side by side change places
swap : List View → ℕ → ℕ
swap [] zero = 1
swap [] (suc zero) = 0
swap [] (suc (suc n)) = suc (suc n)
swap (x ∷ A) zero = zero
swap (x ∷ A) (suc n) = suc (swap A n)

swap_twice : (A : List View) (n : ℕ) → swap A (swap A n) ≡ n
unfolding swap
swap_twice [] zero = refl
swap_twice [] (suc zero) = refl
swap_twice [] (suc (suc n)) = refl
swap_twice (x ∷ A) zero = refl
swap_twice (x ∷ A) (suc n) = ap suc (swap_twice A n)

at_swap : (A : List View) (a b : View) (C : List View) (i : ℕ) (u : View) → At (A ++ b ∷ a ∷ C) i u → At (A ++ a ∷ b ∷ C) (swap A i) u
unfolding swap
at_swap [] a b C zero u e = e
at_swap [] a b C (suc zero) u e = e
at_swap [] a b C (suc (suc i)) u e = e
at_swap (x ∷ A) a b C zero u e = e
at_swap (x ∷ A) a b C (suc i) u e = at_swap A a b C i u e

sum_swap : (f : View → ℕ) (A : List View) (a b : View) (C : List View) → total f (A ++ b ∷ a ∷ C) ≡ total f (A ++ a ∷ b ∷ C)
sum_swap f [] a b C = omega arith
sum_swap f (x ∷ A) a b C = let r = sum_swap f A a b C in omega (arith, r)

pub swaps : (A : List View) (a b : View) (C : List View) → Moves (A ++ a ∷ b ∷ C) (A ++ b ∷ a ∷ C)
swaps A a b C = record { goes = swap A; back = swap A; from = λ i u e. inr (at_swap A a b C i u e, swap_twice A i); stays = λ j o e. at_swap A b a C j o e; sums = λ f z. sum_swap f A a b C }

-- ---- a view that has nothing comes in
over : List View → ℕ → ℕ
over [] n = suc n
over (x ∷ A) zero = zero
over (x ∷ A) (suc n) = suc (over A n)

under : List View → ℕ → ℕ
under [] zero = zero
under [] (suc n) = n
under (x ∷ A) zero = zero
under (x ∷ A) (suc n) = suc (under A n)

from_more : (A C : List View) (f : View) (i : ℕ) (u : View) → At (A ++ f ∷ C) i u → (u ≡ f) ⊎ (At (A ++ C) (under A i) u × (over A (under A i) ≡ i))
unfolding over under
from_more [] C f zero u e = inl (sym (some-injective f u e))
from_more [] C f (suc i) u e = inr (e, refl)
from_more (x ∷ A) C f zero u e = inr (e, refl)
from_more (x ∷ A) C f (suc i) u e = elim (from_more A C f i u e) [ inl s ↦ inl s | inr s ↦ inr (s.0, ap suc s.1) ]

stays_more : (A C : List View) (f : View) (j : ℕ) (o : View) → At (A ++ C) j o → At (A ++ f ∷ C) (over A j) o
unfolding over
stays_more [] C f j o e = e
stays_more (x ∷ A) C f zero o e = e
stays_more (x ∷ A) C f (suc j) o e = stays_more A C f j o e

sum_more : (g : View → ℕ) (A C : List View) (f : View) → g f ≡ 0 → total g (A ++ f ∷ C) ≡ total g (A ++ C)
sum_more g [] C f z = omega (arith, z)
sum_more g (x ∷ A) C f z = let r = sum_more g A C f z in omega (arith, r)

pub comes_in : (A C : List View) → Moves (A ++ C) (A ++ fresh_view 0 ∷ C)
comes_in A C = record { goes = over A; back = under A; from = from_more A C (fresh_view 0); stays = stays_more A C (fresh_view 0); sums = λ f z. sum_more f A C (fresh_view 0) z }

-- ---- what is kept where two views change places is kept where two blocks do
module _ (P : List View → Type 0) (swapped : (A : List View) (a b : View) (C : List View) → P (A ++ a ∷ b ∷ C) → P (A ++ b ∷ a ∷ C)) where
  pub grouped : (A B C : List View) → P (A ++ (B ++ C)) → P ((A ++ B) ++ C)
  grouped A B C = subst P (sym (append_assoc A B C))

  pub ungrouped : (A B C : List View) → P ((A ++ B) ++ C) → P (A ++ (B ++ C))
  ungrouped A B C = subst P (append_assoc A B C)

  one_left : (A X : List View) (y : View) (C : List View) → P (A ++ (X ++ y ∷ C)) → P (A ++ y ∷ (X ++ C))
  one_left A [] y C p = p
  one_left A (x ∷ X) y C p = swapped A x y (X ++ C) (ungrouped A (x ∷ []) (y ∷ (X ++ C)) (one_left (A ++ x ∷ []) X y C (grouped A (x ∷ []) (X ++ y ∷ C) p)))

  pub block_left : (A X Y C : List View) → P (A ++ (X ++ (Y ++ C))) → P (A ++ (Y ++ (X ++ C)))
  block_left A X [] C p = p
  block_left A X (y ∷ Y) C p = ungrouped A (y ∷ []) (Y ++ (X ++ C)) (block_left (A ++ y ∷ []) X Y C (grouped A (y ∷ []) (X ++ (Y ++ C)) (one_left A X y (Y ++ C) p)))
