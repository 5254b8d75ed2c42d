-- Views that are cut in two or joined: all that a new view has comes from an old one, whose locks the new one has.
use Rattle.std.proofs.Common.{◌≡◌, ◌≢◌, ◌⊎◌, ℕ, zero, suc, ◌+◌, ◌≤◌, max, true, cond, eqb, List, [], ◌∷◌, ◌++◌, length, set, Option, None, Some, inl, inr, refl, sym, ap, ◌∙◌, subst, arith}
use Rattle.std.proofs.lemmas.Bool.{cases_lt, eq-eqb, ne_eqb, or_left, or_right}
use Rattle.std.proofs.Math.Nat.{le-max_left, max-eq_left, max-eq_right}
use Rattle.std.specs.Prelude.{filter}
use mathlib.Core.Logic.{dite}
use mathlib.Core.Option.{some-injective, some-ne-none}
use native.Mathlib.Decide.{ℕ_discrete}
use Rattle.trace.specs.Events.{Words}
use Rattle.image_layout.specs.Places.{bucket_at}
use Rattle.map_model.specs.declared.call.Call.{Call}
use Rattle.map_model.specs.declared.call.Call.TheVariants.{Remove}
use Rattle.map_model.specs.declared.entry.Entry.{Entry}
use Rattle.map_model.specs.Weave.{draws, drew_at}
use Rattle.map_model.specs.Legal.{InOrder, seen_of}
use Rattle.frame_facts.specs.Facts.{Fact}
use Rattle.world.specs.Ground.{Ground}
use Rattle.world.specs.Conditions.{HoldsMove}
use Rattle.world.specs.Views.{Glance, Answer, Move, Owed, View, Has, At, HasLock, IsLoose}
use Rattle.world.specs.History.{Log}
use Rattle.world.specs.Media.{IsPossible, Stands}
use Rattle.world.specs.Parts.{total, Locks, Plans, History, Room, Spending, Powered, IsRemoving, IsMoving, NobodyOwes, IsPinned, IsUnmoved, IsAnswer}
use Rattle.world.specs.Seats.{cut_off, left_of, joined, spent}
use Rattle.world.specs.areas.Areas.{Area}
use Rattle.world.proofs.basics.Lists.{set_here, set_there, same_at, has_joined, total_set}
use Rattle.world.proofs.basics.Seats.{each}

-- what a new view at seat i has comes from an old view, which went there with its locks and areas
pub record From (views : List View) (goes : ℕ → ℕ) (i : ℕ) (u : View) (P : View → Type 0) : Type 0 where
  pub seat : ℕ
  pub old : View
  pub at : At views seat old
  pub went : goes seat ≡ i
  pub locks : (p : ℕ × ℕ) → Has p old.held → Has p u.held
  pub areas : (a : Area) → Has a old.areas → Has a u.areas
  pub has : P old

-- a new view has no notes, or all those of an old view
abbrev pub KeepsNotes : List View → View → Type 0
KeepsNotes views u = ((u.notes ≡ []) × (u.answer ≡ None)) ⊎ ((j : ℕ) × (o : View) × At views j o × (u.notes ≡ o.notes) × (u.answer ≡ o.answer) × (u.seen ≡ o.seen))

-- a new view has no replies, or those of an old view, which saw no more
abbrev pub KeepsOwn : List View → View → Type 0
KeepsOwn views u = (u.own ≡ []) ⊎ ((j : ℕ) × (o : View) × At views j o × (u.own ≡ o.own) × (o.seen ≤ u.seen))

pub record Reseats (views views' : List View) : Type 0 where
  pub goes : ℕ → ℕ
  pub held : (i : ℕ) (u : View) (p : ℕ × ℕ) → At views' i u → Has p u.held → From views goes i u (λ o. Has p o.held)
  pub known : (i : ℕ) (u : View) (p : ℕ × ℕ) → At views' i u → Has p u.known → From views goes i u (λ o. Has p o.known)
  pub loose : (i : ℕ) (u : View) (p : ℕ × ℕ) → At views' i u → IsLoose u p → From views goes i u (λ o. IsLoose o p)
  pub planned : (i : ℕ) (u : View) (c : Call) → At views' i u → Has c u.planned → From views goes i u (λ o. Has c o.planned)
  pub moving : (i : ℕ) (u : View) (m : Move) → At views' i u → Has m u.moving → From views goes i u (λ o. Has m o.moving)
  pub owed : (i : ℕ) (u : View) (d : Owed) → At views' i u → Has d u.owed → From views goes i u (λ o. Has d o.owed)
  pub notes : (i : ℕ) (u : View) → At views' i u → KeepsNotes views u
  pub own : (i : ℕ) (u : View) → At views' i u → KeepsOwn views u
  pub seen : (i : ℕ) (u : View) → At views' i u → (j : ℕ) × (o : View) × At views j o × (u.seen ≤ o.seen)
  pub locks_stay : (j : ℕ) (o : View) (p : ℕ × ℕ) → At views j o → Has p o.held → (u : View) × At views' (goes j) u × Has p u.held
  pub planned_stays : (j : ℕ) (o : View) (c : Call) → At views j o → Has c o.planned → (u : View) × At views' (goes j) u × Has c u.planned
  pub moving_stays : (j : ℕ) (o : View) (m : Move) → At views j o → Has m o.moving → (u : View) × At views' (goes j) u × Has m u.moving
  pub owed_stays : (j : ℕ) (o : View) (d : Owed) → At views j o → Has d o.owed → (u : View) × At views' (goes j) u × Has d u.owed
  pub draws : total (λ v. draws v.own) views' ≡ total (λ v. draws v.own) views
  pub drew : (n : ℕ) → total (λ v. length (filter (drew_at n) v.own)) views' ≡ total (λ v. length (filter (drew_at n) v.own)) views
  pub callers : total (λ v. v.callers) views' ≡ total (λ v. v.callers) views
  pub each : (i : ℕ) (u : View) → At views' i u → u.room ≤ u.callers
  pub few : total (λ v. v.room) views' ≤ total (λ v. v.room) views
  pub spent_locks : (i : ℕ) (u : View) (lock : ℕ) → At views' i u → Has lock u.spent_locks → (j : ℕ) × (o : View) × At views j o × Has lock o.spent_locks
  pub facts : (i : ℕ) (u : View) (f : Fact) → At views' i u → Has f u.facts → (j : ℕ) × (o : View) × At views j o × Has f o.facts
  pub pinned : (i : ℕ) (u : View) (p : ℕ × ℕ) → At views' i u → Has p u.pinned → From views goes i u (λ o. Has p o.pinned)
  pub power_stays : (j : ℕ) (o : View) → At views j o → o.stored_power ≡ true → (i : ℕ) × (u : View) × At views' i u × (u.stored_power ≡ true)

-- where all noted words are unmoved, the noted answers of views are right
abbrev pub AreAnswered : Ground → Words → Log → List View → Type 0
AreAnswered site words log views = (j : ℕ) (v : View) (a : Answer) → At views j v → v.answer ≡ Some a → ((note : Glance) → Has note v.notes → IsUnmoved words note)
    → IsAnswer site log v.seen a

module _ (site : Ground) (words : Words) (views views' : List View) (r : Reseats views views') where
  -- a cut may leave no more than before
  pub fewer : (m : Words) → IsPossible site words views' m → IsPossible site words views m
  fewer m p i within = elim (p i within) [
    | inl e ↦ inl e
    | inr s ↦ (let f = r.loose s.0 s.1 (i, s.2) s.3 s.4 in inr (f.seat, f.old, s.2, f.at, f.has, s.5))
  ]

  -- ---- what some view has, some view has afterwards
  pub still_stands : (log : Log) (k : ℕ) (a : Option ℕ) → Stands site views log k a → Stands site views' log k a
  still_stands log k a stands = elim stands [
    | inl e ↦ inl e
    | inr s ↦ (let t = r.planned_stays s.0 s.1 s.2 s.3 s.4 in inr (r.goes s.0, t.0, s.2, t.1, t.2, s.5, s.6))
  ]

  pub still_removing : (k lock : ℕ) → IsRemoving views k lock → IsRemoving views' k lock
  still_removing k lock o =
      let a = r.planned_stays o.0 o.1 (Remove k) o.2 o.3 in let b = r.locks_stay o.0 o.1 (lock, o.4.0) o.2 o.4.1 in
      let e : b.0 ≡ a.0 = same_at views' (r.goes o.0) b.0 a.0 b.1 a.1 in
      (r.goes o.0, a.0, a.1, a.2, (o.4.0, subst (λ (z : View). Has (lock, o.4.0) z.held) e b.2))

  pub still_moving : (s k b r c t : ℕ) → IsMoving views s k b r c t → IsMoving views' s k b r c t
  still_moving s k b n c t o = let q = r.moving_stays o.0 o.1 o.2 o.3 o.4 in (r.goes o.0, q.0, o.2, q.1, q.2, o.5)

  -- and what nobody owes nobody owed
  pub none_owed : (s b : ℕ) → NobodyOwes views' s b → NobodyOwes views s b
  none_owed s b none j o d at has = let q = r.owed_stays j o d at has in none (r.goes j) q.0 d q.1 q.2

  -- ---- each part of what holds of words and views
  pub pinned_go : (j : ℕ) (v : View) (s x : ℕ) → At views' j v → Has (s, x) v.pinned
      → ((i : ℕ) (o : View) → At views i o → Has (s, x) o.pinned → IsPinned site words o s x) → IsPinned site words v s x
  pinned_go j v s x at q was = let f = r.pinned j v (s, x) at q in let p = was f.seat f.old f.at f.has in (p.0, p.1, (p.2.0, f.locks _ p.2.1), p.3)

  pub locks_go : Locks site words views → Locks site words views'
  locks_go l = record {
    alone = λ i n u x lock a b at at' q q'. (let f = r.held i u (lock, a) at q in let g = r.held n x (lock, b) at' q' in
        sym f.went ∙ (ap r.goes (l.alone f.seat g.seat f.old g.old lock a b f.at g.at f.has g.has) ∙ g.went));
    locked = λ j v lock x at q. (let f = r.held j v (lock, x) at q in l.locked f.seat f.old lock x f.at f.has);
    odd = λ lock is odd. (let o = l.odd lock is odd in let s = r.locks_stay o.0 o.1 (lock, o.3.0) o.2 o.3.1 in (r.goes o.0, s.0, s.1, (o.3.0, s.2)));
  }

  pub plans_go : (log : Log) → Plans site words views log → Plans site words views' log
  plans_go log p = record {
    places = λ j v c at q s b n own hit. (let f = r.planned j v c at q in let l = p.places f.seat f.old c f.at f.has s b n own hit in (l.0, f.locks _ l.1));
    held = λ j v c at q. (let f = r.planned j v c at q in let l = p.held f.seat f.old c f.at f.has in (l.0, f.locks _ l.1));
    stored = λ j v c at q. (let f = r.planned j v c at q in p.stored f.seat f.old c f.at f.has);
    fits = λ j v c at q. (let f = r.planned j v c at q in p.fits f.seat f.old c f.at f.has);
  }

  pub history_goes : (log : Log) → History site words views log → History site words views' log
  history_goes log p = record {
    counter = p.counter;
    right = λ j v e at q. elim (r.own j v at) [
      | inl none ↦ absurd (subst (λ (es : List Entry). Has e es) none q)
      | inr s ↦ p.right s.0 s.1 e s.2 (subst (λ (es : List Entry). Has e es) s.3 q)
    ];
    in_order = λ j v at. elim (r.own j v at) [
      | inl none ↦ subst (λ (es : List Entry). InOrder 1 0 es) (sym none) tt
      | inr s ↦ subst (λ (es : List Entry). InOrder 1 0 es) (sym s.3) (p.in_order s.0 s.1 s.2)
    ];
    after_own = λ j v at. elim (r.own j v at) [
      | inl none ↦ (let q = ap (seen_of 0) none in omega (arith, q))
      | inr s ↦ (let q = ap (seen_of 0) s.3 in let a = p.after_own s.0 s.1 s.2 in let b = s.4 in omega (arith, q, a, b))
    ];
    within = λ j v at. (let s = r.seen j v at in let a = p.within s.0 s.1 s.2 in let b = s.3 in omega (arith, a, b));
    drawn = r.draws ∙ p.drawn;
    each_once = λ n below. r.drew n ∙ p.each_once n below;
  }

  -- who moves a record, and who owes a note, has the locks that go with it
  pub moves_held : (j : ℕ) (v : View) (m : Move) → At views' j v → Has m v.moving
      → ((i : ℕ) (o : View) → At views i o → Has m o.moving → HoldsMove site.shape o.held m) → HoldsMove site.shape v.held m
  moves_held j v m at q was = let f = r.moving j v m at q in let l = was f.seat f.old f.at f.has in ((l.0.0, f.locks _ l.0.1), (l.1.0, f.locks _ l.1.1), (l.2.0, f.locks _ l.2.1))

  pub owed_held : (j : ℕ) (v : View) (d : Owed) → At views' j v → Has d v.owed
      → ((i : ℕ) (o : View) → At views i o → Has d o.owed → HasLock o.held (bucket_at site.shape d.segment d.home)) → HasLock v.held (bucket_at site.shape d.segment d.home)
  owed_held j v d at q was = let f = r.owed j v d at q in let l = was f.seat f.old f.at f.has in (l.0, f.locks _ l.1)

  pub room_goes : (log : Log) → Room site views log → Room site views' log
  room_goes log p = record {
    callers = r.callers ∙ p.callers;
    each = r.each;
    few = (let a = r.few in let b = p.few in omega (arith, a, b));
  }

  pub spending_goes : (log : Log) → Spending site words views log → Spending site words views' log
  spending_goes log p = record {
    met = λ j v lock at q. (let s = r.spent_locks j v lock at q in p.met s.0 s.1 lock s.2 s.3);
    told = λ j v e at q. elim (r.own j v at) [
      | inl none ↦ absurd (subst (λ (es : List Entry). Has e es) none q)
      | inr s ↦ p.told s.0 s.1 e s.2 (subst (λ (es : List Entry). Has e es) s.3 q)
    ];
  }

  pub powered_goes : Powered site words views → Powered site words views'
  powered_goes p off = let o = p off in r.power_stays o.0 o.1 o.2 o.3

  -- a note is one of an old view, and so is an answer, with all its notes
  pub noted : (P : Glance → Type 0) → ((j : ℕ) (v : View) (note : Glance) → At views j v → Has note v.notes → P note) → (j : ℕ) (v : View) (note : Glance) → At views' j v → Has note v.notes → P note
  noted P was j v note at q = elim (r.notes j v at) [
    | inl none ↦ absurd (subst (λ (ns : List Glance). Has note ns) none.0 q)
    | inr s ↦ was s.0 s.1 note s.2 (subst (λ (ns : List Glance). Has note ns) s.3 q)
  ]

  pub answered_goes : (log : Log) → AreAnswered site words log views → AreAnswered site words log views'
  answered_goes log was j v a at is all = elim (r.notes j v at) [
    | inl none ↦ absurd (let e = none.1 in cc)
    | inr s ↦ subst (λ (z : ℕ). IsAnswer site log z a) (sym s.5) (was s.0 s.1 a s.2 (sym s.4 ∙ is) (λ n has. all n (subst (λ (ns : List Glance). Has n ns) (sym s.3) has)))
  ]

-- ---- a view cut in two
at_end : (views : List View) (w u : View) (i : ℕ) → At (views ++ w ∷ []) i u → At views i u ⊎ (u ≡ w)
at_end [] w u zero a = inr (sym (some-injective w u a))
at_end [] w u (suc i) a = absurd (some-ne-none u (sym a))
at_end (v ∷ views) w u zero a = inl a
at_end (v ∷ views) w u (suc i) a = at_end views w u i a

at_front : (views : List View) (w u : View) (i : ℕ) → At views i u → At (views ++ w ∷ []) i u
at_front [] w u i a = absurd (some-ne-none u (sym a))
at_front (v ∷ views) w u zero a = a
at_front (v ∷ views) w u (suc i) a = at_front views w u i a

total_end : (f : View → ℕ) (views : List View) (w : View) → total f (views ++ w ∷ []) ≡ total f views + f w
total_end f [] w = omega arith
total_end f (v ∷ views) w = let r = total_end f views w in omega (arith, r)

module _ (views : List View) (j : ℕ) (v : View) (n : ℕ) (at : At views j v) where
  abbrev pub parted : List View
  parted = set views j (left_of v n) ++ cut_off v n ∷ []

  -- each new view but the last is an old one, with fewer callers or room
  pub new_views : (P : ℕ → View → Type 0) → P j (left_of v n) → ((i : ℕ) (u : View) → i ≢ j → At views i u → P i u) → ((i : ℕ) → P i (cut_off v n))
      → (i : ℕ) (u : View) → At parted i u → P i u
  new_views P own other last i u a = elim (at_end (set views j (left_of v n)) (cut_off v n) u i a) [
    | inl b ↦ each views j v (left_of v n) at P own other i u b
    | inr e ↦ subst (λ (z : View). P i z) (sym e) (last i)
  ]

  pub still : (P : View → Type 0) → (P v → P (left_of v n)) → (i : ℕ) (o : View) → At views i o → P o → (u : View) × At parted i u × P u
  still P mine i o a p = dite (ℕ_discrete i j)
      (λ (e : i ≡ j). (
        left_of v n,
        at_front (set views j (left_of v n)) (cut_off v n) (left_of v n) i (subst (λ (z : ℕ). At (set views j (left_of v n)) z (left_of v n)) (sym e) (set_here views j v (left_of v n) at)),
        mine (subst P (same_at views j o v (subst (λ (z : ℕ). At views z o) e a) at) p),
      ))
      (λ (ne : i ≢ j). (o, at_front (set views j (left_of v n)) (cut_off v n) o i (set_there views j i o (left_of v n) ne a), p))

  same_total : (f : View → ℕ) → f (left_of v n) + f (cut_off v n) ≡ f v → total f parted ≡ total f views
  same_total f e = let a = total_set f views j v (left_of v n) at in let b = total_end f (set views j (left_of v n)) (cut_off v n) in omega (arith, a, b, e)

  -- what the view had it has, and so has each other
  pub from_v : {P : View → Type 0} → P v → From views (λ i. i) j (left_of v n) P
  from_v q = record { seat = j; old = v; at = at; went = refl; locks = λ p l. l; areas = λ a l. l; has = q }

  pub from_other : {P : View → Type 0} (i : ℕ) (u : View) → At views i u → P u → From views (λ i. i) i u P
  from_other i u a q = record { seat = i; old = u; at = a; went = refl; locks = λ p l. l; areas = λ a l. l; has = q }

  module _ (fits : n ≤ v.callers) (room : (i : ℕ) (u : View) → At views i u → u.room ≤ u.callers) where
    pub cut_reseats : Reseats views parted
    cut_reseats = record {
      goes = λ i. i;
      held = λ i u p a q. new_views (λ i u. Has p u.held → From views (λ i. i) i u (λ o. Has p o.held))
          (λ q. from_v q) (λ i u ne a q. from_other i u a q) (λ i q. absurd q) i u a q;
      known = λ i u p a q. new_views (λ i u. Has p u.known → From views (λ i. i) i u (λ o. Has p o.known))
          (λ q. from_v q) (λ i u ne a q. from_other i u a q) (λ i q. absurd q) i u a q;
      loose = λ i u p a q. new_views (λ i u. IsLoose u p → From views (λ i. i) i u (λ o. IsLoose o p))
          (λ q. from_v q) (λ i u ne a q. from_other i u a q) (λ i q. elim q [ inl d ↦ absurd d | inr f ↦ absurd f ]) i u a q;
      planned = λ i u c a q. new_views (λ i u. Has c u.planned → From views (λ i. i) i u (λ o. Has c o.planned))
          (λ q. from_v q) (λ i u ne a q. from_other i u a q) (λ i q. absurd q) i u a q;
      moving = λ i u c a q. new_views (λ i u. Has c u.moving → From views (λ i. i) i u (λ o. Has c o.moving))
          (λ q. from_v q) (λ i u ne a q. from_other i u a q) (λ i q. absurd q) i u a q;
      owed = λ i u c a q. new_views (λ i u. Has c u.owed → From views (λ i. i) i u (λ o. Has c o.owed))
          (λ q. from_v q) (λ i u ne a q. from_other i u a q) (λ i q. absurd q) i u a q;
      notes = new_views (λ i u. KeepsNotes views u) (inr (j, v, at, refl, refl, refl)) (λ i u ne a. inr (i, u, a, refl, refl, refl)) (λ i. inl (refl, refl));
      own = new_views (λ i u. KeepsOwn views u) (inr (j, v, at, refl, omega arith)) (λ i u ne a. inr (i, u, a, refl, omega arith)) (λ i. inl refl);
      seen = new_views (λ i u. (j : ℕ) × (o : View) × At views j o × (u.seen ≤ o.seen)) (j, v, at, omega arith) (λ i u ne a. (i, u, a, omega arith)) (λ i. (j, v, at, omega arith));
      locks_stay = λ i o p a q. still (λ z. Has p z.held) (λ q. q) i o a q;
      planned_stays = λ i o c a q. still (λ z. Has c z.planned) (λ q. q) i o a q;
      moving_stays = λ i o c a q. still (λ z. Has c z.moving) (λ q. q) i o a q;
      owed_stays = λ i o c a q. still (λ z. Has c z.owed) (λ q. q) i o a q;
      draws = same_total (λ v. draws v.own) (omega arith);
      drew = λ m. same_total (λ v. length (filter (drew_at m) v.own)) (omega arith);
      callers = same_total (λ v. v.callers) (omega (arith, fits));
      each = new_views (λ i u. u.room ≤ u.callers) (omega arith) (λ i u ne a. room i u a) (λ i. omega arith);
      few = (let a = total_set (λ v. v.room) views j v (left_of v n) at in let b = total_end (λ v. v.room) (set views j (left_of v n)) (cut_off v n) in omega (arith, a, b));
      spent_locks = λ i u lock a q. new_views (λ i u. Has lock u.spent_locks → (j : ℕ) × (o : View) × At views j o × Has lock o.spent_locks)
          (λ q. (j, v, at, q)) (λ i u ne a q. (i, u, a, q)) (λ i q. absurd q) i u a q;
      facts = λ i u f a q. new_views (λ i u. Has f u.facts → (j : ℕ) × (o : View) × At views j o × Has f o.facts)
          (λ q. (j, v, at, q)) (λ i u ne a q. (i, u, a, q)) (λ i q. absurd q) i u a q;
      pinned = λ i u p a q. new_views (λ i u. Has p u.pinned → From views (λ i. i) i u (λ o. Has p o.pinned))
          (λ q. from_v q) (λ i u ne a q. from_other i u a q) (λ i q. absurd q) i u a q;
      power_stays = λ i o a q. (let s = still (λ z. z.stored_power ≡ true) (λ q. q) i o a q in (i, s.0, s.1, s.2));
    }

-- ---- two views joined
module _ {X : Type 0} where
  pub before : (xs ys : List X) (x : X) → Has x xs → Has x (xs ++ ys)
  before [] ys x h = absurd h
  before (z ∷ xs) ys x h = elim h [ inl e ↦ inl e | inr r ↦ inr (before xs ys x r) ]

  pub behind : (xs ys : List X) (x : X) → Has x ys → Has x (xs ++ ys)
  behind [] ys x h = h
  behind (z ∷ xs) ys x h = inr (behind xs ys x h)

max_is : (a b : ℕ) → (max a b ≡ a) ⊎ (max a b ≡ b)
max_is a b = elim (cases_lt a b) [ inl below ↦ inr (max-eq_right (omega (arith, below))) | inr above ↦ inl (max-eq_left above) ]

module _ (views : List View) (j i : ℕ) (v w : View) (at : At views j v) (at' : At views i w) (apart : i ≢ j) where
  abbrev pub joint : List View
  joint = set (set views j (joined v w)) i (spent w)

  pub at_i : At (set views j (joined v w)) i w
  at_i = set_there views j i w (joined v w) apart at'

  pub at_j : At joint j (joined v w)
  at_j = set_there (set views j (joined v w)) i j (joined v w) (spent w) (λ e. apart (sym e)) (set_here views j v (joined v w) at)

  pub joint_views : (P : ℕ → View → Type 0) → P j (joined v w) → P i (spent w) → ((n : ℕ) (u : View) → n ≢ j → n ≢ i → At views n u → P n u) → (n : ℕ) (u : View) → At joint n u → P n u
  joint_views P taker other rest = each (set views j (joined v w)) i w (spent w) at_i P other
      (λ n u ne a. each views j v (joined v w) at (λ n u. n ≢ i → P n u) (λ _. taker) (λ n u ne' a ne. rest n u ne' ne a) n u a ne)

  -- what one had goes to the seat of the other
  abbrev pub goes : ℕ → ℕ
  goes n = cond (eqb n i) j n

  goes_i : goes i ≡ j
  goes_i = ap (λ b. cond b j i) (eq-eqb i i refl)

  goes_other : (n : ℕ) → n ≢ i → goes n ≡ n
  goes_other n ne = ap (λ b. cond b j n) (ne_eqb n i ne)

  pub of_v : (P : View → Type 0) → P v → From views goes j (joined v w) P
  of_v P p = record { seat = j; old = v; at = at; went = goes_other j (λ e. apart (sym e)); locks = λ p l. before v.held w.held p l; areas = λ a l. before v.areas w.areas a l; has = p }

  pub of_w : (P : View → Type 0) → P w → From views goes j (joined v w) P
  of_w P p = record { seat = i; old = w; at = at'; went = goes_i; locks = λ p l. behind v.held w.held p l; areas = λ a l. behind v.areas w.areas a l; has = p }

  pub of_other : (P : View → Type 0) (n : ℕ) (u : View) → n ≢ i → At views n u → P u → From views goes n u P
  of_other P n u ne a p = record { seat = n; old = u; at = a; went = goes_other n ne; locks = λ p l. l; areas = λ a l. l; has = p }

  pub stays : (P : View → Type 0) → (P v → P (joined v w)) → (P w → P (joined v w)) → (n : ℕ) (o : View) → At views n o → P o → (u : View) × At joint (goes n) u × P u
  stays P mine theirs n o a p = dite (ℕ_discrete n i)
      (λ (e : n ≡ i). (
        joined v w,
        subst (λ (z : ℕ). At joint z (joined v w)) (sym (ap goes e ∙ goes_i)) at_j,
        theirs (subst P (same_at views i o w (subst (λ (z : ℕ). At views z o) e a) at') p),
      ))
      (λ (ne : n ≢ i). dite (ℕ_discrete n j)
      (λ (e : n ≡ j). (
        joined v w,
        subst (λ (z : ℕ). At joint z (joined v w)) (sym (goes_other n ne ∙ e)) at_j,
        mine (subst P (same_at views j o v (subst (λ (z : ℕ). At views z o) e a) at) p),
      ))
      (λ (ne' : n ≢ j). (o, subst (λ (z : ℕ). At joint z o) (sym (goes_other n ne)) (set_there (set views j (joined v w)) i n o (spent w) ne (set_there views j n o (joined v w) ne' a)), p)))

  joint_total : (f : View → ℕ) → f (joined v w) + f (spent w) ≡ f v + f w → total f joint ≡ total f views
  joint_total f e = let a = total_set f views j v (joined v w) at in let b = total_set f (set views j (joined v w)) i w (spent w) at_i in omega (arith, a, b, e)

  module _ (room : (n : ℕ) (u : View) → At views n u → u.room ≤ u.callers) where
    pub join_reseats : Reseats views joint
    join_reseats = record {
      goes = goes;
      held = λ n u p a q. joint_views (λ n u. Has p u.held → From views goes n u (λ o. Has p o.held))
          (λ q. elim (has_joined v.held w.held p q) [ inl l ↦ of_v (λ o. Has p o.held) l | inr l ↦ of_w (λ o. Has p o.held) l ])
          (λ q. absurd q) (λ n u ne ne' a q. of_other (λ o. Has p o.held) n u ne' a q) n u a q;
      known = λ n u p a q. joint_views (λ n u. Has p u.known → From views goes n u (λ o. Has p o.known))
          (λ q. elim (has_joined v.known w.known p q) [ inl l ↦ of_v (λ o. Has p o.known) l | inr l ↦ of_w (λ o. Has p o.known) l ])
          (λ q. absurd q) (λ n u ne ne' a q. of_other (λ o. Has p o.known) n u ne' a q) n u a q;
      loose = λ n u p a q. joint_views (λ n u. IsLoose u p → From views goes n u (λ o. IsLoose o p))
          (λ q. elim q [
            | inl d ↦ elim (has_joined v.dirty w.dirty p d) [ inl l ↦ of_v (λ o. IsLoose o p) (inl l) | inr l ↦ of_w (λ o. IsLoose o p) (inl l) ]
            | inr f ↦ elim (has_joined v.flushed w.flushed p f) [ inl l ↦ of_v (λ o. IsLoose o p) (inr l) | inr l ↦ of_w (λ o. IsLoose o p) (inr l) ]
          ])
          (λ q. elim q [ inl d ↦ absurd d | inr f ↦ absurd f ]) (λ n u ne ne' a q. of_other (λ o. IsLoose o p) n u ne' a q) n u a q;
      planned = λ n u c a q. joint_views (λ n u. Has c u.planned → From views goes n u (λ o. Has c o.planned))
          (λ q. elim (has_joined v.planned w.planned c q) [ inl l ↦ of_v (λ o. Has c o.planned) l | inr l ↦ of_w (λ o. Has c o.planned) l ])
          (λ q. absurd q) (λ n u ne ne' a q. of_other (λ o. Has c o.planned) n u ne' a q) n u a q;
      moving = λ n u c a q. joint_views (λ n u. Has c u.moving → From views goes n u (λ o. Has c o.moving))
          (λ q. elim (has_joined v.moving w.moving c q) [ inl l ↦ of_v (λ o. Has c o.moving) l | inr l ↦ of_w (λ o. Has c o.moving) l ])
          (λ q. absurd q) (λ n u ne ne' a q. of_other (λ o. Has c o.moving) n u ne' a q) n u a q;
      owed = λ n u c a q. joint_views (λ n u. Has c u.owed → From views goes n u (λ o. Has c o.owed))
          (λ q. elim (has_joined v.owed w.owed c q) [ inl l ↦ of_v (λ o. Has c o.owed) l | inr l ↦ of_w (λ o. Has c o.owed) l ])
          (λ q. absurd q) (λ n u ne ne' a q. of_other (λ o. Has c o.owed) n u ne' a q) n u a q;
      notes = joint_views (λ n u. KeepsNotes views u) (inl (refl, refl)) (inl (refl, refl)) (λ n u ne ne' a. inr (n, u, a, refl, refl, refl));
      own = joint_views (λ n u. KeepsOwn views u) (inr (j, v, at, refl, le-max_left v.seen w.seen)) (inr (i, w, at', refl, omega arith)) (λ n u ne ne' a. inr (n, u, a, refl, omega arith));
      seen = joint_views (λ n u. (j : ℕ) × (o : View) × At views j o × (u.seen ≤ o.seen))
          (elim (max_is v.seen w.seen) [ inl e ↦ (j, v, at, omega (arith, e)) | inr e ↦ (i, w, at', omega (arith, e)) ])
          (i, w, at', omega arith) (λ n u ne ne' a. (n, u, a, omega arith));
      locks_stay = λ n o p a q. stays (λ z. Has p z.held) (λ q. before v.held w.held p q) (λ q. behind v.held w.held p q) n o a q;
      planned_stays = λ n o c a q. stays (λ z. Has c z.planned) (λ q. before v.planned w.planned c q) (λ q. behind v.planned w.planned c q) n o a q;
      moving_stays = λ n o c a q. stays (λ z. Has c z.moving) (λ q. before v.moving w.moving c q) (λ q. behind v.moving w.moving c q) n o a q;
      owed_stays = λ n o c a q. stays (λ z. Has c z.owed) (λ q. before v.owed w.owed c q) (λ q. behind v.owed w.owed c q) n o a q;
      draws = joint_total (λ v. draws v.own) refl;
      drew = λ m. joint_total (λ v. length (filter (drew_at m) v.own)) refl;
      callers = joint_total (λ v. v.callers) (omega arith);
      each = joint_views (λ n u. u.room ≤ u.callers) (let a = room j v at in let b = room i w at' in omega (arith, a, b)) (omega arith) (λ n u ne ne' a. room n u a);
      few = (let e = joint_total (λ v. v.room) (omega arith) in omega (arith, e));
      spent_locks = λ n u lock a q. joint_views (λ n u. Has lock u.spent_locks → (j : ℕ) × (o : View) × At views j o × Has lock o.spent_locks)
          (λ q. elim (has_joined v.spent_locks w.spent_locks lock q) [ inl l ↦ (j, v, at, l) | inr l ↦ (i, w, at', l) ])
          (λ q. (i, w, at', q)) (λ n u ne ne' a q. (n, u, a, q)) n u a q;
      facts = λ n u f a q. joint_views (λ n u. Has f u.facts → (j : ℕ) × (o : View) × At views j o × Has f o.facts)
          (λ q. elim (has_joined v.facts w.facts f q) [ inl l ↦ (j, v, at, l) | inr l ↦ (i, w, at', l) ])
          (λ q. absurd q) (λ n u ne ne' a q. (n, u, a, q)) n u a q;
      pinned = λ n u p a q. joint_views (λ n u. Has p u.pinned → From views goes n u (λ o. Has p o.pinned))
          (λ q. elim (has_joined v.pinned w.pinned p q) [ inl l ↦ of_v (λ o. Has p o.pinned) l | inr l ↦ of_w (λ o. Has p o.pinned) l ])
          (λ q. absurd q) (λ n u ne ne' a q. of_other (λ o. Has p o.pinned) n u ne' a q) n u a q;
      power_stays = λ n o a q. (let s = stays (λ z. z.stored_power ≡ true) (or_left v.stored_power w.stored_power) (or_right v.stored_power w.stored_power) n o a q in (goes n, s.0, s.1, s.2));
    }
