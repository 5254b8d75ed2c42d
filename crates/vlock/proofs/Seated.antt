-- What cutting and joining seats owes.
use Rattle.std.proofs.Common.{◌≡◌, ◌≢◌, ◌⊎◌, inl, inr, true, ℕ, zero, suc, ◌<◌, ◌≤◌, List, [], ◌∷◌, ◌++◌, set, refl, sym, ap, ◌∙◌, subst, arith, append_assoc}
use Rattle.std.proofs.lemmas.Bool.{false≢true, or_cases}
use Rattle.std.proofs.lemmas.List.{set-set, set_comm}
use mathlib.Core.Logic.{dite}
use mathlib.Core.Option.{some, some-injective, some-ne-none}
use native.Mathlib.Decide.{ℕ_discrete}
use lib.ListN.{get_elem?}
use Rattle.atomic_table.specs.Table.{Splits, Joins}
use Rattle.trace.specs.Events.{Words}
use Rattle.world.specs.Ground.{Ground}
use Rattle.world.specs.Views.{View, Has}
use Rattle.world.specs.World.{fresh_view}
use Rattle.world.specs.Invariant.{Holds}
use Rattle.world.specs.Seats.{cut_off, left_of, joined, spent}
use Rattle.world.proofs.basics.Lists.{at_set, set_here, set_there, has_joined}
use Rattle.world.proofs.calls.seating.Moving.{cuts_keep, joins_keep}
use Rattle.vlock.specs.declared.knows.Watch.{Watch}
use Rattle.world.specs.Attempts.{OwesNothing}
use Rattle.vlock.specs.Ruling.{word, all_views, IsIdle, Kept}
use Rattle.vlock.specs.Seats.{pass_left, pass_right, note_left, note_right, both, spent_watch}
use Rattle.vlock.proofs.Lists.{behind, place, at_place, set_place}
use Rattle.vlock.proofs.Moved.{HoldsOfSome, moved, swaps, comes_in, grouped, ungrouped, block_left}

-- ---- a seat that is cut in two
views_end : (ps : List Watch) (q : Watch) → q.past ≡ [] → all_views (ps ++ q ∷ []) ≡ all_views ps ++ q.view ∷ []
views_end [] q none = ap (λ (vs : List View). q.view ∷ (vs ++ [])) none
views_end (p ∷ ps) q none = ap (λ (vs : List View). p.view ∷ vs) (ap (λ (vs : List View). p.past ++ vs) (views_end ps q none) ∙ sym (append_assoc p.past (all_views ps) (q.view ∷ [])))

at_more : (ps : List Watch) (q : Watch) (i : ℕ) (p : Watch) → get_elem? (ps ++ q ∷ []) i ≡ some p → (get_elem? ps i ≡ some p) ⊎ (p ≡ q)
at_more [] q zero p e = inr (sym (some-injective q p e))
at_more [] q (suc i) p e = absurd (some-ne-none p (sym e))
at_more (x ∷ ps) q zero p e = inl e
at_more (x ∷ ps) q (suc i) p e = at_more ps q i p e

cut : (site : Ground) (id n : ℕ) (p : Watch) → n ≤ p.view.callers → (p.view.callers ≢ 0 → n < p.view.callers)
    → Splits (Kept site) id p (record p { view = left_of p.view n }) (record { view = cut_off p.view n; past = []; took = [] })
cut site id n p fits stays s h at =
    let l : Watch = record p { view = left_of p.view n } in
    let r : Watch = record { view = cut_off p.view n; past = []; took = [] } in
    let same : set (all_views s.views) (place s.views id) (left_of p.view n) ++ cut_off p.view n ∷ [] ≡ all_views (set s.views id l ++ r ∷ []) =
    ap (λ (vs : List View). vs ++ cut_off p.view n ∷ []) (set_place s.views id p l at refl) ∙ sym (views_end (set s.views id l) r refl) in
    record {
      words = h.words;
      holds = subst (λ (vs : List View). Holds site (word s.words) vs) same (cuts_keep site (word s.words) (all_views s.views) (place s.views id) p.view n h.holds (at_place s.views id p at) fits);
      past = λ i q u a has. elim (at_more (set s.views id l) r i q a) [
        | inl b ↦ elim (at_set s.views id i l q b) [
          | inl e ↦ h.past id p u at (subst (λ (z : Watch). Has u z.past) (sym e.1) has)
          | inr e ↦ h.past i q u e.1 has
        ]
        | inr e ↦ absurd (subst (λ (z : Watch). Has u z.past) e has)
      ];
      idle = λ i q a none. elim (at_more (set s.views id l) r i q a) [
        | inl b ↦ elim (at_set s.views id i l q b) [
          | inl e ↦ (let t = ap (λ (z : Watch). z.view.callers) e.1 in
              let is : p.view.callers ≡ 0 = dite (ℕ_discrete p.view.callers 0) (λ e. e) (λ ne. absurd (let m = stays ne in omega (arith, m, t, none))) in
              let o = h.idle id p at is in let n = o.nothing in subst IsIdle e.1 (record { nothing = record { held = n.held; dirty = n.dirty; flushed = n.flushed; planned = n.planned; moving = n.moving; owed = n.owed; areas = n.areas }; own = o.own; past = o.past }))
          | inr e ↦ h.idle i q e.1 none
        ]
        | inr e ↦ subst IsIdle (sym e) (record { nothing = record { held = refl; dirty = refl; flushed = refl; planned = refl; moving = refl; owed = refl; areas = refl }; own = refl; past = refl })
      ];
      off = λ i q a on. elim (at_more (set s.views id l) r i q a) [
        | inl b ↦ elim (at_set s.views id i l q b) [
          | inl e ↦ h.off id p at (subst (λ (z : Watch). z.view.stored_power ≡ true) (sym e.1) on)
          | inr e ↦ h.off i q e.1 on
        ]
        | inr e ↦ absurd (false≢true (sym (ap (λ (z : Watch). z.view.stored_power) e) ∙ on))
      ];
      full = λ i q u e a among has no_slot. elim (at_more (set s.views id l) r i q a) [
        | inl b ↦ elim (at_set s.views id i l q b) [
          | inl d ↦ elim (subst (λ (z : Watch). Has u (z.view ∷ z.past)) (sym d.1) among) [
            | inl is ↦ h.full id p p.view e at (inl refl) (subst (λ (z : View). Has e z.own) is has) no_slot
            | inr past ↦ h.full id p u e at (inr past) has no_slot
          ]
          | inr d ↦ h.full i q u e d.1 among has no_slot
        ]
        | inr d ↦ elim (subst (λ (z : Watch). Has u (z.view ∷ z.past)) d among) [
          | inl is ↦ absurd (subst (λ (z : View). Has e z.own) is has)
          | inr none ↦ absurd none
        ]
      ];
    }

pub owes_pass : (site : Ground) (id : ℕ) (p : Watch) → 1 < p.view.callers → Splits (Kept site) id p (pass_left p) (pass_right p)
owes_pass site id p more = cut site id 1 p (omega (arith, more)) (λ _. more)

pub owes_note : (site : Ground) (id : ℕ) (p : Watch) → Splits (Kept site) id p (note_left p) (note_right p)
owes_note site id p = cut site id 0 p (omega arith) (λ ne. omega (arith, ne))

-- ---- a seat that takes in another
behind_front : (xs : List View) (a b : ℕ) → behind xs a ≡ behind xs b → a ≡ b
behind_front [] a b e = e
behind_front (x ∷ xs) a b e = behind_front xs a b (omega (arith, e))

-- two seats have their views at two places
apart : (ps : List Watch) (i j : ℕ) (p q : Watch) → i ≢ j → get_elem? ps i ≡ some p → get_elem? ps j ≡ some q → place ps i ≢ place ps j
apart [] i j p q ne a b e = some-ne-none p (sym a)
apart (t ∷ ps) zero zero p q ne a b e = ne refl
apart (t ∷ ps) zero (suc j) p q ne a b e = let n = e in absurd (omega (arith, n))
apart (t ∷ ps) (suc i) zero p q ne a b e = let n = e in absurd (omega (arith, n))
apart (t ∷ ps) (suc i) (suc j) p q ne a b e = apart ps i j p q (λ s. ne (ap suc s)) a b (behind_front t.past _ _ (omega (arith, e)))

place_set : (ps : List Watch) (i j : ℕ) (p w : Watch) → get_elem? ps i ≡ some p → w.past ≡ p.past → place (set ps i w) j ≡ place ps j
place_set [] i j p w a same = refl
place_set (t ∷ ps) zero zero p w a same = refl
place_set (t ∷ ps) zero (suc j) p w a same = ap (λ (vs : List View). suc (behind vs (place ps j))) (same ∙ sym (ap (λ (z : Watch). z.past) (some-injective t p a)))
place_set (t ∷ ps) (suc i) zero p w a same = refl
place_set (t ∷ ps) (suc i) (suc j) p w a same = ap (λ (n : ℕ). suc (behind t.past n)) (place_set ps i j p w a same)

module _ (site : Ground) (words : Words) where
  abbrev P : List View → Type 0
  P vs = HoldsOfSome site words vs

  swapped : (A : List View) (a b : View) (C : List View) → P (A ++ a ∷ b ∷ C) → P (A ++ b ∷ a ∷ C)
  swapped A a b C h = moved site words _ _ h (swaps A a b C)

  one_more : (A C : List View) → P (A ++ C) → P (A ++ fresh_view 0 ∷ C)
  one_more A C h = moved site words _ _ h (comes_in A C)

  abbrev group : (A B C : List View) → P (A ++ (B ++ C)) → P ((A ++ B) ++ C)
  group A B C h = grouped P swapped A B C h

  abbrev ungroup : (A B C : List View) → P ((A ++ B) ++ C) → P (A ++ (B ++ C))
  ungroup A B C h = ungrouped P swapped A B C h

  abbrev left : (A X Y C : List View) → P (A ++ (X ++ (Y ++ C))) → P (A ++ (Y ++ (X ++ C)))
  left A X Y C h = block_left P swapped A X Y C h

  abbrev all_of : Watch → List View
  all_of p = p.view ∷ p.past

  -- the views of a seat come in front, and it is left with nothing
  take_out : (A : List View) (ps : List Watch) (j : ℕ) (q : Watch) → get_elem? ps j ≡ some q → P (A ++ all_views ps) → P (A ++ (all_of q ++ all_views (set ps j spent_watch)))
  take_out A [] j q e h = absurd (some-ne-none q (sym e))
  take_out A (t ∷ ps) zero q e h =
      ungroup A (all_of q) (fresh_view 0 ∷ all_views ps) (one_more (A ++ all_of q) (all_views ps) (group A (all_of q) (all_views ps)
      (subst (λ (z : Watch). P (A ++ (all_of z ++ all_views ps))) (some-injective t q e) h)))
  take_out A (t ∷ ps) (suc j) q e h =
      left A (all_of t) (all_of q) (all_views (set ps j spent_watch)) (ungroup A (all_of t) (all_of q ++ all_views (set ps j spent_watch))
      (take_out (A ++ all_of t) ps j q e (group A (all_of t) (all_views ps) h)))

  -- views in front go to a seat
  put_in : (A Z : List View) (ps : List Watch) (i : ℕ) (p : Watch) → get_elem? ps i ≡ some p → P (A ++ (Z ++ all_views ps)) → P (A ++ all_views (set ps i (record p { past = p.past ++ Z })))
  put_in A Z [] i p e h = absurd (some-ne-none p (sym e))
  put_in A Z (t ∷ ps) zero p e h =
      subst (λ (vs : List View). P (A ++ p.view ∷ vs)) (sym (append_assoc p.past Z (all_views ps)))
      (left A Z (all_of p) (all_views ps) (subst (λ (z : Watch). P (A ++ (Z ++ (all_of z ++ all_views ps)))) (some-injective t p e) h))
  put_in A Z (t ∷ ps) (suc i) p e h =
      ungroup A (all_of t) (all_views (set ps i (record p { past = p.past ++ Z })))
      (put_in (A ++ all_of t) Z ps i p e (group A (all_of t) (Z ++ all_views ps) (left A Z (all_of t) (all_views ps) h)))

  -- the views of one seat go to another
  gives : (A : List View) (ps : List Watch) (i j : ℕ) (p q : Watch) → i ≢ j → get_elem? ps i ≡ some p → get_elem? ps j ≡ some q → P (A ++ all_views ps)
      → P (A ++ all_views (set (set ps i (record p { past = p.past ++ all_of q })) j spent_watch))
  gives A [] i j p q ne a b h = absurd (some-ne-none p (sym a))
  gives A (t ∷ ps) zero zero p q ne a b h = absurd (ne refl)
  gives A (t ∷ ps) zero (suc j) p q ne a b h =
      subst (λ (vs : List View). P (A ++ p.view ∷ vs)) (sym (append_assoc p.past (all_of q) (all_views (set ps j spent_watch))))
      (ungroup A (all_of p) (all_of q ++ all_views (set ps j spent_watch)) (take_out (A ++ all_of p) ps j q b (group A (all_of p) (all_views ps)
      (subst (λ (z : Watch). P (A ++ (all_of z ++ all_views ps))) (some-injective t p a) h))))
  gives A (t ∷ ps) (suc i) zero p q ne a b h =
      one_more A (all_views (set ps i (record p { past = p.past ++ all_of q })))
      (put_in A (all_of q) ps i p a (subst (λ (z : Watch). P (A ++ (all_of z ++ all_views ps))) (some-injective t q b) h))
  gives A (t ∷ ps) (suc i) (suc j) p q ne a b h =
      ungroup A (all_of t) (all_views (set (set ps i (record p { past = p.past ++ all_of q })) j spent_watch))
      (gives (A ++ all_of t) ps i j p q (λ e. ne (ap suc e)) a b (group A (all_of t) (all_views ps) h))

pub owes_take : (site : Ground) (id : ℕ) (p : Watch) (other : ℕ) (q : Watch) → 0 < p.view.callers → Joins (Kept site) id p other q (both p q) spent_watch
owes_take site id p other q counts s h at ne there =
    let at_q : get_elem? s.views other ≡ some q = elim (at_set s.views id other (both p q) q there) [ inl e ↦ absurd (ne e.0) | inr e ↦ e.1 ] in
    let p1 : Watch = record p { view = joined p.view q.view } in
    let q1 : Watch = record q { view = spent q.view } in
    let vs = all_views s.views in
    let j = place s.views id in
    let i = place s.views other in
    let ps = set s.views id p1 in
    let at_q1 : get_elem? ps other ≡ some q = set_there s.views id other q p1 ne at_q in
    let joint = joins_keep site (word s.words) vs j i p.view q.view h.holds (at_place s.views id p at) (at_place s.views other q at_q) (apart s.views other id q p ne at_q at) in
    let first : set vs j p1.view ≡ all_views ps = set_place s.views id p p1 at refl in
    let second : set (set vs j p1.view) i q1.view ≡ all_views (set ps other q1) =
    ap (λ (us : List View). set us i q1.view) first ∙ (ap (λ (n : ℕ). set (all_views ps) n q1.view) (sym (place_set s.views id other p p1 at refl)) ∙ set_place ps other q q1 at_q1 refl) in
    let two = set ps other q1 in
    let at_p2 : get_elem? two id ≡ some p1 = set_there ps other id p1 q1 (λ e. ne (sym e)) (set_here s.views id p p1 at) in
    let at_q2 : get_elem? two other ≡ some q1 = set_here ps other q q1 at_q1 in
    let start : HoldsOfSome site (word s.words) (all_views two) = (subst (λ (us : List View). Holds site (word s.words) us) second joint, place two id, p1.view, at_place two id p1 at_p2) in
    let moved_views = gives site (word s.words) [] two id other p1 q1 (λ e. ne (sym e)) at_p2 at_q2 start in
    let same : set (set two id (both p q)) other spent_watch ≡ set (set s.views id (both p q)) other spent_watch =
    set_comm two id other (both p q) spent_watch (λ e. ne (sym e))
    ∙ (ap (λ (us : List Watch). set us id (both p q)) (set-set ps other q1 spent_watch)
    ∙ (set_comm ps other id spent_watch (both p q) ne
    ∙ ap (λ (us : List Watch). set us other spent_watch) (set-set s.views id p1 (both p q)))) in
    record {
      words = h.words;
      holds = subst (λ (us : List Watch). Holds site (word s.words) (all_views us)) same moved_views.0;
      past = λ n t u a has. elim (at_set (set s.views id (both p q)) other n spent_watch t a) [
        | inl e ↦ absurd (subst (λ (z : Watch). Has u z.past) (sym e.1) has)
        | inr e ↦ elim (at_set s.views id n (both p q) t e.1) [
          | inl d ↦ elim (has_joined p.past (spent q.view ∷ q.past) u (subst (λ (z : Watch). Has u z.past) (sym d.1) has)) [
            | inl b ↦ h.past id p u at b
            | inr b ↦ elim b [
              | inl is ↦ subst OwesNothing (sym is) (record { held = refl; dirty = refl; flushed = refl; planned = refl; moving = refl; owed = refl; areas = refl })
              | inr c ↦ h.past other q u at_q c
            ]
          ]
          | inr d ↦ h.past n t u d.1 has
        ]
      ];
      idle = λ n t a none. elim (at_set (set s.views id (both p q)) other n spent_watch t a) [
        | inl e ↦ subst IsIdle e.1 (record { nothing = record { held = refl; dirty = refl; flushed = refl; planned = refl; moving = refl; owed = refl; areas = refl }; own = refl; past = refl })
        | inr e ↦ elim (at_set s.views id n (both p q) t e.1) [
          | inl d ↦ absurd (let c = ap (λ (z : Watch). z.view.callers) d.1 in omega (arith, counts, c, none))
          | inr d ↦ h.idle n t d.1 none
        ]
      ];
      off = λ n t a on. elim (at_set (set s.views id (both p q)) other n spent_watch t a) [
        | inl e ↦ absurd (false≢true (ap (λ (z : Watch). z.view.stored_power) e.1 ∙ on))
        | inr e ↦ elim (at_set s.views id n (both p q) t e.1) [
          | inl d ↦ elim (or_cases p.view.stored_power q.view.stored_power (subst (λ (z : Watch). z.view.stored_power ≡ true) (sym d.1) on)) [
            | inl mine ↦ h.off id p at mine
            | inr its ↦ h.off other q at_q its
          ]
          | inr d ↦ h.off n t d.1 on
        ]
      ];
      full = λ n t u e a among has no_slot. elim (at_set (set s.views id (both p q)) other n spent_watch t a) [
        | inl d ↦ elim (subst (λ (z : Watch). Has u (z.view ∷ z.past)) (sym d.1) among) [
          | inl is ↦ absurd (subst (λ (z : View). Has e z.own) is has)
          | inr none ↦ absurd none
        ]
        | inr d ↦ elim (at_set s.views id n (both p q) t d.1) [
          | inl b ↦ elim (subst (λ (z : Watch). Has u (z.view ∷ z.past)) (sym b.1) among) [
            | inl is ↦ h.full id p p.view e at (inl refl) (subst (λ (z : View). Has e z.own) is has) no_slot
            | inr past ↦ elim (has_joined p.past (spent q.view ∷ q.past) u past) [
              | inl mine ↦ h.full id p u e at (inr mine) has no_slot
              | inr its ↦ elim its [
                | inl is ↦ h.full other q q.view e at_q (inl refl) (subst (λ (z : View). Has e z.own) is has) no_slot
                | inr earlier ↦ h.full other q u e at_q (inr earlier) has no_slot
              ]
            ]
          ]
          | inr b ↦ h.full n t u e b.1 among has no_slot
        ]
      ];
    }
