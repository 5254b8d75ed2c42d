-- The events of the device and the views stay tied, at each kind of step.
use Rattle.std.proofs.Common.{◌≡◌, ◌≢◌, ◌⊎◌, ℕ, ◌+◌, ◌%◌, ◌^◌, ◌<◌, Bool, true, false, cond, eqb, List, [], ◌∷◌, ◌++◌, length, set, Option, None, Some, inl, inr, refl, sym, ap, ◌∙◌, subst, arith}
use Rattle.std.proofs.lemmas.Bool.{cases_Bool, eqb-true, eqb-false}
use Rattle.std.specs.Prelude.{nat_lt, Contains}
use mathlib.Core.Logic.{dite}
use native.Mathlib.Decide.{ℕ_discrete}
use Rattle.trace.specs.Events.{Words, line_of, with_word, Event, Trace, value}
use Rattle.trace.specs.Events.Event.{loaded, stored, exchanged, drawn, flushed, fenced}
use Rattle.trace.specs.Progress.{pending}
use Rattle.trace.specs.Steps.{Writes}
use Rattle.trace.proofs.Replaced.{replaced_same, replaced_other}
use Rattle.trace.proofs.Listed.{has_of_contains, contains_of_has, has_append_left, has_append_right}
use Rattle.trace.proofs.Moments.{since_more}
use Rattle.trace.proofs.Flushes.{flush_pending, pending_more, pending_fence_other}
use Rattle.trace.proofs.Media.{may_more, flush_since, fence_since}
use Rattle.image_layout.specs.Places.{Shape, words_of}
use Rattle.image_layout.specs.Volatile.{counter_word, power_word}
use Rattle.map_model.specs.declared.call.Call.{Call}
use Rattle.frame_facts.specs.Core.{core_of}
use Rattle.world.specs.Ground.{Ground, IsLockWord}
use Rattle.world.specs.Views.{Answer, View, Has, At, HasLock, IsGuarded, IsLoose}
use Rattle.world.specs.Media.{MayLeave}
use Rattle.world.specs.Kinds.{Kind, peeks, asks_power, meets_root, meets_entry, meets_head, pins, finds_room, refuses, places, looks, glances_word, validates, learns, meets_lock, tries, stores, copies, clears, repays, publishes, stashes, flushes, fences, draws_place, unlocks, cuts_power, wanted, on_line, off_line, loosened, marked, all_again, with_answer, with_look, with_count, with_lock, with_draw}
use Rattle.world.specs.Conditions.{IsKnownLock, May}
use Rattle.world.specs.Wants.{event_of}
use Rattle.world.specs.Tied.{IsFlushed, Tied}
use Rattle.world.specs.Laws.{found_by, views_by}
use Rattle.world.proofs.basics.Structures.{known_lock}
use Rattle.world.proofs.basics.Grounds.{lock_core}
use Rattle.world.proofs.basics.Lists.{set_here, set_there, has_joined}
use Rattle.world.proofs.basics.Seats.{each, is_v, carry}

-- ---- lists of a view
on_line_is : (l : ℕ) (d : List (ℕ × ℕ)) (p : ℕ × ℕ) → Has p (on_line l d) → line_of p.0 ≡ l
on_line_is l [] p h = absurd h
on_line_is l (q ∷ d) p h = elim (cases_Bool (eqb (line_of q.0) l)) [
  | inl t ↦ elim (subst (λ b. Has p (cond b (q ∷ on_line l d) (on_line l d))) t h) [
    | inl e ↦ ap (λ (z : ℕ × ℕ). line_of z.0) e ∙ eqb-true (line_of q.0) l t
    | inr r ↦ on_line_is l d p r
  ]
  | inr f ↦ on_line_is l d p (subst (λ b. Has p (cond b (q ∷ on_line l d) (on_line l d))) f h)
]

on_line_stays : (l : ℕ) (d : List (ℕ × ℕ)) (p : ℕ × ℕ) → line_of p.0 ≡ l → Has p d → Has p (on_line l d)
on_line_stays l [] p at h = absurd h
on_line_stays l (q ∷ d) p at h = elim (cases_Bool (eqb (line_of q.0) l)) [
  | inl t ↦ subst (λ b. Has p (cond b (q ∷ on_line l d) (on_line l d))) (sym t) (elim h [ inl e ↦ inl e | inr r ↦ inr (on_line_stays l d p at r) ])
  | inr f ↦ subst (λ b. Has p (cond b (q ∷ on_line l d) (on_line l d))) (sym f) (elim h [
    | inl e ↦ absurd (eqb-false (line_of q.0) l f (ap (λ (z : ℕ × ℕ). line_of z.0) (sym e) ∙ at))
    | inr r ↦ on_line_stays l d p at r
  ])
]

off_line_stays : (l : ℕ) (d : List (ℕ × ℕ)) (p : ℕ × ℕ) → (line_of p.0 ≡ l → ⊥) → Has p d → Has p (off_line l d)
off_line_stays l [] p other h = absurd h
off_line_stays l (q ∷ d) p other h = elim (cases_Bool (eqb (line_of q.0) l)) [
  | inl t ↦ subst (λ b. Has p (cond b (off_line l d) (q ∷ off_line l d))) (sym t) (elim h [
    | inl e ↦ absurd (other (ap (λ (z : ℕ × ℕ). line_of z.0) e ∙ eqb-true (line_of q.0) l t))
    | inr r ↦ off_line_stays l d p other r
  ])
  | inr f ↦ subst (λ b. Has p (cond b (off_line l d) (q ∷ off_line l d))) (sym f) (elim h [ inl e ↦ inl e | inr r ↦ inr (off_line_stays l d p other r) ])
]

-- a store that changes a word's core makes its old value loose, and keeps what is
module _ (shape : Shape) (words : Words) (dirty : List (ℕ × ℕ)) where
  loses : (i x : ℕ) → (core_of shape i (words i) ≡ core_of shape i x) ⊎ Has (i, words i) (loosened shape i (words i) x dirty)
  loses i x = elim (cases_Bool (eqb (core_of shape i (words i)) (core_of shape i x))) [
    | inl t ↦ inl (eqb-true (core_of shape i (words i)) (core_of shape i x) t)
    | inr f ↦ inr (subst (λ b. Has (i, words i) (cond b dirty ((i, words i) ∷ dirty))) (sym f) (inl refl))
  ]

  more_dirty : (i x : ℕ) (p : ℕ × ℕ) → Has p dirty → Has p (loosened shape i (words i) x dirty)
  more_dirty i x p d = elim (cases_Bool (eqb (core_of shape i (words i)) (core_of shape i x))) [
    | inl t ↦ subst (λ b. Has p (cond b dirty ((i, words i) ∷ dirty))) (sym t) d
    | inr f ↦ subst (λ b. Has p (cond b dirty ((i, words i) ∷ dirty))) (sym f) (inr d)
  ]

-- what a view after a step has loose as it had before
abbrev pub KeepsLoose : View → View → Type 0
KeepsLoose w v = (w.dirty ≡ v.dirty) × (w.flushed ≡ v.flushed)

look_loose : (t : Bool) (lock n : ℕ) (v : View) → KeepsLoose (with_look t lock n v) v
look_loose true lock n v = (refl, refl)
look_loose false lock n v = (refl, refl)

count_loose : (t : Bool) (call : Call) (n : ℕ) (v : View) → KeepsLoose (with_count t call n v) v
count_loose true call n v = (refl, refl)
count_loose false call n v = (refl, refl)

answer_loose : (t : Bool) (a : Option Answer) (v : View) → KeepsLoose (with_answer t a v) v
answer_loose false a v = (refl, refl)
answer_loose true None v = (refl, refl)
answer_loose true (Some a) v = (refl, refl)

module _ (site : Ground) (start : Words) (es : Trace) (views : List View) (j : ℕ) (v w : View) (at : At views j v) (o : Tied site start es views) where
  abbrev now : Words
  now = value start es

  -- a value that a view lets be left is let be by the views after, where no loose value is lost
  leaves : (words : Words) (n y : ℕ) → ((x : ℕ) → IsLoose v (n, x) → IsLoose w (n, x))
      → (u : ℕ) (a : View) (x : ℕ) → At views u a → IsLoose a (n, x) → core_of site.shape n y ≡ core_of site.shape n x → MayLeave site words (set views j w) n y
  leaves words n y keeps u a x is loose same = let s = carry views j v w at (λ i z. IsLoose z (n, x)) (λ l. keeps x l) u a is loose in inr (u, s.0, x, s.1, s.2, same)

  -- an event that writes nothing, and after which each caller's flushes are as before
  pub tied_load : (i : ℕ) → KeepsLoose w v → Tied site start (loaded j i ∷ es) (set views j w)
  tied_load i same = record {
    covered = λ n y within had. elim (may_more start (loaded j i) es n y had) [
      | inl none ↦ absurd none
      | inr h ↦ elim (o.covered n y within h) [
        | inl e ↦ inl e
        | inr s ↦ leaves now n y (λ x l. elim l [ inl d ↦ inl (subst (λ (z : List (ℕ × ℕ)). Has (n, x) z) (sym same.0) d) | inr f ↦ inr (subst (λ (z : List (ℕ × ℕ)). Has (n, x) z) (sym same.1) f) ])
            s.0 s.1 s.2 s.3 s.4 s.5
      ]
    ];
    fresh = λ c u n x a has. each views j v w at (λ c u. Has (n, x) u.flushed → IsFlushed site start (loaded j i ∷ es) c u.dirty n)
        (λ has. subst (λ (d : List (ℕ × ℕ)). IsFlushed site start (loaded j i ∷ es) j d n) (sym same.0)
        (kept j v n (o.fresh j v n x at (subst (λ (z : List (ℕ × ℕ)). Has (n, x) z) same.1 has))))
        (λ c u ne a has. kept c u n (o.fresh c u n x a has)) c u a has;
  }
    where
      kept : (c : ℕ) (u : View) (n : ℕ) → IsFlushed site start es c u.dirty n → IsFlushed site start (loaded j i ∷ es) c u.dirty n
      kept c u n f = record {
        moment = f.moment;
        is_pending = f.is_pending;
        since = λ y had. elim (since_more start (loaded j i) es f.moment n y had) [ inl none ↦ absurd none | inr h ↦ f.since y h ];
      }

  -- an event that writes a word: its old value is now loose, or had the same core; and nobody else had the word flushed
  pub tied_write : (e : Event) (i x : ℕ) → ((n y : ℕ) → Writes now e n y → (n ≡ i) × (y ≡ x)) → value start (e ∷ es) ≡ with_word now i x
      → ((c : ℕ) → e ≡ fenced c → ⊥) → w.flushed ≡ v.flushed → ((p : ℕ × ℕ) → Has p v.dirty → Has p w.dirty)
      → (i < words_of site.shape → (core_of site.shape i (now i) ≡ core_of site.shape i x) ⊎ Has (i, now i) w.dirty)
      → ((n y : ℕ) → Has (n, y) v.flushed → n < words_of site.shape)
      → ((c : ℕ) (u : View) (y : ℕ) → c ≢ j → At views c u → Has (i, y) u.flushed → ⊥)
      → Tied site start (e ∷ es) (set views j w)
  tied_write e i x writes becomes no_fence same_flushed dirty lost inside alone = record {
    covered = λ n y within had. elim (may_more start e es n y had) [
      | inl wrote ↦ (let q = writes n y wrote in inl (ap (core_of site.shape n) (q.1 ∙ sym (new_at n q.0))))
      | inr h ↦ elim (o.covered n y within h) [
        | inl same ↦ dite (ℕ_discrete n i)
            (λ (q : n ≡ i). elim (lost (subst (λ (z : ℕ). z < words_of site.shape) q within)) [
              | inl core ↦ inl (same ∙ (subst (λ (z : ℕ). core_of site.shape z (now z) ≡ core_of site.shape z x) (sym q) core ∙ ap (core_of site.shape n) (sym (new_at n q))))
              | inr loose ↦ inr (j, w, now n, set_here views j v w at, inl (subst (λ (z : ℕ). Has (z, now z) w.dirty) (sym q) loose), same)
            ])
            (λ (q : n ≢ i). inl (same ∙ ap (core_of site.shape n) (sym (old_at n q))))
        | inr s ↦ leaves (value start (e ∷ es)) n y (λ z l. elim l [ inl d ↦ inl (dirty (n, z) d) | inr f ↦ inr (subst (λ (q : List (ℕ × ℕ)). Has (n, z) q) (sym same_flushed) f) ]) s.0 s.1 s.2 s.3 s.4 s.5
      ]
    ];
    fresh = λ c u n y a has. each views j v w at (λ c u. Has (n, y) u.flushed → IsFlushed site start (e ∷ es) c u.dirty n)
        (λ has. let has' = subst (λ (q : List (ℕ × ℕ)). Has (n, y) q) same_flushed has in
        own n (o.fresh j v n y at has') (λ q. lost (subst (λ (z : ℕ). z < words_of site.shape) q (inside n y has'))))
        (λ c u ne a has. other c u n (o.fresh c u n y a has) (λ q. alone c u y ne a (subst (λ (z : ℕ). Has (z, y) u.flushed) q has))) c u a has;
  }
    where
      new_at : (n : ℕ) → n ≡ i → value start (e ∷ es) n ≡ x
      new_at n q = ap (λ (m : Words). m n) becomes ∙ (ap (with_word now i x) q ∙ replaced_same now i x)

      old_at : (n : ℕ) → (n ≡ i → ⊥) → value start (e ∷ es) n ≡ now n
      old_at n q = ap (λ (m : Words). m n) becomes ∙ replaced_other now i x n q

      still : (c : ℕ) (p : ℕ × ℕ) → Contains (pending c es) p → Contains (pending c (e ∷ es)) p
      still c p h = contains_of_has p (pending c (e ∷ es)) (pending_more e es c p (no_fence c) (has_of_contains p (pending c es) h))

      other : (c : ℕ) (u : View) (n : ℕ) → IsFlushed site start es c u.dirty n → (n ≡ i → ⊥) → IsFlushed site start (e ∷ es) c u.dirty n
      other c u n f ne = record {
        moment = f.moment;
        is_pending = still c (line_of n, f.moment) f.is_pending;
        since = λ y had. elim (since_more start e es f.moment n y had) [
          | inl wrote ↦ absurd (ne (writes n y wrote).0)
          | inr h ↦ elim (f.since y h) [ inl same ↦ inl (same ∙ ap (core_of site.shape n) (sym (old_at n ne))) | inr z ↦ inr z ]
        ];
      }

      own : (n : ℕ) → IsFlushed site start es j v.dirty n → (n ≡ i → (core_of site.shape i (now i) ≡ core_of site.shape i x) ⊎ Has (i, now i) w.dirty) → IsFlushed site start (e ∷ es) j w.dirty n
      own n f lose = record {
        moment = f.moment;
        is_pending = still j (line_of n, f.moment) f.is_pending;
        since = λ y had. elim (since_more start e es f.moment n y had) [
          | inl wrote ↦ (let q = writes n y wrote in inl (ap (core_of site.shape n) (q.1 ∙ sym (new_at n q.0))))
          | inr h ↦ elim (f.since y h) [
            | inl same ↦ dite (ℕ_discrete n i)
                (λ (q : n ≡ i). elim (lose q) [
                  | inl core ↦ inl (same ∙ (subst (λ (z : ℕ). core_of site.shape z (now z) ≡ core_of site.shape z x) (sym q) core ∙ ap (core_of site.shape n) (sym (new_at n q))))
                  | inr loose ↦ inr (now n, subst (λ (z : ℕ). Has (z, now z) w.dirty) (sym q) loose, same)
                ])
                (λ (q : n ≢ i). inl (same ∙ ap (core_of site.shape n) (sym (old_at n q))))
            | inr z ↦ inr (z.0, dirty (n, z.0) z.1, z.2)
          ]
        ];
      }

  -- a store to a word of which nobody else has flushed a value
  pub tied_stored : (i x : ℕ) → w.dirty ≡ loosened site.shape i (now i) x v.dirty → w.flushed ≡ v.flushed → ((n y : ℕ) → Has (n, y) v.flushed → n < words_of site.shape)
      → ((c : ℕ) (u : View) (y : ℕ) → c ≢ j → At views c u → Has (i, y) u.flushed → ⊥) → Tied site start (stored j i x ∷ es) (set views j w)
  tied_stored i x dirty same inside alone = tied_write (stored j i x) i x (λ n y q. q) refl (λ c e. absurd (cc)) same
      (λ p d. subst (λ (z : List (ℕ × ℕ)). Has p z) (sym dirty) (more_dirty site.shape now v.dirty i x p d))
      (λ _. elim (loses site.shape now v.dirty i x) [ inl e ↦ inl e | inr d ↦ inr (subst (λ (z : List (ℕ × ℕ)). Has (i, now i) z) (sym dirty) d) ])
      inside alone

module _ (site : Ground) (start : Words) (es : Trace) (views : List View) (j : ℕ) (v : View) (at : At views j v) (o : Tied site start es views) where
  pub tied_flush : (l : ℕ) → Tied site start (flushed j l ∷ es) (set views j (record v { dirty = off_line l v.dirty; flushed = on_line l v.dirty ++ v.flushed }))
  tied_flush l = record {
    covered = λ n y within had. elim (may_more start (flushed j l) es n y had) [
      | inl none ↦ absurd none
      | inr h ↦ elim (o.covered n y within h) [
        | inl e ↦ inl e
        | inr s ↦ leaves site start es views j v _ at o (value start es) n y (λ x loose. elim loose [
          | inl d ↦ moves n x d
          | inr f ↦ inr (has_append_right {X = ℕ × ℕ} (n, x) (on_line l v.dirty) v.flushed f)
        ]) s.0 s.1 s.2 s.3 s.4 s.5
      ]
    ];
    fresh = λ c u n x a has. each views j v _ at (λ c u. Has (n, x) u.flushed → IsFlushed site start (flushed j l ∷ es) c u.dirty n)
        (λ has. dite (ℕ_discrete (line_of n) l)
        (λ (q : line_of n ≡ l). just n q)
        (λ (q : line_of n ≢ l). elim (has_joined (on_line l v.dirty) v.flushed (n, x) has) [
          | inl on ↦ absurd (q (on_line_is l v.dirty (n, x) on))
          | inr old ↦ before n q (o.fresh j v n x at old)
        ]))
        (λ c u ne a has. kept c u n (o.fresh c u n x a has)) c u a has;
  }
    where
      moves : (n x : ℕ) → Has (n, x) v.dirty → Has (n, x) (off_line l v.dirty) ⊎ Has (n, x) (on_line l v.dirty ++ v.flushed)
      moves n x d = dite (ℕ_discrete (line_of n) l)
          (λ (q : line_of n ≡ l). inr (has_append_left {X = ℕ × ℕ} (n, x) (on_line l v.dirty) v.flushed (on_line_stays l v.dirty (n, x) q d)))
          (λ (q : line_of n ≢ l). inl (off_line_stays l v.dirty (n, x) q d))

      still : (c : ℕ) (p : ℕ × ℕ) → Contains (pending c es) p → Contains (pending c (flushed j l ∷ es)) p
      still c p h = contains_of_has p (pending c (flushed j l ∷ es)) (pending_more (flushed j l) es c p (λ e. absurd (cc)) (has_of_contains p (pending c es) h))

      kept : (c : ℕ) (u : View) (n : ℕ) → IsFlushed site start es c u.dirty n → IsFlushed site start (flushed j l ∷ es) c u.dirty n
      kept c u n f = record {
        moment = f.moment;
        is_pending = still c (line_of n, f.moment) f.is_pending;
        since = λ y had. elim (since_more start (flushed j l) es f.moment n y had) [ inl none ↦ absurd none | inr h ↦ f.since y h ];
      }

      before : (n : ℕ) → (line_of n ≡ l → ⊥) → IsFlushed site start es j v.dirty n → IsFlushed site start (flushed j l ∷ es) j (off_line l v.dirty) n
      before n q f = record {
        moment = f.moment;
        is_pending = still j (line_of n, f.moment) f.is_pending;
        since = λ y had. elim (since_more start (flushed j l) es f.moment n y had) [
          | inl none ↦ absurd none
          | inr h ↦ elim (f.since y h) [ inl e ↦ inl e | inr z ↦ inr (z.0, off_line_stays l v.dirty (n, z.0) q z.1, z.2) ]
        ];
      }

      just : (n : ℕ) → line_of n ≡ l → IsFlushed site start (flushed j l ∷ es) j (off_line l v.dirty) n
      just n q = record {
        moment = length es;
        is_pending = subst (λ (z : ℕ). Contains (pending j (flushed j l ∷ es)) (z, length es)) (sym q)
            (contains_of_has (l, length es) (pending j (flushed j l ∷ es)) (flush_pending es j l));
        since = λ y had. inl (ap (core_of site.shape n) (flush_since start es j l n y had));
      }

  -- a fence settles what its caller flushed
  pub tied_fence : (w : View) → w.dirty ≡ v.dirty → w.flushed ≡ [] → Tied site start (fenced j ∷ es) (set views j w)
  tied_fence w same settled = record {
    covered = λ n y within had. elim (may_more start (fenced j) es n y had) [
      | inl none ↦ absurd none
      | inr h ↦ elim (o.covered n y within h) [
        | inl e ↦ inl e
        | inr s ↦ dite (ℕ_discrete s.0 j)
            (λ (q : s.0 ≡ j). elim (subst (λ (u : View). IsLoose u (n, s.2)) (is_v views j v v at s.0 s.1 s.3 q) s.4) [
              | inl d ↦ inr (j, w, s.2, set_here views j v w at, inl (still n s.2 d), s.5)
              | inr f ↦ (let r = o.fresh j v n s.2 at f in
                  elim (r.since y (fence_since start es j n r.moment y (has_of_contains (line_of n, r.moment) (pending j es) r.is_pending) had)) [
                    | inl e ↦ inl e
                    | inr z ↦ inr (j, w, z.0, set_here views j v w at, inl (still n z.0 z.1), z.2)
                  ])
            ])
            (λ (q : s.0 ≢ j). inr (s.0, s.1, s.2, set_there views j s.0 s.1 w q s.3, s.4, s.5))
      ]
    ];
    fresh = λ c u n x a has. each views j v w at (λ c u. Has (n, x) u.flushed → IsFlushed site start (fenced j ∷ es) c u.dirty n)
        (λ has. absurd (subst (λ (z : List (ℕ × ℕ)). Has (n, x) z) settled has)) (λ c u ne a has. kept c u n ne (o.fresh c u n x a has)) c u a has;
  }
    where
      still : (n x : ℕ) → Has (n, x) v.dirty → Has (n, x) w.dirty
      still n x d = subst (λ (z : List (ℕ × ℕ)). Has (n, x) z) (sym same) d

      kept : (c : ℕ) (u : View) (n : ℕ) → c ≢ j → IsFlushed site start es c u.dirty n → IsFlushed site start (fenced j ∷ es) c u.dirty n
      kept c u n ne f = record {
        moment = f.moment;
        is_pending = subst (λ (ps : List (ℕ × ℕ)). Contains ps (line_of n, f.moment)) (sym (pending_fence_other es c j (λ e. ne (sym e)))) f.is_pending;
        since = λ y had. elim (since_more start (fenced j) es f.moment n y had) [ inl none ↦ absurd none | inr h ↦ f.since y h ];
      }

-- ---- what is said of flushed words, for the steps of a caller to keep it so: they lie within the image; and nobody else has one under
-- a lock that the view holds, nor the word of a lock that it holds or knows
pub record SparesFlushed (site : Ground) (views : List View) (j : ℕ) (v : View) : Type 0 where
  pub inside : (c : ℕ) (u : View) (n y : ℕ) → At views c u → Has (n, y) u.flushed → n < words_of site.shape
  pub alone : (i : ℕ) → IsGuarded v.held i → (c : ℕ) (u : View) (y : ℕ) → c ≢ j → At views c u → Has (i, y) u.flushed → ⊥
  pub is_lock : (lock : ℕ) → HasLock v.held lock → IsLockWord site.shape lock
  pub held : (lock : ℕ) → HasLock v.held lock → (c : ℕ) (u : View) (y : ℕ) → c ≢ j → At views c u → Has (lock, y) u.flushed → ⊥
  pub known : (lock : ℕ) → IsKnownLock site v lock → (c : ℕ) (u : View) (y : ℕ) → c ≢ j → At views c u → Has (lock, y) u.flushed → ⊥

-- ---- by kinds
module _ (site : Ground) (start : Words) (es : Trace) (views : List View) (j : ℕ) (v : View) (f : SparesFlushed site views j v) (at : At views j v) (o : Tied site start es views) where
  abbrev words : Words
  words = value start es

  inside : (n y : ℕ) → Has (n, y) v.flushed → n < words_of site.shape
  inside n y has = f.inside j v n y at has

  tied_store : (i x : ℕ) (w : View) → w.dirty ≡ loosened site.shape i (words i) x v.dirty → w.flushed ≡ v.flushed → IsGuarded v.held i → Tied site start (stored j i x ∷ es) (set views j w)
  tied_store i x w dirty same g = tied_stored site start es views j v w at o i x dirty same inside (f.alone i g)

  -- a lock word has no core
  tied_lock : (e : Event) (lock x : ℕ) (w : View) → ((n y : ℕ) → Writes words e n y → (n ≡ lock) × (y ≡ x)) → value start (e ∷ es) ≡ with_word words lock x → ((c : ℕ) → e ≡ fenced c → ⊥)
      → IsLockWord site.shape lock → ((c : ℕ) (u : View) (y : ℕ) → c ≢ j → At views c u → Has (lock, y) u.flushed → ⊥) → KeepsLoose w v → Tied site start (e ∷ es) (set views j w)
  tied_lock e lock x w writes becomes none is alone same = tied_write site start es views j v w at o e lock x writes becomes none same.1
      (λ p d. subst (λ (z : List (ℕ × ℕ)). Has p z) (sym same.0) d)
      (λ _. inl (lock_core site.shape lock (words lock) is ∙ sym (lock_core site.shape lock x is)))
      inside alone

  tied_try : (lock free : ℕ) → IsKnownLock site v lock → (t : Bool) → Tied site start (cond t (exchanged j lock (free + 1)) (loaded j lock) ∷ es) (set views j (with_lock t lock free v))
  tied_try lock free known true = tied_lock (exchanged j lock (free + 1)) lock (free + 1) (with_lock true lock free v) (λ n y q. q) refl (λ c e. absurd (cc))
      (known_lock site v lock known) (f.known lock known) (refl, refl)
  tied_try lock free known false = tied_load site start es views j v v at o lock (refl, refl)

  tied_draw : (call : Call) (n : ℕ) → Tied site start (drawn j (counter_word site.shape) ∷ es) (set views j (with_draw call n v))
  tied_draw call n = tied_write site start es views j v (with_draw call n v) at o (drawn j (counter_word site.shape)) (counter_word site.shape) ((words (counter_word site.shape) + 1) % 2 ^ 64)
      (λ n y q. q) refl (λ c e. absurd (cc)) refl (λ p d. d) (λ within. absurd (omega (arith, within))) inside
      (λ c u y ne a has. let w = f.inside c u (counter_word site.shape) y a has in omega (arith, w))

  calm : (i : ℕ) (w : View) → KeepsLoose w v → Tied site start (loaded j i ∷ es) (set views j w)
  calm i w same = tied_load site start es views j v w at o i same

  pub tied_by_kind : (kind : Kind) → May site kind v → Tied site start (event_of site.shape (wanted site.shape kind) (found_by site kind words) j ∷ es) (views_by site kind j v words views)
  tied_by_kind (peeks i) may = calm i _ (refl, refl)
  tied_by_kind asks_power may = calm _ _ (refl, refl)
  tied_by_kind meets_root may = calm _ _ (refl, refl)
  tied_by_kind (meets_entry e i) may = calm _ _ (refl, refl)
  tied_by_kind (meets_head s version) may = calm _ _ (refl, refl)
  tied_by_kind (pins s b) may = calm _ _ (refl, refl)
  tied_by_kind (finds_room call) may = calm _ _ (count_loose (nat_lt (words (counter_word site.shape)) (2 ^ 63)) call (words (counter_word site.shape)) v)
  tied_by_kind (refuses call reply) may = calm _ _ (refl, refl)
  tied_by_kind (places k a) may = calm _ _ (refl, refl)
  tied_by_kind (looks lock) may = calm _ _ (look_loose (eqb (words lock % 2) 0) lock (words lock) v)
  tied_by_kind (glances_word lock i) may = calm _ _ (refl, refl)
  tied_by_kind (validates lock) may = calm _ _ (answer_loose (all_again (marked lock (words lock) v.notes)) v.answer (record v { notes = marked lock (words lock) v.notes }))
  tied_by_kind (learns i) may = calm _ _ (refl, refl)
  tied_by_kind (meets_lock lock) may = calm _ _ (refl, refl)
  tied_by_kind (tries lock free) may = tied_try lock free may.0 (eqb (words lock) free)
  tied_by_kind (stores i x) may = tied_store i x _ refl refl may.0.guarded
  tied_by_kind (copies i x m) may = tied_store i x _ refl refl may.0.guarded
  tied_by_kind (clears i x m) may = tied_store i x _ refl refl may.0.guarded
  tied_by_kind (repays i x o) may = tied_store i x _ refl refl may.0.guarded
  tied_by_kind (publishes i x call) may = tied_store i x _ refl refl may.0.guarded
  tied_by_kind (stashes i x call o) may = tied_store i x _ refl refl may.0.guarded
  tied_by_kind (flushes l) may = tied_flush site start es views j v at o l
  tied_by_kind fences may = tied_fence site start es views j v at o _ refl refl
  tied_by_kind (draws_place call) may = tied_draw call _
  tied_by_kind (unlocks lock next) may = tied_lock (stored j lock next) lock next _ (λ n y q. q) refl (λ c e. absurd (cc)) (f.is_lock lock (may.0, may.1)) (f.held lock (may.0, may.1)) (refl, refl)
  tied_by_kind cuts_power may = tied_write site start es views j v _ at o (stored j (power_word site.shape) 1) (power_word site.shape) 1
      (λ n y q. q) refl (λ c e. absurd (cc)) refl (λ p d. d) (λ within. absurd (omega (arith, within))) inside
      (λ c u y ne a has. let w = f.inside c u (power_word site.shape) y a has in omega (arith, w))
