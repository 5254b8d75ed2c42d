-- The settled moment that is kept event by event is the latest flush that its caller has fenced.
use Rattle.std.proofs.Common.{◌≡◌, ℕ, ◌≤◌, ◌⊎◌, inl, inr, max, cond, [], ◌∷◌, ◌++◌, length, refl, sym, ◌∙◌, ap, subst, arith}
use Rattle.std.proofs.lemmas.Bool.{cases_eq, eq-eqb, ne_eqb}
use Rattle.std.proofs.Math.Nat.{le-max_right}
use Rattle.trace.specs.Events.{Event, Trace}
use Rattle.trace.specs.Events.Event.{loaded, stored, exchanged, drawn, flushed, fenced}
use Rattle.trace.specs.Settling.{IsFencedFlush, IsSettledMoment}
use Rattle.trace.specs.Progress.{pending, latest_of, settled_moment}
use Rattle.trace.proofs.Replaced.{cases_at}
use Rattle.trace.proofs.Listed.{has_of_contains, contains_of_has}
use Rattle.trace.specs.Listed.{Has}
use Rattle.trace.proofs.Flushes.{latest_has, latest_is, settled_step}

-- ---- a pending flush is one in the trace

record IsInTrace (es : Trace) (c l t : ℕ) : Type 0 where
  newer : Trace
  older : Trace
  split : es ≡ newer ++ flushed c l ∷ older
  moment : t ≡ length older

further : (e : Event) (es : Trace) (c l t : ℕ) → IsInTrace es c l t → IsInTrace (e ∷ es) c l t
further e es c l t p = record { newer = e ∷ p.newer; older = p.older; split = ap (λ x. e ∷ x) p.split; moment = p.moment }

flush_same : (d m c l : ℕ) (es : Trace) → d ≡ c → m ≡ l → flushed d m ∷ es ≡ flushed c l ∷ es
flush_same d m c l es h k = cc

pending_is : (es : Trace) (c l t : ℕ) → Has (l, t) (pending c es) → IsInTrace es c l t
pending_is [] c l t h = absurd h
pending_is (loaded d j ∷ es) c l t h = further (loaded d j) es c l t (pending_is es c l t h)
pending_is (stored d j x ∷ es) c l t h = further (stored d j x) es c l t (pending_is es c l t h)
pending_is (exchanged d j x ∷ es) c l t h = further (exchanged d j x) es c l t (pending_is es c l t h)
pending_is (drawn d j ∷ es) c l t h = further (drawn d j) es c l t (pending_is es c l t h)
pending_is (flushed d m ∷ es) c l t h = elim (cases_eq d c) [
  | inl e ↦ elim (subst (λ b. Has (l, t) (cond b ((m, length es) ∷ pending c es) (pending c es))) (eq-eqb d c e) h) [
    | inl q ↦ record {
      newer = [];
      older = es;
      split = flush_same d m c l es e (sym (ap (λ (z : ℕ × ℕ). z.0) q));
      moment = ap (λ (z : ℕ × ℕ). z.1) q;
    }
    | inr q ↦ further (flushed d m) es c l t (pending_is es c l t q)
  ]
  | inr n ↦ further (flushed d m) es c l t
      (pending_is es c l t (subst (λ b. Has (l, t) (cond b ((m, length es) ∷ pending c es) (pending c es))) (ne_eqb d c n) h))
]
pending_is (fenced d ∷ es) c l t h = elim (cases_eq d c) [
  | inl e ↦ absurd (subst (λ b. Has (l, t) (cond b [] (pending c es))) (eq-eqb d c e) h)
  | inr n ↦ further (fenced d) es c l t (pending_is es c l t (subst (λ b. Has (l, t) (cond b [] (pending c es))) (ne_eqb d c n) h))
]

-- a flush in the trace was fenced since, or is pending
fenced_or_pending : (newer older : Trace) (c l : ℕ) → Has (fenced c) newer ⊎ Has (l, length older) (pending c (newer ++ flushed c l ∷ older))
fenced_or_pending [] older c l = inr (subst (λ b. Has (l, length older) (cond b ((l, length older) ∷ pending c older) (pending c older))) (sym (eq-eqb c c refl)) (inl refl))
fenced_or_pending (loaded d j ∷ newer) older c l = elim (fenced_or_pending newer older c l) [ inl h ↦ inl (inr h) | inr h ↦ inr h ]
fenced_or_pending (stored d j x ∷ newer) older c l = elim (fenced_or_pending newer older c l) [ inl h ↦ inl (inr h) | inr h ↦ inr h ]
fenced_or_pending (exchanged d j x ∷ newer) older c l = elim (fenced_or_pending newer older c l) [ inl h ↦ inl (inr h) | inr h ↦ inr h ]
fenced_or_pending (drawn d j ∷ newer) older c l = elim (fenced_or_pending newer older c l) [ inl h ↦ inl (inr h) | inr h ↦ inr h ]
fenced_or_pending (flushed d m ∷ newer) older c l = elim (fenced_or_pending newer older c l) [
  | inl h ↦ inl (inr h)
  | inr h ↦ inr (cases_at (λ b. Has (l, length older) (cond b ((m, length (newer ++ flushed c l ∷ older)) ∷ pending c (newer ++ flushed c l ∷ older)) (pending c (newer ++ flushed c l ∷ older)))) d c (λ _. inr h) (λ _. h))
]
fenced_or_pending (fenced d ∷ newer) older c l = elim (cases_eq d c) [
  | inl e ↦ inl (inl (ap fenced (sym e)))
  | inr n ↦ elim (fenced_or_pending newer older c l) [
    | inl h ↦ inl (inr h)
    | inr h ↦ inr (subst (λ b. Has (l, length older) (cond b [] (pending c (newer ++ flushed c l ∷ older)))) (sym (ne_eqb d c n)) h)
  ]
]

-- ---- the settled moment is one of those, or 0

fenced_more : (e : Event) (es : Trace) (l t : ℕ) → IsFencedFlush es l t → IsFencedFlush (e ∷ es) l t
fenced_more e es l t f = record {
  caller = f.caller;
  newer = e ∷ f.newer;
  older = f.older;
  split = ap (λ x. e ∷ x) f.split;
  moment = f.moment;
  fence = contains_of_has (fenced f.caller) (e ∷ f.newer) (inr (has_of_contains (fenced f.caller) f.newer f.fence));
}

some_more : (e : Event) (es : Trace) (l t : ℕ) → (t ≡ 0) ⊎ IsFencedFlush es l t → (t ≡ 0) ⊎ IsFencedFlush (e ∷ es) l t
some_more e es l t h = elim h [ inl z ↦ inl z | inr f ↦ inr (fenced_more e es l t f) ]

now_fenced : (es : Trace) (d l t : ℕ) → IsInTrace es d l t → IsFencedFlush (fenced d ∷ es) l t
now_fenced es d l t p = record {
  caller = d;
  newer = fenced d ∷ p.newer;
  older = p.older;
  split = ap (λ x. fenced d ∷ x) p.split;
  moment = p.moment;
  fence = contains_of_has (fenced d) (fenced d ∷ p.newer) (inl refl);
}

settled_some : (es : Trace) (l : ℕ) → (settled_moment l es ≡ 0) ⊎ IsFencedFlush es l (settled_moment l es)
settled_some [] l = inl refl
settled_some (loaded d j ∷ es) l = some_more (loaded d j) es l _ (settled_some es l)
settled_some (stored d j x ∷ es) l = some_more (stored d j x) es l _ (settled_some es l)
settled_some (exchanged d j x ∷ es) l = some_more (exchanged d j x) es l _ (settled_some es l)
settled_some (drawn d j ∷ es) l = some_more (drawn d j) es l _ (settled_some es l)
settled_some (flushed d m ∷ es) l = some_more (flushed d m) es l _ (settled_some es l)
settled_some (fenced d ∷ es) l =
    let new : (latest_of l (pending d es) ≡ 0) ⊎ IsFencedFlush (fenced d ∷ es) l (latest_of l (pending d es)) = elim (latest_is l (pending d es)) [
      | inl z ↦ inl z
      | inr h ↦ inr (now_fenced es d l _ (pending_is es d l _ h))
    ] in
    elim (cases_eq (max (settled_moment l es) (latest_of l (pending d es))) (settled_moment l es)) [
      | inl q ↦ subst (λ x. (x ≡ 0) ⊎ IsFencedFlush (fenced d ∷ es) l x) (sym q) (some_more (fenced d) es l _ (settled_some es l))
      | inr q ↦ let r : max (settled_moment l es) (latest_of l (pending d es)) ≡ latest_of l (pending d es) = omega arith in
          subst (λ x. (x ≡ 0) ⊎ IsFencedFlush (fenced d ∷ es) l x) (sym r) new
    ]

-- ---- and there is no later one

cons_parts : (a b : Event) (x y : Trace) → a ∷ x ≡ b ∷ y → (a ≡ b) × (x ≡ y)
cons_parts a b x y h = (cc, cc)

le_both : (a b c : ℕ) → a ≤ b → b ≤ c → a ≤ c
le_both a b c h k = omega arith

none_later : (es newer older : Trace) (c l u : ℕ) → es ≡ newer ++ flushed c l ∷ older → length older ≡ u → Has (fenced c) newer → u ≤ settled_moment l es
none_later es [] older c l u e n h = absurd h
none_later [] (x ∷ newer) older c l u e n h = cc
none_later (y ∷ es) (x ∷ newer) older c l u e n h =
    let p = cons_parts y x es (newer ++ flushed c l ∷ older) e in
    elim h [
      | inl q ↦ elim (fenced_or_pending newer older c l) [
        | inl r ↦ le_both u (settled_moment l es) (settled_moment l (y ∷ es)) (none_later es newer older c l u p.1 n r) (settled_step y es l)
        | inr r ↦ subst (λ z. u ≤ settled_moment l (z ∷ es)) (q ∙ sym p.0)
            (le_both u (latest_of l (pending c es)) (settled_moment l (fenced c ∷ es))
            (latest_has l u (pending c es) (subst (λ z. Has (l, u) (pending c z)) (sym p.1) (subst (λ z. Has (l, z) (pending c (newer ++ flushed c l ∷ older))) n r)))
            (le-max_right (settled_moment l es) (latest_of l (pending c es))))
      ]
      | inr r ↦ le_both u (settled_moment l es) (settled_moment l (y ∷ es)) (none_later es newer older c l u p.1 n r) (settled_step y es l)
    ]

fenced_before : (es : Trace) (l u : ℕ) → IsFencedFlush es l u → u ≤ settled_moment l es
fenced_before es l u f = none_later es f.newer f.older f.caller l u f.split (sym f.moment) (has_of_contains (fenced f.caller) f.newer f.fence)

-- the settled moment is what the definition says
pub settled_is : (es : Trace) (l : ℕ) → IsSettledMoment es l (settled_moment l es)
settled_is es l = record { some = settled_some es l; latest = fenced_before es l }

-- and there is no other
pub settled_only : (es : Trace) (l t : ℕ) → IsSettledMoment es l t → t ≡ settled_moment l es
settled_only es l t s =
    let at_most : t ≤ settled_moment l es = elim s.some [
      | inl z ↦ omega arith
      | inr f ↦ fenced_before es l t f
    ] in
    let at_least : settled_moment l es ≤ t = elim (settled_some es l) [
      | inl z ↦ omega arith
      | inr f ↦ s.latest (settled_moment l es) f
    ] in
    omega arith
