-- The flushes that a caller has not fenced: each is of before now, and the latest of a line is one of them.
use Rattle.std.proofs.Common.{◌≡◌, ℕ, ◌<◌, ◌≤◌, ◌⊎◌, inl, inr, max, cond, List, [], ◌∷◌, length, refl, sym, ap, subst, arith}
use Rattle.std.proofs.lemmas.Bool.{cases_eq, eq-eqb, ne_eqb}
use Rattle.std.proofs.Math.Nat.{le-max_left}
use Rattle.trace.specs.Events.{Event, Trace}
use Rattle.trace.specs.Events.Event.{loaded, stored, exchanged, drawn, flushed, fenced}
use Rattle.trace.specs.Progress.{pending, latest_of, settled_moment}
use Rattle.trace.proofs.Replaced.{cases_at}
use Rattle.trace.specs.Listed.{Has}

-- ---- what is pending

-- a flush is pending
pub flush_pending : (es : Trace) (c l : ℕ) → Has (l, length es) (pending c (flushed c l ∷ es))
flush_pending es c l = subst (λ b. Has (l, length es) (cond b ((l, length es) ∷ pending c es) (pending c es))) (sym (eq-eqb c c refl)) (inl refl)

-- what is pending stays so, but at a fence of its caller
pub pending_more : (e : Event) (es : Trace) (c : ℕ) (p : ℕ × ℕ) → (e ≡ fenced c → ⊥) → Has p (pending c es) → Has p (pending c (e ∷ es))
pending_more (loaded d i) es c p n h = h
pending_more (stored d i x) es c p n h = h
pending_more (exchanged d i x) es c p n h = h
pending_more (drawn d i) es c p n h = h
pending_more (flushed d l) es c p n h = cases_at (λ b. Has p (cond b ((l, length es) ∷ pending c es) (pending c es))) d c (λ _. inr h) (λ _. h)
pending_more (fenced d) es c p n h = cases_at (λ b. Has p (cond b [] (pending c es))) d c (λ e. absurd (n (ap fenced e))) (λ _. h)

-- after its own fence a caller has nothing pending
pub pending_fence_own : (es : Trace) (c : ℕ) → pending c (fenced c ∷ es) ≡ []
pending_fence_own es c = ap (λ b. cond b [] (pending c es)) (eq-eqb c c refl)

-- a fence of another caller leaves what is pending
pub pending_fence_other : (es : Trace) (c d : ℕ) → (d ≡ c → ⊥) → pending c (fenced d ∷ es) ≡ pending c es
pending_fence_other es c d n = ap (λ b. cond b [] (pending c es)) (ne_eqb d c n)

-- a flush of a caller comes in front of what it has pending, and one of another caller leaves that
pub pending_flush_own : (es : Trace) (c l : ℕ) → pending c (flushed c l ∷ es) ≡ (l, length es) ∷ pending c es
pending_flush_own es c l = ap (λ b. cond b ((l, length es) ∷ pending c es) (pending c es)) (eq-eqb c c refl)

pub pending_flush_other : (es : Trace) (c d l : ℕ) → (d ≡ c → ⊥) → pending c (flushed d l ∷ es) ≡ pending c es
pending_flush_other es c d l n = ap (λ b. cond b ((l, length es) ∷ pending c es) (pending c es)) (ne_eqb d c n)

-- each was flushed before now
pub pending_before : (c : ℕ) (es : Trace) (p : ℕ × ℕ) → Has p (pending c es) → p.1 < length es
pending_before c [] p h = absurd h
pending_before c (loaded d i ∷ es) p h = let k : p.1 < length es = pending_before c es p h in omega arith
pending_before c (stored d i x ∷ es) p h = let k : p.1 < length es = pending_before c es p h in omega arith
pending_before c (exchanged d i x ∷ es) p h = let k : p.1 < length es = pending_before c es p h in omega arith
pending_before c (drawn d i ∷ es) p h = let k : p.1 < length es = pending_before c es p h in omega arith
pending_before c (flushed d l ∷ es) p h = elim (cases_eq d c) [
  | inl e ↦ elim (subst (λ b. Has p (cond b ((l, length es) ∷ pending c es) (pending c es))) (eq-eqb d c e) h) [
    | inl q ↦ let k : p.1 ≡ length es = ap (λ (z : ℕ × ℕ). z.1) q in omega arith
    | inr q ↦ let k : p.1 < length es = pending_before c es p q in omega arith
  ]
  | inr n ↦ let k : p.1 < length es = pending_before c es p (subst (λ b. Has p (cond b ((l, length es) ∷ pending c es) (pending c es))) (ne_eqb d c n) h) in omega arith
]
pending_before c (fenced d ∷ es) p h = elim (cases_eq d c) [
  | inl e ↦ absurd (subst (λ b. Has p (cond b [] (pending c es))) (eq-eqb d c e) h)
  | inr n ↦ let k : p.1 < length es = pending_before c es p (subst (λ b. Has p (cond b [] (pending c es))) (ne_eqb d c n) h) in omega arith
]

-- ---- the latest of a line

pub latest_has : (l t : ℕ) (ps : List (ℕ × ℕ)) → Has (l, t) ps → t ≤ latest_of l ps
latest_has l t [] h = absurd h
latest_has l t (p ∷ ps) h = elim h [
  | inl e ↦ let e0 : p.0 ≡ l = sym (ap (λ (q : ℕ × ℕ). q.0) e) in let e1 : t ≡ p.1 = ap (λ (q : ℕ × ℕ). q.1) e in
      cases_at (λ b. t ≤ cond b (max p.1 (latest_of l ps)) (latest_of l ps)) p.0 l (λ _. omega (arith, le-max_left p.1 (latest_of l ps))) (λ n. absurd (n e0))
  | inr q ↦ let k : t ≤ latest_of l ps = latest_has l t ps q in
      cases_at (λ b. t ≤ cond b (max p.1 (latest_of l ps)) (latest_of l ps)) p.0 l (λ _. omega arith) (λ _. k)
]

pair_is : (a b c d : ℕ) → a ≡ c → b ≡ d → ◌≡◌ {A = ℕ × ℕ} (a, b) (c, d)
pair_is a b c d h k = cc

pub latest_is : (l : ℕ) (ps : List (ℕ × ℕ)) → (latest_of l ps ≡ 0) ⊎ Has (l, latest_of l ps) ps
latest_is l [] = inl refl
latest_is l (p ∷ ps) = cases_at (λ b. (cond b (max p.1 (latest_of l ps)) (latest_of l ps) ≡ 0) ⊎ Has (l, cond b (max p.1 (latest_of l ps)) (latest_of l ps)) (p ∷ ps)) p.0 l
    (λ e. elim (cases_eq (max p.1 (latest_of l ps)) p.1) [
      | inl q ↦ inr (inl (pair_is l (max p.1 (latest_of l ps)) p.0 p.1 (sym e) q))
      | inr q ↦ let r : max p.1 (latest_of l ps) ≡ latest_of l ps = omega arith in
          subst (λ x. (x ≡ 0) ⊎ Has (l, x) (p ∷ ps)) (sym r) (elim (latest_is l ps) [ inl z ↦ inl z | inr z ↦ inr (inr z) ])
    ])
    (λ _. elim (latest_is l ps) [ inl z ↦ inl z | inr z ↦ inr (inr z) ])

pub latest_before : (c : ℕ) (es : Trace) (l : ℕ) → latest_of l (pending c es) ≤ length es
latest_before c es l = elim (latest_is l (pending c es)) [
  | inl z ↦ omega arith
  | inr h ↦ let k : latest_of l (pending c es) < length es = pending_before c es (l, latest_of l (pending c es)) h in omega arith
]

-- ---- the settled moment

-- an event takes nothing back
pub settled_step : (e : Event) (es : Trace) (l : ℕ) → settled_moment l es ≤ settled_moment l (e ∷ es)
settled_step (loaded d j) es l = omega arith
settled_step (stored d j x) es l = omega arith
settled_step (exchanged d j x) es l = omega arith
settled_step (drawn d j) es l = omega arith
settled_step (flushed d m) es l = omega arith
settled_step (fenced d) es l = le-max_left _ _

-- only a fence settles
pub settled_kept : (e : Event) (es : Trace) (l : ℕ) → ((c : ℕ) → e ≡ fenced c → ⊥) → settled_moment l (e ∷ es) ≡ settled_moment l es
settled_kept (loaded d j) es l n = refl
settled_kept (stored d j x) es l n = refl
settled_kept (exchanged d j x) es l n = refl
settled_kept (drawn d j) es l n = refl
settled_kept (flushed d m) es l n = refl
settled_kept (fenced d) es l n = absurd (n d refl)

-- what is settled was so by now
pub settled_before : (es : Trace) (l : ℕ) → settled_moment l es ≤ length es
settled_before [] l = omega arith
settled_before (loaded d j ∷ es) l = omega (arith, settled_before es l)
settled_before (stored d j x ∷ es) l = omega (arith, settled_before es l)
settled_before (exchanged d j x ∷ es) l = omega (arith, settled_before es l)
settled_before (drawn d j ∷ es) l = omega (arith, settled_before es l)
settled_before (flushed d m ∷ es) l = omega (arith, settled_before es l)
settled_before (fenced d ∷ es) l = omega (arith, settled_before es l, latest_before d es l)
