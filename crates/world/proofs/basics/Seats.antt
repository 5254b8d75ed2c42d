-- What all parts of the invariant use: the views after one of them changed, who holds a word, and what the lists of a view
-- have after a step.
use Rattle.std.proofs.Common.{◌≡◌, ◌≢◌, ◌⊎◌, ℕ, ◌+◌, ◌<◌, true, cond, ◌&&◌, eqb, List, [], ◌∷◌, ◌++◌, set, inl, inr, ⊎_elim, sym, ap, ◌∙◌, subst, arith}
use Rattle.std.proofs.lemmas.Bool.{cases_Bool, eqb-true, eqb-false, lt-ltb}
use Rattle.std.specs.Prelude.{nat_lt}
use mathlib.Core.Logic.{dite}
use native.Mathlib.Decide.{ℕ_discrete}
use Rattle.trace.specs.Events.{Words, with_word, line_of}
use Rattle.image_layout.specs.Places.{Shape, words_of}
use Rattle.image_layout.specs.Volatile.{counter_word}
use Rattle.map_model.specs.declared.call.Call.{Call}
use Rattle.map_model.specs.Map.{key_of}
use Rattle.frame_facts.specs.Core.{core_of}
use Rattle.frame_facts.specs.Owners.{HasStructure}
use Rattle.world.specs.Ground.{Ground, IsLockWord, IsUnder}
use Rattle.world.specs.Views.{View, Has, At, HasLock, IsGuarded}
use Rattle.world.specs.Parts.{Locks}
use Rattle.world.specs.Kinds.{without, not_under, on_line, off_line, loosened, of_other_keys}
use Rattle.world.proofs.basics.Grounds.{lock_apart, under_within}
use Rattle.world.proofs.basics.Structures.{kept_structure, under_no_structure}
use Rattle.world.proofs.basics.Lists.{at_set, set_here, set_there, same_at, has_joined}

-- ---- the views after one of them changed
module _ (views : List View) (j : ℕ) (v w : View) (at : At views j v) where
  -- what holds of the new view and of all others that there were
  pub each : (P : ℕ → View → Type 0) → P j w → ((i : ℕ) (u : View) → i ≢ j → At views i u → P i u) → (i : ℕ) (u : View) → At (set views j w) i u → P i u
  each P own other i u e = ⊎_elim
      (λ (t : (i ≡ j) × (w ≡ u)). subst (λ (x : View). P i x) t.1 (subst (λ (n : ℕ). P n w) (sym t.0) own))
      (λ (t : (i ≢ j) × At views i u). other i u t.0 t.1) (at_set views j i w u e)

  pub is_v : (i : ℕ) (u : View) → At views i u → i ≡ j → u ≡ v
  is_v i u a e = same_at views j u v (subst (λ (n : ℕ). At views n u) e a) at

  -- an old view's fact has its witness among the new views
  pub carry : (P : ℕ → View → Type 0) → (P j v → P j w) → (i : ℕ) (u : View) → At views i u → P i u → (u' : View) × At (set views j w) i u' × P i u'
  carry P mine i u a p = dite (ℕ_discrete i j)
      (λ (e : i ≡ j). (
        w,
        subst (λ (n : ℕ). At (set views j w) n w) (sym e) (set_here views j v w at),
        subst (λ (n : ℕ). P n w) (sym e) (mine (subst (λ (n : ℕ). P n v) e (subst (λ (x : View). P i x) (is_v i u a e) p))),
      ))
      (λ (n : i ≢ j). (u, set_there views j i u w n a, p))

-- ---- who holds a word
module _ (site : Ground) (words : Words) (views : List View) (l : Locks site words views) where
  pub lock_of : (j : ℕ) (v : View) (lock : ℕ) → At views j v → HasLock v.held lock → IsLockWord site.shape lock
  lock_of j v lock a h = (l.locked j v lock h.0 a h.1).0

  pub guarded_within : (j : ℕ) (v : View) (n : ℕ) → At views j v → IsGuarded v.held n → n < words_of site.shape
  guarded_within j v n a g = under_within site.shape g.0 n (lock_of j v g.0 a g.1) g.2

  pub guarded_no_lock : (j : ℕ) (v : View) (n lock : ℕ) → At views j v → IsGuarded v.held n → IsLockWord site.shape lock → n ≡ lock → ⊥
  guarded_no_lock j v n lock a g k e = lock_apart site.shape g.0 lock (lock_of j v g.0 a g.1) k (subst (λ (z : ℕ). IsUnder g.0 z) e g.2)

  -- a store to a guarded word leaves the structure
  pub guarded_structure : (j : ℕ) (v : View) (n x : ℕ) → At views j v → IsGuarded v.held n → (m : Words) → HasStructure site.shape m (with_word m n x)
  guarded_structure j v n x a g m = kept_structure site.shape m n x (under_no_structure site.shape g.0 n (lock_of j v g.0 a g.1) g.2)

  pub guarded_no_counter : (j : ℕ) (v : View) (n : ℕ) → At views j v → IsGuarded v.held n → n ≡ counter_word site.shape → ⊥
  guarded_no_counter j v n a g e = let w = guarded_within j v n a g in omega (arith, w, e)

-- ---- the lists of a view after a step
pub has_first : (i x n y : ℕ) (ps : List (ℕ × ℕ)) → Has (n, y) ((i, x) ∷ ps) → ((n ≡ i) × (y ≡ x)) ⊎ Has (n, y) ps
has_first i x n y ps h = elim h [ inl e ↦ inl (ap (λ (z : ℕ × ℕ). z.0) e, ap (λ (z : ℕ × ℕ). z.1) e) | inr r ↦ inr r ]

pub without_has : (i n y : ℕ) (ps : List (ℕ × ℕ)) → Has (n, y) (without i ps) → (n ≡ i → ⊥) × Has (n, y) ps
without_has i n y [] h = absurd h
without_has i n y (p ∷ ps) h = elim (cases_Bool (eqb p.0 i)) [
  | inl t ↦ (let r = without_has i n y ps (subst (λ b. Has (n, y) (cond b (without i ps) (p ∷ without i ps))) t h) in (r.0, inr r.1))
  | inr f ↦ elim (subst (λ b. Has (n, y) (cond b (without i ps) (p ∷ without i ps))) f h) [
    | inl e ↦ ((λ q. eqb-false p.0 i f (sym (ap (λ (z : ℕ × ℕ). z.0) e) ∙ q)), inl e)
    | inr r ↦ (let s = without_has i n y ps r in (s.0, inr s.1))
  ]
]

pub without_stays : (i n y : ℕ) (ps : List (ℕ × ℕ)) → (n ≡ i → ⊥) → Has (n, y) ps → Has (n, y) (without i ps)
without_stays i n y [] ne h = absurd h
without_stays i n y (p ∷ ps) ne h = elim (cases_Bool (eqb p.0 i)) [
  | inl t ↦ subst (λ b. Has (n, y) (cond b (without i ps) (p ∷ without i ps))) (sym t) (elim h [
    | inl e ↦ absurd (ne (ap (λ (z : ℕ × ℕ). z.0) e ∙ eqb-true p.0 i t))
    | inr r ↦ without_stays i n y ps ne r
  ])
  | inr f ↦ subst (λ b. Has (n, y) (cond b (without i ps) (p ∷ without i ps))) (sym f) (elim h [ inl e ↦ inl e | inr r ↦ inr (without_stays i n y ps ne r) ])
]

not_under_test : (lock i : ℕ) → IsUnder lock i → (nat_lt lock i && nat_lt i (lock + 32)) ≡ true
not_under_test lock i u = ap (λ b. b && nat_lt i (lock + 32)) (lt-ltb lock i u.0) ∙ lt-ltb i (lock + 32) u.1

pub not_under_has : (lock n y : ℕ) (ps : List (ℕ × ℕ)) → Has (n, y) (not_under lock ps) → (IsUnder lock n → ⊥) × Has (n, y) ps
not_under_has lock n y [] h = absurd h
not_under_has lock n y (p ∷ ps) h = elim (cases_Bool (nat_lt lock p.0 && nat_lt p.0 (lock + 32))) [
  | inl t ↦ (let r = not_under_has lock n y ps (subst (λ b. Has (n, y) (cond b (not_under lock ps) (p ∷ not_under lock ps))) t h) in (r.0, inr r.1))
  | inr f ↦ elim (subst (λ b. Has (n, y) (cond b (not_under lock ps) (p ∷ not_under lock ps))) f h) [
    | inl e ↦ ((λ u. (let t = not_under_test lock p.0 (subst (λ (z : ℕ). IsUnder lock z) (ap (λ (z : ℕ × ℕ). z.0) e) u) in absurd (cc))), inl e)
    | inr r ↦ (let s = not_under_has lock n y ps r in (s.0, inr s.1))
  ]
]

pub loosened_has : (shape : Shape) (i n x : ℕ) (d : List (ℕ × ℕ)) (p : ℕ × ℕ) → Has p (loosened shape i n x d) → (p ≡ (i, n)) ⊎ Has p d
loosened_has shape i n x d p h = elim (cases_Bool (eqb (core_of shape i n) (core_of shape i x))) [
  | inl t ↦ inr (subst (λ b. Has p (cond b d ((i, n) ∷ d))) t h)
  | inr f ↦ subst (λ b. Has p (cond b d ((i, n) ∷ d))) f h
]

on_line_has : (l : ℕ) (d : List (ℕ × ℕ)) (p : ℕ × ℕ) → Has p (on_line l d) → Has p d
on_line_has l [] p h = absurd h
on_line_has l (q ∷ d) p h = elim (cases_Bool (eqb (line_of q.0) l)) [
  | inl t ↦ elim (subst (λ b. Has p (cond b (q ∷ on_line l d) (on_line l d))) t h) [ inl e ↦ inl e | inr r ↦ inr (on_line_has l d p r) ]
  | inr f ↦ inr (on_line_has l d p (subst (λ b. Has p (cond b (q ∷ on_line l d) (on_line l d))) f h))
]

off_line_has : (l : ℕ) (d : List (ℕ × ℕ)) (p : ℕ × ℕ) → Has p (off_line l d) → Has p d
off_line_has l [] p h = absurd h
off_line_has l (q ∷ d) p h = elim (cases_Bool (eqb (line_of q.0) l)) [
  | inl t ↦ inr (off_line_has l d p (subst (λ b. Has p (cond b (off_line l d) (q ∷ off_line l d))) t h))
  | inr f ↦ elim (subst (λ b. Has p (cond b (off_line l d) (q ∷ off_line l d))) f h) [ inl e ↦ inl e | inr r ↦ inr (off_line_has l d p r) ]
]

-- what is loose after a flush was loose before
pub flush_loose : (l : ℕ) (d f : List (ℕ × ℕ)) (p : ℕ × ℕ) → Has p (off_line l d) ⊎ Has p (on_line l d ++ f) → Has p d ⊎ Has p f
flush_loose l d f p h = elim h [ inl a ↦ inl (off_line_has l d p a) | inr b ↦ elim (has_joined (on_line l d) f p b) [ inl c ↦ inl (on_line_has l d p c) | inr c ↦ inr c ] ]

pub of_other_keys_has : (k : ℕ) (calls : List Call) (c : Call) → Has c (of_other_keys k calls) → (key_of c ≡ k → ⊥) × Has c calls
of_other_keys_has k [] c h = absurd h
of_other_keys_has k (d ∷ calls) c h = elim (cases_Bool (eqb (key_of d) k)) [
  | inl t ↦ (let r = of_other_keys_has k calls c (subst (λ b. Has c (cond b (of_other_keys k calls) (d ∷ of_other_keys k calls))) t h) in (r.0, inr r.1))
  | inr f ↦ elim (subst (λ b. Has c (cond b (of_other_keys k calls) (d ∷ of_other_keys k calls))) f h) [
    | inl e ↦ ((λ q. eqb-false (key_of d) k f (sym (ap key_of e) ∙ q)), inl e)
    | inr r ↦ (let s = of_other_keys_has k calls c r in (s.0, inr s.1))
  ]
]

pub of_other_keys_stays : (k : ℕ) (calls : List Call) (c : Call) → (key_of c ≡ k → ⊥) → Has c calls → Has c (of_other_keys k calls)
of_other_keys_stays k [] c ne h = absurd h
of_other_keys_stays k (d ∷ calls) c ne h = elim (cases_Bool (eqb (key_of d) k)) [
  | inl t ↦ subst (λ b. Has c (cond b (of_other_keys k calls) (d ∷ of_other_keys k calls))) (sym t) (elim h [
    | inl e ↦ absurd (ne (ap key_of e ∙ eqb-true (key_of d) k t))
    | inr r ↦ of_other_keys_stays k calls c ne r
  ])
  | inr f ↦ subst (λ b. Has c (cond b (of_other_keys k calls) (d ∷ of_other_keys k calls))) (sym f) (elim h [ inl e ↦ inl e | inr r ↦ inr (of_other_keys_stays k calls c ne r) ])
]
