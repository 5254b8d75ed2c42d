-- Who has a guard, its word is not 0: over each store.
use Rattle.std.proofs.Common.{◌≡◌, ◌≢◌, ℕ, ◌+◌, List, inl, inr, refl, sym, ap, ◌∙◌, subst, arith}
use Rattle.std.proofs.lemmas.Bool.{cases_eq}
use Rattle.trace.specs.Events.{Words, with_word}
use Rattle.trace.proofs.Replaced.{replaced_same, replaced_other}
use Rattle.image_layout.specs.Places.{Shape, words_of}
use Rattle.world.specs.Ground.{Ground}
use Rattle.world.specs.Views.{View, Has, At}
use Rattle.world.specs.areas.Areas.{Area, Segment, Stale, Side, Free, Whole, Allocation, Directory}
use Rattle.world.specs.areas.Fitting.{Fits}
use Rattle.world.specs.areas.Guarding.{IsGuardOf, FreeGuardsAreNobodys, TakenGuardsAreKept, GivenGuardsAreKept, OtherGuardsAreKept}
use Rattle.world.proofs.basics.Seats.{each}

-- a guard's word is that of one guard
one_area : (shape : Shape) (a b : Area) (i : ℕ) → IsGuardOf shape a i → IsGuardOf shape b i → a ≡ b
one_area shape (Segment s) (Segment t) i p q = ap Segment (by (words_of shape) s t i p q)
  where
    by : (w s t i : ℕ) → i ≡ w + 4 + s → i ≡ w + 4 + t → s ≡ t
    by w s t i p q = omega (arith, p, q)
one_area shape (Segment s) Allocation i p q = absurd (by (words_of shape) s i p q)
  where
    by : (w s i : ℕ) → i ≡ w + 4 + s → i ≡ w + 2 → ⊥
    by w s i p q = omega (arith, p, q)
one_area shape (Segment s) Directory i p q = absurd (by (words_of shape) s i p q)
  where
    by : (w s i : ℕ) → i ≡ w + 4 + s → i ≡ w + 3 → ⊥
    by w s i p q = omega (arith, p, q)
one_area shape Allocation (Segment t) i p q = absurd (by (words_of shape) t i p q)
  where
    by : (w s i : ℕ) → i ≡ w + 2 → i ≡ w + 4 + s → ⊥
    by w s i p q = omega (arith, p, q)
one_area shape Allocation Allocation i p q = refl
one_area shape Allocation Directory i p q = absurd (by (words_of shape) i p q)
  where
    by : (w i : ℕ) → i ≡ w + 2 → i ≡ w + 3 → ⊥
    by w i p q = omega (arith, p, q)
one_area shape Directory (Segment t) i p q = absurd (by (words_of shape) t i p q)
  where
    by : (w s i : ℕ) → i ≡ w + 3 → i ≡ w + 4 + s → ⊥
    by w s i p q = omega (arith, p, q)
one_area shape Directory Allocation i p q = absurd (by (words_of shape) i p q)
  where
    by : (w i : ℕ) → i ≡ w + 3 → i ≡ w + 2 → ⊥
    by w i p q = omega (arith, p, q)
one_area shape Directory Directory i p q = refl
one_area shape a (Stale t) i p q = absurd q
one_area shape a (Side t) i p q = absurd q
one_area shape a (Free t) i p q = absurd q
one_area shape a (Whole t) i p q = absurd q
one_area shape (Stale s) b i p q = absurd p
one_area shape (Side s) b i p q = absurd p
one_area shape (Free s) b i p q = absurd p
one_area shape (Whole s) b i p q = absurd p

-- a guard's holder is one
one_guard : (site : Ground) (words : Words) (views : List View) → Fits site words views → (a : Area) (n : ℕ) → IsGuardOf site.shape a n
    → (i j : ℕ) (u v : View) → At views i u → At views j v → Has a u.areas → Has a v.areas → i ≡ j
one_guard site words views f (Segment s) n k i j u v = f.one_segment i j u v s
one_guard site words views f Allocation n k i j u v = f.one_allocation i j u v
one_guard site words views f Directory n k i j u v = f.one_directory i j u v
one_guard site words views f (Stale s) n k i j u v = absurd k
one_guard site words views f (Side s) n k i j u v = absurd k
one_guard site words views f (Free s) n k i j u v = absurd k
one_guard site words views f (Whole s) n k i j u v = absurd k

pub free_guards : FreeGuardsAreNobodys
free_guards site words views a i o k zero_is c u at h = o.taken c u a i at h k zero_is

-- a word that keeps its value, or gets one that is not 0
stays_taken : (words : Words) (i x n : ℕ) → words n ≢ 0 → (n ≡ i → x ≢ 0) → with_word words i x n ≢ 0
stays_taken words i x n was new = elim (cases_eq n i) [
  | inl e ↦ λ z. new e (sym (ap (with_word words i x) e ∙ replaced_same words i x) ∙ z)
  | inr k ↦ λ z. was (sym (replaced_other words i x n k) ∙ z)
]

pub taken_guards : TakenGuardsAreKept
taken_guards site words views j v w a i x at o k some e = record {
  taken = λ c u b n ac. each views j v w at (λ c u. Has b u.areas → IsGuardOf site.shape b n → with_word words i x n ≢ 0)
      (λ h is. elim (subst (Has b) e h) [
        | inl same ↦
            let here : n ≡ i = word_of site.shape a n i (subst (λ z. IsGuardOf site.shape z n) same is) k in
            λ z. some (sym (ap (with_word words i x) here ∙ replaced_same words i x) ∙ z)
        | inr old ↦ stays_taken words i x n (o.taken j v b n at old is) (λ _. some)
      ])
      (λ c u ne ac h is. stays_taken words i x n (o.taken c u b n ac h is) (λ _. some)) c u ac;
}
  where
    word_of : (shape : Shape) (a : Area) (n i : ℕ) → IsGuardOf shape a n → IsGuardOf shape a i → n ≡ i
    word_of shape (Segment s) n i p q = p ∙ sym q
    word_of shape Allocation n i p q = p ∙ sym q
    word_of shape Directory n i p q = p ∙ sym q
    word_of shape (Stale s) n i p q = absurd p
    word_of shape (Side s) n i p q = absurd p
    word_of shape (Free s) n i p q = absurd p
    word_of shape (Whole s) n i p q = absurd p

pub given_guards : GivenGuardsAreKept
given_guards site words views j v w a i at f o k has less gone = record {
  taken = λ c u b n ac. each views j v w at (λ c u. Has b u.areas → IsGuardOf site.shape b n → with_word words i 0 n ≢ 0)
      (λ h is. stays_taken words i 0 n (o.taken j v b n at (less b h) is)
      (λ e _. gone (subst (λ z. Has z w.areas) (one_area site.shape b a i (subst (IsGuardOf site.shape b) e is) k) h)))
      (λ c u ne ac h is. stays_taken words i 0 n (o.taken c u b n ac h is)
      (λ e _. ne (one_guard site words views f a i k c j u v ac at (subst (λ z. Has z u.areas) (one_area site.shape b a i (subst (IsGuardOf site.shape b) e is) k) h) has))) c u ac;
}

pub other_guards : OtherGuardsAreKept
other_guards site words views j v w i x at o none less = record {
  taken = λ c u b n ac. each views j v w at (λ c u. Has b u.areas → IsGuardOf site.shape b n → with_word words i x n ≢ 0)
      (λ h is. stays_taken words i x n (o.taken j v b n at (less b n h is) is) (λ e _. none b (subst (IsGuardOf site.shape b) e is)))
      (λ c u ne ac h is. stays_taken words i x n (o.taken c u b n ac h is) (λ e _. none b (subst (IsGuardOf site.shape b) e is))) c u ac;
}
