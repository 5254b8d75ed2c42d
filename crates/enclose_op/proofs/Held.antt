-- The locks of an enclosed segment that are held: none at first, one more, and one less; and what is asked of a view that holds a part of it.
use Rattle.std.proofs.Common.{◌≡◌, ℕ, ◌+◌, ◌<◌, ◌≤◌, List, [], ◌∷◌, length, slice_index, inl, inr, refl, sym, ap, ◌∙◌, subst, arith}
use Rattle.std.proofs.lemmas.Bool.{cases_eq}
use Rattle.std.proofs.lemmas.List.{get_or-set_same, get_or-set_other}
use Rattle.image_layout.specs.Places.{bucket_at, buckets}
use Rattle.world.specs.Ground.{Ground}
use Rattle.world.specs.Views.{View, Has}
use Rattle.world.specs.Kinds.{without}
use Rattle.world.specs.Holders.{KnowsWord}
use Rattle.world.specs.areas.Areas.{Area, Segment, Side, Whole}
use Rattle.world.specs.areas.Bridging.{HasNoWhole}
use Rattle.world.proofs.basics.Seats.{without_has, without_stays}
use Rattle.phase.specs.Taking.{MayBeTaken}
use Rattle.phase.specs.Giving.{IsLocated, IsQuiet}
use Rattle.phase.proofs.Handing.{none_loose}
use Rattle.enclose_op.specs.declared.enclosed.Enclosed.{Enclosed}
use Rattle.enclose_op.specs.Whole.{HoldsBetween}
use Rattle.enclose_op.specs.Giving.{lock_of}
use Rattle.enclose_op.specs.Steps.{with_lock}
use Rattle.enclose_op.proofs.Places.{lock_is, same_bucket}

-- ---- an area is the guard alone
pub only_guard : (e : Enclosed) (v : View) → v.areas ≡ Segment e.segment ∷ [] → (a : Area) → Has a v.areas → a ≡ Segment e.segment
only_guard e v areas a has = elim (subst (λ (l : List Area). Has a l) areas has) [ inl is ↦ is | inr none ↦ absurd none ]

pub no_whole : (e : Enclosed) (v : View) → v.areas ≡ Segment e.segment ∷ [] → HasNoWhole v
no_whole e v areas s has = absurd (let is = only_guard e v areas (Whole s) has in cc)

pub no_side : (e : Enclosed) (v : View) → v.areas ≡ Segment e.segment ∷ [] → (n : ℕ) → Has (Side n) v.areas → ⊥
no_side e v areas n has = absurd (let is = only_guard e v areas (Side n) has in cc)

pub has_guard : (e : Enclosed) (v : View) → v.areas ≡ Segment e.segment ∷ [] → Has (Segment e.segment) v.areas
has_guard e v areas = subst (λ (l : List Area). Has (Segment e.segment) l) (sym areas) (inl refl)

-- a known word is settled where nothing is unsettled
pub settled_word : (v : View) (i x : ℕ) → IsQuiet v → Has (i, x) v.known → KnowsWord v i x
settled_word v i x q known = record { known = known; firm = λ y. none_loose v q (i, y) }

module _ (site : Ground) (e : Enclosed) where
  -- ---- none
  pub hold_none : (b : ℕ) (v : View) → v.held ≡ [] → HoldsBetween site e b b v
  hold_none b v none = record {
    has = λ c from to. absurd (let no : b < b = omega (arith, from, to) in omega (arith, no));
    only = λ p has. absurd (subst (λ (l : List (ℕ × ℕ)). Has p l) none has);
    free = λ c from to. absurd (let no : b < b = omega (arith, from, to) in omega (arith, no));
  }

  -- where they end at once, none is held
  pub holds_none : (b : ℕ) (v : View) → HoldsBetween site e b b v → (p : ℕ × ℕ) → Has p v.held → ⊥
  holds_none b v h p has = (let at = h.only p has in let from = at.1 in let to = at.2 in omega (arith, from, to))

  pub hold_at : (b c : ℕ) (v : View) → HoldsBetween site e b b v → HoldsBetween site e c c v
  hold_at b c v h = record {
    has = λ d from to. absurd (omega (arith, from, to));
    only = λ p has. absurd (holds_none b v h p has);
    free = λ d from to. absurd (omega (arith, from, to));
  }

  -- ---- the locks of another view, or of what is kept beside with the same locks
  pub hold_same : (from to : ℕ) (v u : View) (d : Enclosed) → d.segment ≡ e.segment → d.locks ≡ e.locks → u.held ≡ v.held → HoldsBetween site e from to v → HoldsBetween site d from to u
  hold_same from to v u d segment locks held h = record {
    has = λ b low high. subst (λ (l : List (ℕ × ℕ)). Has (bucket_at site.shape d.segment b, slice_index d.locks b + 1) l) (sym held)
        (subst (λ (p : ℕ × ℕ). Has p v.held) (pair_is b) (h.has b low high));
    only = λ p has. (let at = h.only p (subst (λ (l : List (ℕ × ℕ)). Has p l) held has) in (at.0, at.1, at.2, at.3 ∙ pair_is at.0));
    free = λ b low high. subst (λ (l : List ℕ). MayBeTaken (slice_index l b)) (sym locks) (h.free b low high);
  }
    where
      pair_is : (b : ℕ) → ◌≡◌ {A = ℕ × ℕ} (bucket_at site.shape e.segment b, slice_index e.locks b + 1) (bucket_at site.shape d.segment b, slice_index d.locks b + 1)
      pair_is b = ap (λ (s : ℕ). (bucket_at site.shape s b, slice_index e.locks b + 1)) (sym segment) ∙ ap (λ (l : List ℕ). (bucket_at site.shape d.segment b, slice_index l b + 1)) (sym locks)

  module _ (l : IsLocated site e.site e.segment) where
    -- ---- one more, behind the others
    module _ (b free : ℕ) (v : View) (near : b < buckets) (each : length e.locks ≡ buckets) (may : MayBeTaken free) (h : HoldsBetween site e 0 b v) where
      abbrev more : Enclosed
      more = with_lock e b free

      own_is : slice_index more.locks b ≡ free
      own_is = get_or-set_same e.locks b free 0 (omega (arith, near, each))

      other_is : (c : ℕ) → (c ≡ b → ⊥) → slice_index more.locks c ≡ slice_index e.locks c
      other_is c apart = get_or-set_other e.locks b c free 0 apart

      abbrev pair : ℕ → ℕ × ℕ
      pair c = (bucket_at site.shape e.segment c, slice_index more.locks c + 1)

      this_is : (lock_of e b, free + 1) ≡ pair b
      this_is = ap (λ (z : ℕ). (z, free + 1)) (lock_is site e l b near) ∙ ap (λ (z : ℕ). (bucket_at site.shape e.segment b, z + 1)) (sym own_is)

      before_is : (c : ℕ) → c < b → (bucket_at site.shape e.segment c, slice_index e.locks c + 1) ≡ pair c
      before_is c low = ap (λ (z : ℕ). (bucket_at site.shape e.segment c, z + 1)) (sym (other_is c (λ same. omega (arith, same, low))))

      more_only : (p : ℕ × ℕ) → Has p ((lock_of e b, free + 1) ∷ v.held) → (c : ℕ) × (0 ≤ c) × (c < b + 1) × (p ≡ pair c)
      more_only p has = elim has [
        | inl is ↦ (b, omega arith, omega arith, is ∙ this_is)
        | inr was ↦ (let at = h.only p was in let low = at.2 in (at.0, omega arith, omega (arith, low), at.3 ∙ before_is at.0 low))
      ]

      pub hold_more : (u : View) → u ≡ record v { held = (lock_of e b, free + 1) ∷ v.held } → HoldsBetween site more 0 (b + 1) u
      hold_more u same = subst (λ (u : View). HoldsBetween site more 0 (b + 1) u) (sym same) (record {
        has = λ c low high. elim (cases_eq c b) [
          | inl is ↦ inl (ap pair is ∙ sym this_is)
          | inr apart ↦ inr (let low : c < b = omega (arith, high, apart) in subst (λ (p : ℕ × ℕ). Has p v.held) (before_is c low) (h.has c (omega arith) low))
        ];
        only = more_only;
        free = λ c low high. elim (cases_eq c b) [
          | inl is ↦ subst (λ (z : ℕ). MayBeTaken z) (sym (ap (slice_index more.locks) is ∙ own_is)) may
          | inr apart ↦ subst (λ (z : ℕ). MayBeTaken z) (sym (other_is c apart)) (h.free c (omega arith) (omega (arith, high, apart)))
        ];
      })

    -- ---- one less, in front
    module _ (b to : ℕ) (v : View) (low : b < to) (most : to ≤ buckets) (h : HoldsBetween site e b to v) where
      near : b < buckets
      near = omega (arith, low, most)

      less_only : (p : ℕ × ℕ) → Has p (without (lock_of e b) v.held)
          → (c : ℕ) × (b + 1 ≤ c) × (c < to) × (p ≡ (bucket_at site.shape e.segment c, slice_index e.locks c + 1))
      less_only p has =
          let was = without_has (lock_of e b) p.0 p.1 v.held has in
          let at = h.only p was.1 in
          let from = at.1 in
          let apart : at.0 ≡ b → ⊥ = λ same. was.0 (ap (λ (z : ℕ × ℕ). z.0) at.3 ∙ ap (bucket_at site.shape e.segment) same ∙ sym (lock_is site e l b near)) in
          (at.0, omega (arith, from, apart), at.2, at.3)

      pub hold_less : (u : View) → u.held ≡ without (lock_of e b) v.held → HoldsBetween site e (b + 1) to u
      hold_less u held = record {
        has = λ c from high. subst (λ (l : List (ℕ × ℕ)). Has (bucket_at site.shape e.segment c, slice_index e.locks c + 1) l) (sym held)
            (without_stays (lock_of e b) (bucket_at site.shape e.segment c) (slice_index e.locks c + 1) v.held
            (λ same. (let is = same_bucket site.shape e.segment c b (same ∙ lock_is site e l b near) in omega (arith, is, from)))
            (h.has c (omega (arith, from)) high));
        only = λ p has. less_only p (subst (λ (l : List (ℕ × ℕ)). Has p l) held has);
        free = λ c from high. h.free c (omega (arith, from)) high;
      }
