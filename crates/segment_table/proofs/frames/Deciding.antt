-- Whether a segment is live, covers a hash, has a ready side, or claims a hash: each can be told.
use Rattle.std.proofs.Common.{◌≡◌, ℕ, zero, suc, ◌+◌, ◌-◌, ◌*◌, ◌^◌, ◌<◌, ◌⊎◌, inl, inr, refl, subst, arith}
use Rattle.std.proofs.lemmas.Bool.{cases_lt, cases_eq}
use Rattle.hash_word.specs.Hash.{top}
use Rattle.segment_head.specs.HeadWord.{normal, splitting}
use Rattle.sound_image.specs.Segments.{Frame, state_at, depth_at, pattern_at, IsLive, IsLiveFor, InOneSide, IsReadySide, HasReadySide}
use Rattle.segment_table.specs.Claims.{Claims}

abbrev pub Decided : Type 0 → Type 0
Decided A = A ⊎ (A → ⊥)

pub both : {A B : Type 0} → Decided A → Decided B → Decided (A × B)
both (inl a) (inl b) = inl (a, b)
both (inl a) (inr b) = inr (λ p. b p.1)
both (inr a) b = inr (λ p. a p.0)

pub one_of : {A B : Type 0} → Decided A → Decided B → Decided (A ⊎ B)
one_of (inl a) b = inl (inl a)
one_of (inr a) (inl b) = inl (inr b)
one_of (inr a) (inr b) = inr (λ p. elim p [ inl x ↦ a x | inr y ↦ b y ])

pub less : (a b : ℕ) → Decided (a < b)
less a b = elim (cases_lt a b) [ inl h ↦ inl h | inr h ↦ inr (λ k. omega (arith, h, k)) ]

module _ (frame : Frame) where
  pub live : (s : ℕ) → Decided (IsLive frame s)
  live s = one_of (cases_eq (state_at frame s) normal) (cases_eq (state_at frame s) splitting)

  ready_at : (s l : ℕ) → frame.link s ≡ l → Decided (HasReadySide frame s)
  ready_at s zero is = inr (λ side. omega (arith, is, side.1.named))
  ready_at s (suc n) is =
      elim (both
      (both (cases_eq (state_at frame s) splitting) (less n frame.segments))
      (both (live n)
      (both (less (depth_at frame s) (depth_at frame n))
      (cases_eq (pattern_at frame n) ((2 * pattern_at frame s + 1) * 2 ^ (depth_at frame n - depth_at frame s - 1)))))) [
        | inl p ↦ inl (n, record { splits = p.0.0; named = is; slot = p.0.1; live = p.1.0; deeper = p.1.1.0; zeros = p.1.1.1 })
        | inr none ↦ inr (λ side.
            let same : side.0 ≡ n = omega (arith, is, side.1.named) in
            let r = subst (λ m. IsReadySide frame s m) same side.1 in
            none ((r.splits, r.slot), (r.live, (r.deeper, r.zeros))))
      ]

  pub ready : (s : ℕ) → Decided (HasReadySide frame s)
  ready s = ready_at s (frame.link s) refl

  pub one_side : (s h : ℕ) → Decided (InOneSide frame s h)
  one_side s h = cases_eq (top (depth_at frame s + 1) h) (2 * pattern_at frame s + 1)

  -- a live segment that covers a hash claims it, or has a ready side for it
  pub claims_or_gave : (s h : ℕ) → IsLiveFor frame h s → Claims frame s h ⊎ (HasReadySide frame s × InOneSide frame s h)
  claims_or_gave s h is = elim (both (ready s) (one_side s h)) [
    | inl gave ↦ inr gave
    | inr kept ↦ inl (record { live = is; kept = λ r o. kept (r, o) })
  ]
