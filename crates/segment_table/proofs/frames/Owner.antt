-- The owner that is computed is the segment that owns the hash.
use Rattle.std.proofs.Common.{◌≡◌, ◌==◌, ◌&&◌, ◌||◌, ℕ, zero, suc, ◌^◌, ◌<◌, ◌≤◌, ◌⊎◌, inl, inr, Bool, true, false, cond, Option, Some, None, refl, sym, ◌∙◌, ap, subst, arith}
use Rattle.std.proofs.lemmas.Bool.{cases_lt, eqb-true, eq-eqb, and_parts, and_from, or_cases, or_left, or_right, ltb-true, lt-ltb, true≢false}
use Rattle.std.specs.Prelude.{nat_lt, if◌then◌else◌}
use Rattle.hash_word.specs.Hash.{top}
use Rattle.segment_head.specs.HeadWord.{state_in, depth_in, pattern_in, normal, splitting}
use Rattle.sound_image.specs.Segments.{Frame, depth_at, IsLive, CoversHash, IsLiveFor, Owns}
use Rattle.segment_table.specs.Claims.{Claims, IsSoundFrame}
use Rattle.segment_table.proofs.frames.SoundFrames.{claimer_owns, owner_claims}
use Rattle.segment_table.specs.Owner.{covers_live, deeper_of, owner_below, owner}

module _ (frame : Frame) (h : ℕ) where
  test_live : (s : ℕ) → covers_live frame h s ≡ true → IsLive frame s × CoversHash frame s h
  test_live s e =
      let parts = and_parts _ _ e in
      (elim (or_cases _ _ parts.0) [ inl a ↦ inl (eqb-true _ _ a) | inr a ↦ inr (eqb-true _ _ a) ], eqb-true _ _ parts.1)

  live_test : (s : ℕ) → IsLiveFor frame h s → covers_live frame h s ≡ true
  live_test s is =
      and_from _ _ (elim is.live [ inl a ↦ or_left _ _ (eq-eqb _ _ a) | inr a ↦ or_right _ _ (eq-eqb _ _ a) ]) (eq-eqb _ _ is.covers)

  -- FOUND among the first n slots: a live segment that covers the hash, and the deepest such; or nothing, where there is none
  record IsDeepest (n o : ℕ) : Type 0 where
    below : o < n
    live : IsLive frame o
    covers : CoversHash frame o h
    most : (t : ℕ) → t < n → IsLiveFor frame h t → depth_at frame t ≤ depth_at frame o

  abbrev IsFound : ℕ → Option ℕ → Type 0
  IsFound n None = (t : ℕ) → t < n → IsLiveFor frame h t → ⊥
  IsFound n (Some o) = IsDeepest n o

  -- the first n slots, and the one behind them
  cases_last : (n t : ℕ) → t < suc n → (t < n) ⊎ (t ≡ n)
  cases_last n t below = elim (cases_lt t n) [ inl less ↦ inl less | inr more ↦ inr (omega (arith, below, more)) ]

  here_too : (n : ℕ) (x : Option ℕ) → (IsLiveFor frame h n → ⊥) → IsFound n x → IsFound (suc n) x
  here_too n None none found = λ t below is. elim (cases_last n t below) [
    | inl less ↦ found t less is
    | inr same ↦ none (subst (λ s. IsLiveFor frame h s) same is)
  ]
  here_too n (Some o) none found = record {
    below = omega (arith, found.below);
    live = found.live;
    covers = found.covers;
    most = λ t below is. elim (cases_last n t below) [
      | inl less ↦ found.most t less is
      | inr same ↦ absurd (none (subst (λ s. IsLiveFor frame h s) same is))
    ];
  }

  chosen : (n o : ℕ) (b : Bool) → nat_lt (depth_at frame o) (depth_at frame n) ≡ b → IsLiveFor frame h n → IsDeepest n o → IsFound (suc n) (cond b (Some n) (Some o))
  chosen n o true deeper is found = record {
    below = omega arith;
    live = is.live;
    covers = is.covers;
    most = λ t below other. elim (cases_last n t below) [
      | inl less ↦ omega (arith, found.most t less other, ltb-true _ _ deeper)
      | inr same ↦ subst (λ s. depth_at frame t ≤ depth_at frame s) same (omega arith)
    ];
  }
  chosen n o false deeper is found = record {
    below = omega (arith, found.below);
    live = found.live;
    covers = found.covers;
    most = λ t below other. elim (cases_last n t below) [
      | inl less ↦ found.most t less other
      | inr same ↦ subst (λ s. depth_at frame s ≤ depth_at frame o) (sym same) (not_deeper deeper)
    ];
  }
    where
      not_deeper : nat_lt (depth_at frame o) (depth_at frame n) ≡ false → depth_at frame n ≤ depth_at frame o
      not_deeper e = elim (cases_lt (depth_at frame o) (depth_at frame n)) [ inl l ↦ absurd (true≢false (sym (lt-ltb _ _ l) ∙ e)) | inr l ↦ l ]

  one_more : (n : ℕ) (x : Option ℕ) → IsLiveFor frame h n → IsFound n x → IsFound (suc n) (deeper_of frame x n)
  one_more n None is found = record {
    below = omega arith;
    live = is.live;
    covers = is.covers;
    most = λ t below other. elim (cases_last n t below) [
      | inl less ↦ absurd (found t less other)
      | inr same ↦ subst (λ s. depth_at frame t ≤ depth_at frame s) same (omega arith)
    ];
  }
  one_more n (Some o) is found = chosen n o (nat_lt (depth_at frame o) (depth_at frame n)) refl is found

  looked_at : (n : ℕ) (b : Bool) → covers_live frame h n ≡ b → n < frame.segments → IsFound n (owner_below frame h n)
      → IsFound (suc n) (cond b (deeper_of frame (owner_below frame h n) n) (owner_below frame h n))
  looked_at n true is slot found = let parts = test_live n is in one_more n (owner_below frame h n) (record { slot = slot; live = parts.0; covers = parts.1 }) found
  looked_at n false is slot found = here_too n (owner_below frame h n) (λ live. true≢false (sym (live_test n live) ∙ is)) found

  found_below : (n : ℕ) → n ≤ frame.segments → IsFound n (owner_below frame h n)
  unfolding owner_below
  found_below zero within = λ t below is. absurd (omega (arith, below))
  found_below (suc n) within = looked_at n (covers_live frame h n) refl (omega (arith, within)) (found_below n (omega (arith, within)))

  found : IsFound frame.segments (owner frame h)
  found = found_below frame.segments (omega arith)

  owns_found : (s : ℕ) → IsFound frame.segments (Some s) → Owns frame s h
  owns_found s is = record { own = record { slot = is.below; live = is.live; covers = is.covers }; deepest = λ t other. is.most t other.slot other }

  -- WHAT IS FOUND owns the hash
  pub found_owns : (s : ℕ) → owner frame h ≡ Some s → Owns frame s h
  found_owns s is = owns_found s (subst (IsFound frame.segments) is found)

  -- and where a hash has one owner at most, it is found
  pub owner_found : (s : ℕ) → Owns frame s h → ((t : ℕ) → Owns frame t h → t ≡ s) → owner frame h ≡ Some s
  owner_found s owns one = go (owner frame h) found
    where
      go : (x : Option ℕ) → IsFound frame.segments x → x ≡ Some s
      go None none = absurd (none s owns.own.slot owns.own)
      go (Some o) is = ap Some (one o (owns_found o is))

-- IN A SOUND FRAME it is who claims the hash
pub claimer_found : (greatest : ℕ) (frame : Frame) → greatest ≤ 16 → IsSoundFrame greatest frame → (s h : ℕ) → h < 2 ^ 64 → Claims frame s h → owner frame h ≡ Some s
claimer_found greatest frame most sound s h fits claims =
    owner_found frame h s (claimer_owns greatest most frame sound s h fits claims) (λ t owns. sound.one h t s fits (owner_claims greatest most frame sound t h fits owns) claims)

-- THE OWNER DEPENDS ON THE HEADERS alone
module _ (frame other : Frame) (h : ℕ) (slots : other.segments ≡ frame.segments) (same : (s : ℕ) → s < frame.segments → other.header s ≡ frame.header s) where
  same_test : (s : ℕ) → s < frame.segments → covers_live other h s ≡ covers_live frame h s
  same_test s slot =
      ap (λ h1. ((state_in h1 == normal) || (state_in h1 == splitting)) && (top (depth_in h1) h == pattern_in h1)) (same s slot)

  same_choice : (n : ℕ) (x : Option ℕ) → n < frame.segments → IsFound frame h n x → deeper_of other x n ≡ deeper_of frame x n
  same_choice n None slot is = refl
  same_choice n (Some o) slot is =
      ap (λ h1. if nat_lt (depth_in h1) (depth_at other n) then Some n else Some o) (same o (omega (arith, is.below, slot)))
      ∙ ap (λ h1. if nat_lt (depth_at frame o) (depth_in h1) then Some n else Some o) (same n slot)

  same_below : (n : ℕ) → n ≤ frame.segments → owner_below other h n ≡ owner_below frame h n
  unfolding owner_below
  same_below zero within = refl
  same_below (suc n) within =
      let slot : n < frame.segments = omega (arith, within) in
      let before = same_below n (omega (arith, within)) in
      ap (λ b. if b then deeper_of other (owner_below other h n) n else owner_below other h n) (same_test n slot)
      ∙ ap (λ x. if covers_live frame h n then deeper_of other x n else x) before
      ∙ ap (λ x. if covers_live frame h n then x else owner_below frame h n)
      (same_choice n (owner_below frame h n) slot (found_below frame h n (omega (arith, within))))

  pub same_owner : owner other h ≡ owner frame h
  same_owner = ap (owner_below other h) slots ∙ same_below frame.segments (omega arith)
