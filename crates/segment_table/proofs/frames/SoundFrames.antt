-- What follows in a sound frame: regions nest, and who claims a hash is its owner.
use Rattle.std.proofs.Common.{◌≡◌, ◌≢◌, ℕ, ◌+◌, ◌-◌, ◌*◌, ◌/◌, ◌^◌, ◌<◌, ◌≤◌, inl, inr, sym, ap, subst, ◌∙◌, arith}
use Rattle.std.proofs.lemmas.Bool.{cases_lt}
use Rattle.std.proofs.lemmas.Nat.{shl-shr}
use Rattle.hash_word.specs.Hash.{top}
use Rattle.segment_head.specs.HeadWord.{free, normal, splitting}
use Rattle.sound_image.specs.Segments.{Frame, state_at, depth_at, pattern_at, IsLive, CoversHash, IsLiveFor, Owns, InOneSide}
use Rattle.segment_table.specs.Claims.{Claims, LeadsToClaimer, arrived, on, IsSoundFrame}
use Rattle.segment_table.specs.Media.{first_hash}
use Rattle.segment_table.proofs.frames.Regions.{fewer, same_fewer, one_fewer, top_of_first, first_fits, next_top_of_first}
use Rattle.segment_table.proofs.frames.Deciding.{claims_or_gave}

module _ (frame : Frame) where
  pub not_free : (s : ℕ) → IsLive frame s → state_at frame s ≢ free
  not_free s live e = elim live [ inl is ↦ omega (arith, e, is) | inr is ↦ omega (arith, e, is) ]

  pub first_covered : (s : ℕ) → CoversHash frame s (first_hash frame s)
  first_covered s = top_of_first (depth_at frame s) (pattern_at frame s)

  -- the segment at which the way from an entry ends
  pub claimer_of : (h s : ℕ) → LeadsToClaimer frame h s → (o : ℕ) × Claims frame o h
  claimer_of h s (arrived c) = (_, c)
  claimer_of h s (on live side inside rest) = claimer_of h _ rest

  -- the way goes down
  pub way_deeper : (h s : ℕ) (w : LeadsToClaimer frame h s) → depth_at frame s ≤ depth_at frame ((claimer_of h s w).0)
  unfolding claimer_of
  way_deeper h s (arrived c) = omega arith
  way_deeper h s (on live side inside rest) = omega (arith, side.deeper, way_deeper h _ rest)

  -- and begins at a live segment that covers the hash
  pub way_begins : (h s : ℕ) → LeadsToClaimer frame h s → IsLiveFor frame h s
  way_begins h s (arrived c) = c.live
  way_begins h s (on live side inside rest) = live

module _ (greatest : ℕ) (most : greatest ≤ 16) (frame : Frame) (sound : IsSoundFrame greatest frame) where
  pub live_low : (s : ℕ) → s < frame.segments → IsLive frame s → depth_at frame s ≤ 16
  live_low s slot live = omega (arith, most, (sound.head s slot).depth_fits (not_free frame s live))

  pub live_pattern : (s : ℕ) → s < frame.segments → IsLive frame s → pattern_at frame s < 2 ^ depth_at frame s
  live_pattern s slot live = (sound.head s slot).pattern_fits (not_free frame s live)

  -- REGIONS NEST: that of a deeper segment that shares a hash lies in the other's
  pub nested : (s t h k : ℕ) → t < frame.segments → IsLive frame t → depth_at frame s ≤ depth_at frame t
      → CoversHash frame s h → CoversHash frame t h → CoversHash frame t k → CoversHash frame s k
  nested s t h k slot live less covers_s covers_t other =
      same_fewer (depth_at frame s) (depth_at frame t) k h less (omega (arith, live_low t slot live)) (other ∙ sym covers_t) ∙ covers_s

  pub nested_side : (s t h k : ℕ) → t < frame.segments → IsLive frame t → depth_at frame s < depth_at frame t
      → InOneSide frame s h → CoversHash frame t h → CoversHash frame t k → InOneSide frame s k
  nested_side s t h k slot live less inside covers_t other =
      same_fewer (depth_at frame s + 1) (depth_at frame t) k h (omega (arith, less)) (omega (arith, live_low t slot live)) (other ∙ sym covers_t) ∙ inside

  pub side_covered : (s h : ℕ) → s < frame.segments → IsLive frame s → InOneSide frame s h → CoversHash frame s h
  side_covered s h slot live inside =
      halved _ _ _ (one_fewer (depth_at frame s) h (omega (arith, live_low s slot live))) inside
    where
      halved : (a b p : ℕ) → a ≡ b / 2 → b ≡ 2 * p + 1 → a ≡ p
      halved a b p half odd = omega arith

  -- A LIVE SEGMENT claims the first hash that it covers
  pub first_below : (s : ℕ) → s < frame.segments → IsLive frame s → first_hash frame s < 2 ^ 64
  first_below s slot live = first_fits (depth_at frame s) (pattern_at frame s) (omega (arith, live_low s slot live)) (live_pattern s slot live)

  pub claims_first : (s : ℕ) → s < frame.segments → IsLive frame s → Claims frame s (first_hash frame s)
  claims_first s slot live = record {
    live = record { slot = slot; live = live; covers = first_covered frame s };
    kept = λ side inside. even_odd _ (sym (next_top_of_first (depth_at frame s) (pattern_at frame s) (omega (arith, live_low s slot live))) ∙ inside);
  }
    where
      even_odd : (p : ℕ) → 2 * p ≡ 2 * p + 1 → ⊥
      even_odd p e = omega arith

  -- what has the pattern of a 1-side, and zeros behind it, begins where the 1-side does
  pub side_begins : (s n : ℕ) → n < frame.segments → IsLive frame n → depth_at frame s < depth_at frame n
      → pattern_at frame n ≡ (2 * pattern_at frame s + 1) * 2 ^ (depth_at frame n - depth_at frame s - 1) → InOneSide frame s (first_hash frame n)
  side_begins s n slot live deeper zeros =
      let places : depth_at frame s + 1 + (depth_at frame n - depth_at frame s - 1) ≡ depth_at frame n = omega (arith, deeper) in
      let low = live_low n slot live in
      fewer (depth_at frame s + 1) (depth_at frame n - depth_at frame s - 1) (first_hash frame n) (omega (arith, places, low))
      ∙ ap (λ d. top d (first_hash frame n) / 2 ^ (depth_at frame n - depth_at frame s - 1)) places
      ∙ ap (λ p. p / 2 ^ (depth_at frame n - depth_at frame s - 1)) (first_covered frame n ∙ zeros)
      ∙ shl-shr (2 * pattern_at frame s + 1) (depth_at frame n - depth_at frame s - 1)

  -- WHO CLAIMS A HASH is the deepest that covers it
  pub deepest : (s t h : ℕ) → h < 2 ^ 64 → Claims frame s h → IsLiveFor frame h t → depth_at frame t ≤ depth_at frame s
  deepest s t h fits claims other = elim (cases_lt (depth_at frame s) (depth_at frame t)) [
    | inr is ↦ is
    | inl less ↦ elim (claims_or_gave frame t h other) [
      | inl too ↦ equal s t (sound.one h s t fits claims too)
      | inr gave ↦
          let n = gave.0.0 in
          let side = gave.0.1 in
          let k = first_hash frame n in
          let inside : InOneSide frame t k = side_begins t n side.slot side.live side.deeper side.zeros in
          let covered : CoversHash frame t k = side_covered t k other.slot other.live inside in
          let claims_k : Claims frame s k =
          record {
            live = record {
              slot = claims.live.slot;
              live = claims.live.live;
              covers = nested s t h k other.slot other.live (omega (arith, less)) claims.live.covers other.covers covered;
            };
            kept = λ r o. claims.kept r (nested_side s t k h other.slot other.live less o covered other.covers);
          } in
          let same = sound.one k s n (first_below n side.slot side.live) claims_k (claims_first n side.slot side.live) in
          absurd (omega (arith, less, side.deeper, equal s n same))
    ]
  ]
    where
      equal : (s t : ℕ) → s ≡ t → depth_at frame t ≤ depth_at frame s
      equal s t e = subst (λ x. depth_at frame x ≤ depth_at frame s) e (omega arith)

  pub claimer_owns : (s h : ℕ) → h < 2 ^ 64 → Claims frame s h → Owns frame s h
  claimer_owns s h fits claims = record { own = claims.live; deepest = λ t other. deepest s t h fits claims other }

  -- no two live segments have the same region
  pub apart : (s t : ℕ) → s < frame.segments → IsLive frame s → t < frame.segments → IsLive frame t
      → depth_at frame s ≡ depth_at frame t → pattern_at frame s ≡ pattern_at frame t → s ≡ t
  apart s t slot_s live_s slot_t live_t depth pattern =
      sound.one (first_hash frame s) s t (first_below s slot_s live_s) (claims_first s slot_s live_s)
      (subst (λ h. Claims frame t h) (sym (ap (λ p. p * 2 ^ (64 - depth_at frame s)) pattern ∙ ap (λ d. pattern_at frame t * 2 ^ (64 - d)) depth)) (claims_first t slot_t live_t))

  -- nor cover a hash at the same depth
  pub apart_at : (s t h : ℕ) → IsLiveFor frame h s → IsLiveFor frame h t → depth_at frame s ≡ depth_at frame t → s ≡ t
  apart_at s t h is_s is_t depth =
      apart s t is_s.slot is_s.live is_t.slot is_t.live depth (sym is_s.covers ∙ ap (λ d. top d h) depth ∙ is_t.covers)

  pub owner_claims : (s h : ℕ) → h < 2 ^ 64 → Owns frame s h → Claims frame s h
  owner_claims s h fits owns =
      let c = sound.some h fits in
      let same : depth_at frame c.0 ≡ depth_at frame s = omega (arith, owns.deepest c.0 c.1.live, deepest c.0 s h fits c.1 owns.own) in
      subst (λ t. Claims frame t h) (apart_at c.0 s h c.1.live owns.own same) c.1

  -- IN THE REGION of a normal segment no other begins
  pub normal_is_whole : (s n : ℕ) → s < frame.segments → state_at frame s ≡ normal → n < frame.segments → IsLive frame n → depth_at frame s < depth_at frame n
      → InOneSide frame s (first_hash frame n) → ⊥
  normal_is_whole s n slot_s is slot_n live_n deeper inside =
      let k = first_hash frame n in
      let claims_s : Claims frame s k =
      record {
        live = record { slot = slot_s; live = inl is; covers = side_covered s k slot_s (inl is) inside };
        kept = λ side o. clash is side.1.splits;
      } in
      let same = sound.one k s n (first_below n slot_n live_n) claims_s (claims_first n slot_n live_n) in
      level deeper (ap (depth_at frame) same)
    where
      clash : state_at frame s ≡ normal → state_at frame s ≡ splitting → ⊥
      clash a b = omega (arith, a, b)

      level : {a b : ℕ} → a < b → a ≡ b → ⊥
      level less same = omega (arith, less, same)
