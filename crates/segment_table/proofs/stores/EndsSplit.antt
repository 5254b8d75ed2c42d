-- SPLITTING to NORMAL, one deeper: the segment covers its 0-side alone, when every entry of its 1-side names a deeper one.
use Rattle.std.proofs.Common.{◌≡◌, ◌≢◌, ℕ, suc, ◌+◌, ◌-◌, ◌*◌, ◌/◌, ◌^◌, ◌<◌, ◌≤◌, ◌⊎◌, inl, inr, sym, ap, subst, ◌∙◌, arith}
use Rattle.std.proofs.lemmas.Bool.{cases_eq}
use Rattle.hash_word.specs.Hash.{top}
use Rattle.segment_head.specs.HeadWord.{state_in, depth_in, pattern_in, free, normal, splitting}
use Rattle.sound_image.specs.Segments.{Frame, state_at, depth_at, pattern_at, IsLive, CoversHash, InOneSide, IsReadySide}
use Rattle.segment_table.specs.Claims.{Claims, LeadsToClaimer, arrived, on, named_for, IsSoundFrame}
use Rattle.segment_table.specs.Media.{IsSteady, first_hash}
use Rattle.segment_table.specs.Stores.{Keeps, EndsSplit}
use Rattle.segment_table.proofs.frames.Regions.{one_fewer, zero_side_begins, times_power, doubled_fits}
use Rattle.segment_table.proofs.frames.Deciding.{one_side}
use Rattle.segment_table.proofs.frames.SoundFrames.{way_begins, live_low, live_pattern}
use Rattle.segment_table.proofs.stores.Moved.{HeaderStored, HeadFits, numbers, HasNumbers, numbers_stored, live_same, side_same, live_for_same, ready_kept}
use Rattle.segment_table.proofs.stores.SameRegion.{same_entries}
use Rattle.segment_table.proofs.stores.GoesLive.{steady_same}

-- a side that begins where a region does begins where its 0-side does, and the other way round
half_more : (p a k j : ℕ) → j ≡ suc k → p ≡ a * 2 ^ k → 2 * p ≡ a * 2 ^ j
half_more p a k j next is = ap (λ n. 2 * n) is ∙ sym (times_power a k) ∙ ap (λ i. a * 2 ^ i) (sym next)

half_less : (p a k j : ℕ) → j ≡ suc k → 2 * p ≡ a * 2 ^ j → p ≡ a * 2 ^ k
half_less p a k j next is = halves _ _ (is ∙ ap (λ i. a * 2 ^ i) next ∙ times_power a k)
  where
    halves : (a b : ℕ) → 2 * a ≡ 2 * b → a ≡ b
    halves a b e = omega arith

module _ (greatest : ℕ) (most : greatest ≤ 16) (before after : Frame) (s x : ℕ) (sound : IsSoundFrame greatest before) (stored : HeaderStored before after s x)
    (may : EndsSplit before s x) where
  s_live : IsLive before s
  s_live = inr may.was

  s_low : depth_at before s < 64
  s_low = omega (arith, live_low greatest most before sound s may.slot s_live)

  s_depth : depth_at after s ≡ depth_at before s + 1
  s_depth = ap depth_in stored.here ∙ may.depth

  s_pattern : pattern_at after s ≡ 2 * pattern_at before s
  s_pattern = ap pattern_in stored.here ∙ may.pattern

  s_live_after : IsLive after s
  s_live_after = inl (ap state_in stored.here ∙ may.becomes)

  -- its ready side is deeper, so the root is
  room : depth_at before s < before.root
  room = omega (arith, may.ready.1.deeper, sound.not_deep may.ready.0 may.ready.1.slot may.ready.1.live)

  slot_back : (t : ℕ) → t < after.segments → t < before.segments
  slot_back t slot = subst (λ m. t < m) stored.segments slot

  there : (t : ℕ) → t < before.segments → IsLive before t → IsLive after t
  there t slot live = elim (cases_eq t s) [
    | inl is ↦ subst (IsLive after) (sym is) s_live_after
    | inr other ↦ live_same before after t (stored.others t slot other) live
  ]

  back : (t : ℕ) → t < before.segments → IsLive after t → IsLive before t
  back t slot live = elim (cases_eq t s) [
    | inl is ↦ subst (IsLive before) (sym is) s_live
    | inr other ↦ live_same after before t (sym (stored.others t slot other)) live
  ]

  -- READY SIDES of others are as before, s among them
  s_whole : (n : ℕ) → IsReadySide after s n → ⊥
  s_whole n side = clash (sym side.splits ∙ ap state_in stored.here ∙ may.becomes)
    where
      clash : splitting ≡ normal → ⊥
      clash e = omega (arith, e)

  ready_there : (t n : ℕ) → t < before.segments → t ≢ s → IsReadySide before t n → IsReadySide after t n
  ready_there t n slot other side =
      let same = stored.others t slot other in
      elim (cases_eq n s) [
        | inr apart ↦ ready_kept before after t n stored.segments (stored.links t slot) same (stored.others n side.slot apart) side
        | inl is ↦ subst (IsReadySide after t) (sym is) (
            let at_s = subst (IsReadySide before t) is side in
            let next : depth_at after s - depth_at after t - 1 ≡ suc (depth_at before s - depth_at before t - 1) = omega (arith, s_depth, ap depth_in same, at_s.deeper) in
            record {
              splits = ap state_in same ∙ at_s.splits;
              named = stored.links t slot ∙ at_s.named;
              slot = subst (λ m. s < m) (sym stored.segments) at_s.slot;
              live = s_live_after;
              deeper = omega (arith, s_depth, ap depth_in same, at_s.deeper);
              zeros = s_pattern ∙ half_more _ _ _ _ next at_s.zeros
                  ∙ ap (λ h1. (2 * pattern_in h1 + 1) * 2 ^ (depth_at after s - depth_at after t - 1)) (sym same);
            })
      ]

  ready_back : (t n : ℕ) → t < before.segments → t ≢ s → IsReadySide after t n → IsReadySide before t n
  ready_back t n slot other side =
      let same = stored.others t slot other in
      elim (cases_eq n s) [
        | inr apart ↦
            ready_kept after before t n (sym stored.segments) (sym (stored.links t slot)) (sym same) (sym (stored.others n (slot_back n side.slot) apart)) side
        | inl is ↦ subst (IsReadySide before t) (sym is) (
            let at_s = subst (IsReadySide after t) is side in
            let zeros : 2 * pattern_at before s ≡ (2 * pattern_at before t + 1) * 2 ^ (depth_at after s - depth_at after t - 1) =
            sym s_pattern ∙ at_s.zeros ∙ ap (λ h1. (2 * pattern_in h1 + 1) * 2 ^ (depth_at after s - depth_at after t - 1)) same in
            let less : depth_at before t < depth_at before s = shallower _ _ _ _ _ (ap depth_in same) s_depth at_s.deeper zeros in
            let next : depth_at after s - depth_at after t - 1 ≡ suc (depth_at before s - depth_at before t - 1) = omega (arith, s_depth, ap depth_in same, less) in
            record {
              splits = sym (ap state_in same) ∙ at_s.splits;
              named = sym (stored.links t slot) ∙ at_s.named;
              slot = may.slot;
              live = s_live;
              deeper = less;
              zeros = half_less _ _ _ _ next zeros;
            })
      ]
    where
      odd : (p q k : ℕ) → k ≡ 0 → 2 * p ≡ (2 * q + 1) * 2 ^ k → ⊥
      odd p q k none e = clash (e ∙ ap (λ i. (2 * q + 1) * 2 ^ i) none)
        where
          clash : 2 * p ≡ (2 * q + 1) * 1 → ⊥
          clash e = omega (arith, e)

      shallower : (p q d e : ℕ) (dt : ℕ) → dt ≡ d → e ≡ depth_at before s + 1 → dt < e → 2 * p ≡ (2 * q + 1) * 2 ^ (e - dt - 1) → d < depth_at before s
      shallower p q d e dt same is deeper zeros = elim (cases_eq d (depth_at before s)) [
        | inl level ↦ absurd (odd p q (e - dt - 1) (omega (arith, level, same, is)) zeros)
        | inr apart ↦ omega (arith, apart, same, is, deeper)
      ]

  -- THE 0-SIDE
  zero_side : (h : ℕ) → CoversHash before s h → (InOneSide before s h → ⊥) → CoversHash after s h
  zero_side h covers outside =
      ap (λ d. top d h) s_depth ∙ even _ _ _ (one_fewer (depth_at before s) h s_low) covers outside ∙ sym s_pattern
    where
      even : (a b p : ℕ) → a ≡ b / 2 → a ≡ p → b ≢ 2 * p + 1 → b ≡ 2 * p
      even a b p half is odd = omega (arith, half, is, odd)

  whole_side : (h : ℕ) → CoversHash after s h → CoversHash before s h × (InOneSide before s h → ⊥)
  whole_side h covers = halved _ _ _ (one_fewer (depth_at before s) h s_low) (sym (ap (λ d. top d h) s_depth) ∙ covers ∙ s_pattern)
    where
      halved : (a b p : ℕ) → a ≡ b / 2 → b ≡ 2 * p → (a ≡ p) × (b ≡ 2 * p + 1 → ⊥)
      halved a b p half even = (omega (arith, half, even), λ odd. omega (arith, even, odd))

  -- CLAIMS
  claims_there : (t h : ℕ) → Claims before t h → Claims after t h
  claims_there t h claims = elim (cases_eq t s) [
    | inl is ↦ subst (λ u. Claims after u h) (sym is) (
        let at_s = subst (λ u. Claims before u h) is claims in
        record {
          live = record {
            slot = subst (λ m. s < m) (sym stored.segments) may.slot;
            live = s_live_after;
            covers = zero_side h at_s.live.covers (λ inside. at_s.kept may.ready inside);
          };
          kept = λ side inside. s_whole side.0 side.1;
        })
    | inr other ↦
        let same = stored.others t claims.live.slot other in
        record {
          live = live_for_same before after t h stored.segments same claims.live;
          kept = λ side inside. claims.kept (side.0, ready_back t side.0 claims.live.slot other side.1) (side_same after before t h (sym same) inside);
        }
  ]

  claims_back : (t h : ℕ) → Claims after t h → Claims before t h
  claims_back t h claims = elim (cases_eq t s) [
    | inl is ↦ subst (λ u. Claims before u h) (sym is) (
        let at_s = whole_side h (subst (λ u. CoversHash after u h) is claims.live.covers) in
        record { live = record { slot = may.slot; live = s_live; covers = at_s.0 }; kept = λ side inside. at_s.1 inside })
    | inr other ↦
        let slot = slot_back t claims.live.slot in
        let same = stored.others t slot other in
        record {
          live = live_for_same after before t h (sym stored.segments) (sym same) claims.live;
          kept = λ side inside. claims.kept (side.0, ready_there t side.0 slot other side.1) (side_same before after t h same inside);
        }
  ]

  -- THE WAY from a deeper segment, and that of a hash outside the 1-side, does not pass s
  way_there : (h t : ℕ) → depth_at before s < depth_at before t ⊎ (InOneSide before s h → ⊥) → LeadsToClaimer before h t → LeadsToClaimer after h t
  way_there h t past (arrived claims) = arrived (claims_there t h claims)
  way_there h t (inl deeper) (on {n = n} live side inside rest) =
      let other : t ≢ s = λ e. level deeper (ap (depth_at before) e) in
      let same = stored.others t live.slot other in
      on (live_for_same before after t h stored.segments same live) (ready_there t n live.slot other side) (side_same before after t h same inside)
      (way_there h n (inl (omega (arith, deeper, side.deeper))) rest)
    where
      level : {a b : ℕ} → a < b → b ≡ a → ⊥
      level less same = omega (arith, less, same)
  way_there h t (inr outside) (on {n = n} live side inside rest) =
      let other : t ≢ s = λ e. outside (subst (λ u. InOneSide before u h) e inside) in
      let same = stored.others t live.slot other in
      on (live_for_same before after t h stored.segments same live) (ready_there t n live.slot other side) (side_same before after t h same inside)
      (way_there h n (inr outside) rest)

  -- WHAT IS LEFT
  fits_x : HeadFits greatest x
  fits_x = record {
    known = omega (arith, may.becomes);
    depth = λ is. omega (arith, may.depth, room, sound.root);
    pattern = λ is.
        let more = doubled_fits (depth_at before s) (pattern_at before s) (live_pattern greatest most before sound s may.slot s_live) in
        subst (λ p. p < 2 ^ depth_in x) (sym may.pattern) (subst (λ d. 2 * pattern_at before s < 2 ^ d) (sym may.depth) (omega (arith, more)));
  }

  has : HasNumbers greatest after
  has = numbers_stored greatest before after s x (numbers greatest before sound) stored fits_x may.past (λ is. sound.link s may.slot (λ e. clash may.was e))
    where
      clash : state_at before s ≡ splitting → state_at before s ≡ free → ⊥
      clash a b = omega (arith, a, b)

  not_deep : (t : ℕ) → t < after.segments → IsLive after t → depth_at after t ≤ after.root
  not_deep t slot live = elim (cases_eq t s) [
    | inl is ↦ subst (λ u. depth_at after u ≤ after.root) (sym is) (omega (arith, s_depth, room, stored.root))
    | inr other ↦
        let slot_b = slot_back t slot in
        let same = stored.others t slot_b other in
        omega (arith, ap depth_in same, sound.not_deep t slot_b (live_same after before t (sym same) live), stored.root)
  ]

  names : (h : ℕ) → h < 2 ^ 64 → named_for after h ≡ named_for before h
  names = same_entries greatest most before after sound stored.root stored.entries

  sound_after : IsSoundFrame greatest after
  sound_after = record {
    root = has.root;
    version = has.version;
    head = has.head;
    link = has.link;
    past = has.past;
    not_deep = not_deep;
    some = λ h fits. let c = sound.some h fits in (c.0, claims_there c.0 h c.1);
    one = λ h t u fits a b. sound.one h t u fits (claims_back t h a) (claims_back u h b);
    leads = λ h fits. subst (LeadsToClaimer after h) (sym (names h fits))
        (way_there h (named_for before h) (elim (one_side before s h) [ inl inside ↦ inl (may.deep h fits inside) | inr outside ↦ inr outside ]) (sound.leads h fits));
  }

  deeper_after : (h : ℕ) → h < 2 ^ 64 → depth_at before (named_for before h) ≤ depth_at after (named_for after h)
  deeper_after h fits =
      let is = way_begins before h (named_for before h) (sound.leads h fits) in
      elim (cases_eq (named_for before h) s) [
        | inl at ↦ omega (arith, ap (depth_at after) (names h fits), ap (depth_at after) at, ap (depth_at before) at, s_depth)
        | inr other ↦ omega (arith, ap (depth_at after) (names h fits), ap depth_in (stored.others (named_for before h) is.slot other))
      ]

  steady_after : IsSteady before after
  steady_after = record {
    slots = stored.segments;
    stays = λ t slot live. elim (cases_eq t s) [
      | inr other ↦ steady_same before after t (stored.others t slot other) live
      | inl is ↦ (
        there t slot live,
        ap (first_hash after) is
            ∙ ap (λ p. p * 2 ^ (64 - depth_at after s)) s_pattern ∙ ap (λ d. 2 * pattern_at before s * 2 ^ (64 - d)) s_depth
            ∙ zero_side_begins (depth_at before s) (pattern_at before s) s_low
            ∙ ap (first_hash before) (sym is),
        omega (arith, ap (depth_at after) is, ap (depth_at before) is, s_depth),
      )
    ];
  }

  pub ends_split_keeps : Keeps greatest before after
  ends_split_keeps = record {
    goes_on = record { sound = sound_after; deeper = deeper_after; steady = steady_after };
    claims = λ t h fits claims. claims_there t h claims;
  }
