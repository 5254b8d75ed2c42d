-- NEW to NORMAL: the side of a splitting segment becomes live, and takes the hashes of the 1-side, and no others.
use Rattle.std.proofs.Common.{◌≡◌, ◌≢◌, ℕ, ◌+◌, ◌-◌, ◌*◌, ◌^◌, ◌<◌, ◌≤◌, ◌⊎◌, inl, inr, sym, ap, subst, ◌∙◌, arith}
use Rattle.std.proofs.lemmas.Bool.{cases_eq}
use Rattle.hash_word.specs.Hash.{top}
use Rattle.segment_head.specs.HeadWord.{state_in, depth_in, pattern_in, free, normal, splitting, fresh}
use Rattle.sound_image.specs.Segments.{Frame, state_at, depth_at, pattern_at, IsLive, CoversHash, InOneSide, IsReadySide}
use Rattle.segment_table.specs.Claims.{Claims, LeadsToClaimer, arrived, on, named_for, IsSoundFrame}
use Rattle.segment_table.specs.Stores.{HandsOver, GoesLive}
use Rattle.segment_table.proofs.frames.Regions.{odd_power, doubled_fits}
use Rattle.segment_table.proofs.frames.Deciding.{Decided, both, one_side}
use Rattle.segment_table.proofs.frames.SoundFrames.{way_begins, live_pattern, side_covered, apart}
use Rattle.segment_table.proofs.stores.Moved.{HeaderStored, HeadFits, numbers, HasNumbers, numbers_stored, live_same, side_same, live_for_same, ready_kept}
use Rattle.segment_table.proofs.stores.SameRegion.{same_entries}

-- a header that is the same is as deep, and begins at the same hash
pub steady_same : (before after : Frame) (s : ℕ) → after.header s ≡ before.header s → IsLive before s
    → IsLive after s × (pattern_at after s * 2 ^ (64 - depth_at after s) ≡ pattern_at before s * 2 ^ (64 - depth_at before s)) × (depth_at before s ≤ depth_at after s)
steady_same before after s same live =
    (live_same before after s same live, ap (λ h1. pattern_in h1 * 2 ^ (64 - depth_in h1)) same, omega (arith, ap depth_in same))

module _ (greatest : ℕ) (most : greatest ≤ 16) (before after : Frame) (s n x : ℕ) (sound : IsSoundFrame greatest before) (stored : HeaderStored before after n x)
    (may : GoesLive before s n x) where
  dead : IsLive before n → ⊥
  dead (inl is) = omega (arith, is, may.was)
  dead (inr is) = omega (arith, is, may.was)

  lives_apart : (t : ℕ) → IsLive before t → t ≢ n
  lives_apart t live e = dead (subst (IsLive before) e live)

  s_live : IsLive before s
  s_live = inr may.splits

  same_s : after.header s ≡ before.header s
  same_s = stored.others s may.slot (lives_apart s s_live)

  n_live : IsLive after n
  n_live = inl (ap state_in stored.here ∙ may.becomes)

  n_depth : depth_at after n ≡ depth_at before s + 1
  n_depth = ap depth_in stored.here ∙ may.depth

  n_pattern : pattern_at after n ≡ 2 * pattern_at before s + 1
  n_pattern = ap pattern_in stored.here ∙ may.pattern

  slot_back : (t : ℕ) → t < after.segments → t < before.segments
  slot_back t slot = subst (λ m. t < m) stored.segments slot

  -- READY SIDES: n is that of s, and all others are as before
  n_whole : (m : ℕ) → IsReadySide after n m → ⊥
  n_whole m side = clash (sym side.splits ∙ ap state_in stored.here ∙ may.becomes)
    where
      clash : splitting ≡ normal → ⊥
      clash e = omega (arith, e)

  ready_there : (t m : ℕ) → t < before.segments → IsReadySide before t m → IsReadySide after t m
  ready_there t m slot side =
      ready_kept before after t m stored.segments (stored.links t slot) (stored.others t slot (lives_apart t (inr side.splits)))
      (stored.others m side.slot (lives_apart m side.live)) side

  parent : (t : ℕ) → t < before.segments → t ≢ n → IsReadySide after t n → t ≡ s
  parent t slot other side =
      let same = stored.others t slot other in
      let depth_t : depth_at after t ≡ depth_at before t = ap depth_in same in
      let pattern_t : pattern_at after t ≡ pattern_at before t = ap pattern_in same in
      let zeros : 2 * pattern_at before s + 1 ≡ (2 * pattern_at after t + 1) * 2 ^ (depth_at after n - depth_at after t - 1) = sym n_pattern ∙ side.zeros in
      let none = odd_power (2 * pattern_at after t + 1) (pattern_at before s) (depth_at after n - depth_at after t - 1) zeros in
      let is : 2 * pattern_at before s + 1 ≡ (2 * pattern_at after t + 1) * 1 = zeros ∙ ap (λ k. (2 * pattern_at after t + 1) * 2 ^ k) none in
      apart greatest most before sound t s slot (inr (sym (ap state_in same) ∙ side.splits)) may.slot s_live
      (omega (arith, none, side.deeper, n_depth, depth_t)) (omega (arith, is, pattern_t))

  ready_back : (t m : ℕ) → t < before.segments → IsReadySide after t m → IsReadySide before t m ⊎ ((t ≡ s) × (m ≡ n))
  ready_back t m slot side =
      let other : t ≢ n = λ e. n_whole m (subst (λ u. IsReadySide after u m) e side) in
      elim (cases_eq m n) [
        | inl same ↦ inr (parent t slot other (subst (λ k. IsReadySide after t k) same side), same)
        | inr apart_m ↦
            let slot_m = slot_back m side.slot in
            inl (ready_kept after before t m (sym stored.segments) (sym (stored.links t slot)) (sym (stored.others t slot other)) (sym (stored.others m slot_m apart_m)) side)
      ]

  s_whole : (m : ℕ) → IsReadySide before s m → ⊥
  s_whole m side =
      let same : m ≡ n = omega (arith, side.named, may.linked) in
      dead (subst (IsLive before) same side.live)

  s_ready : IsReadySide after s n
  s_ready =
      let depth_s : depth_at after s ≡ depth_at before s = ap depth_in same_s in
      let none : depth_at after n - depth_at after s - 1 ≡ 0 = omega (arith, n_depth, depth_s) in
      let one : (2 * pattern_at after s + 1) * 1 ≡ 2 * pattern_at after s + 1 = omega arith in
      record {
        splits = ap state_in same_s ∙ may.splits;
        named = stored.links s may.slot ∙ may.linked;
        slot = subst (λ m. n < m) (sym stored.segments) may.side_slot;
        live = n_live;
        deeper = omega (arith, n_depth, depth_s);
        zeros = n_pattern ∙ ap (λ h1. 2 * pattern_in h1 + 1) (sym same_s) ∙ sym one ∙ ap (λ k. (2 * pattern_at after s + 1) * 2 ^ k) (sym none);
      }

  -- CLAIMS
  s_claims : (h : ℕ) → InOneSide before s h → Claims before s h
  s_claims h inside = record {
    live = record { slot = may.slot; live = s_live; covers = side_covered greatest most before sound s h may.slot s_live inside };
    kept = λ side o. s_whole side.0 side.1;
  }

  n_claims : (h : ℕ) → InOneSide before s h → Claims after n h
  n_claims h inside = record {
    live = record {
      slot = subst (λ m. n < m) (sym stored.segments) may.side_slot;
      live = n_live;
      covers = ap (λ d. top d h) n_depth ∙ inside ∙ sym n_pattern;
    };
    kept = λ side o. n_whole side.0 side.1;
  }

  claims_there : (t h : ℕ) → Claims before t h → (t ≡ s → InOneSide before s h → ⊥) → Claims after t h
  claims_there t h claims keeps =
      let same = stored.others t claims.live.slot (lives_apart t claims.live.live) in
      record {
        live = live_for_same before after t h stored.segments same claims.live;
        kept = λ side inside.
            let inside_b = side_same after before t h (sym same) inside in
            elim (ready_back t side.0 claims.live.slot side.1) [
              | inl was ↦ claims.kept (side.0, was) inside_b
              | inr is ↦ keeps is.0 (subst (λ u. InOneSide before u h) is.0 inside_b)
            ];
      }

  claims_back : (t h : ℕ) → Claims after t h → (Claims before t h × (t ≡ s → InOneSide before s h → ⊥)) ⊎ ((t ≡ n) × InOneSide before s h)
  claims_back t h claims = elim (cases_eq t n) [
    | inl is ↦
        inr (is, ap (λ d. top d h) (sym n_depth) ∙ subst (λ u. CoversHash after u h) is claims.live.covers ∙ n_pattern)
    | inr other ↦
        let slot = slot_back t claims.live.slot in
        let same = stored.others t slot other in
        inl (
          record {
            live = live_for_same after before t h (sym stored.segments) (sym same) claims.live;
            kept = λ side inside. claims.kept (side.0, ready_there t side.0 slot side.1) (side_same before after t h same inside);
          },
          λ is inside.
              claims.kept (n, subst (λ u. IsReadySide after u n) (sym is) s_ready)
              (subst (λ u. InOneSide after u h) (sym is) (side_same before after s h same_s inside)),
        )
  ]

  moved_or_not : (t h : ℕ) → Decided ((t ≡ s) × InOneSide before s h)
  moved_or_not t h = both (cases_eq t s) (one_side before s h)

  one_claimer : (h t u : ℕ) → h < 2 ^ 64 → Claims after t h → Claims after u h → t ≡ u
  one_claimer h t u fits a b = elim (claims_back t h a) [
    | inl ta ↦ elim (claims_back u h b) [
      | inl ub ↦ sound.one h t u fits ta.0 ub.0
      | inr ub ↦ absurd (ta.1 (sound.one h t s fits ta.0 (s_claims h ub.1)) ub.1)
    ]
    | inr ta ↦ elim (claims_back u h b) [
      | inl ub ↦ absurd (ub.1 (sound.one h u s fits ub.0 (s_claims h ta.1)) ta.1)
      | inr ub ↦ ta.0 ∙ sym ub.0
    ]
  ]

  way_there : (h t : ℕ) → LeadsToClaimer before h t → LeadsToClaimer after h t
  way_there h t (arrived claims) = elim (moved_or_not t h) [
    | inl moved ↦
        let at_s = subst (λ u. Claims before u h) moved.0 claims in
        subst (LeadsToClaimer after h) (sym moved.0)
        (on (live_for_same before after s h stored.segments same_s at_s.live) s_ready (side_same before after s h same_s moved.1) (arrived (n_claims h moved.1)))
    | inr stays ↦ arrived (claims_there t h claims (λ is inside. stays (is, inside)))
  ]
  way_there h t (on live side inside rest) =
      let same = stored.others _ live.slot (lives_apart _ live.live) in
      on (live_for_same before after _ h stored.segments same live) (ready_there _ _ live.slot side) (side_same before after _ h same inside) (way_there h _ rest)

  -- WHAT IS LEFT
  fits_x : HeadFits greatest x
  fits_x = record {
    known = omega (arith, may.becomes);
    depth = λ is. omega (arith, may.depth, may.shallow, sound.root);
    pattern = λ is.
        subst (λ p. p < 2 ^ depth_in x) (sym may.pattern) (subst (λ d. 2 * pattern_at before s + 1 < 2 ^ d) (sym may.depth)
        (doubled_fits (depth_at before s) (pattern_at before s) (live_pattern greatest most before sound s may.slot s_live)));
  }

  has : HasNumbers greatest after
  has = numbers_stored greatest before after n x (numbers greatest before sound) stored fits_x may.past (λ is. sound.link n may.side_slot (λ e. clash may.was e))
    where
      clash : state_at before n ≡ fresh → state_at before n ≡ free → ⊥
      clash a b = omega (arith, a, b)

  not_deep : (t : ℕ) → t < after.segments → IsLive after t → depth_at after t ≤ after.root
  not_deep t slot live = elim (cases_eq t n) [
    | inl is ↦ subst (λ u. depth_at after u ≤ after.root) (sym is) (omega (arith, n_depth, may.shallow, stored.root))
    | inr other ↦
        let slot_b = slot_back t slot in
        let same = stored.others t slot_b other in
        omega (arith, ap depth_in same, sound.not_deep t slot_b (live_same after before t (sym same) live), stored.root)
  ]

  names : (h : ℕ) → h < 2 ^ 64 → named_for after h ≡ named_for before h
  names = same_entries greatest most before after sound stored.root stored.entries

  sound_after : IsSoundFrame greatest after
  sound_after = record {
    root = has.root;
    version = has.version;
    head = has.head;
    link = has.link;
    past = has.past;
    not_deep = not_deep;
    some = λ h fits. let c = sound.some h fits in elim (moved_or_not c.0 h) [
      | inl moved ↦ (n, n_claims h moved.1)
      | inr stays ↦ (c.0, claims_there c.0 h c.1 (λ is inside. stays (is, inside)))
    ];
    one = one_claimer;
    leads = λ h fits. subst (LeadsToClaimer after h) (sym (names h fits)) (way_there h (named_for before h) (sound.leads h fits));
  }

  deeper_after : (h : ℕ) → h < 2 ^ 64 → depth_at before (named_for before h) ≤ depth_at after (named_for after h)
  deeper_after h fits =
      let is = way_begins before h (named_for before h) (sound.leads h fits) in
      omega (arith, ap (depth_at after) (names h fits), ap depth_in (stored.others (named_for before h) is.slot (lives_apart (named_for before h) is.live)))

  pub hands_over : HandsOver greatest before after s n
  hands_over = record {
    goes_on = record {
      sound = sound_after;
      deeper = deeper_after;
      steady = record { slots = stored.segments; stays = λ t slot live. steady_same before after t (stored.others t slot (lives_apart t live)) live };
    };
    given = λ h fits inside. (s_claims h inside, n_claims h inside);
    claims = λ t h fits claims keeps. claims_there t h claims keeps;
  }
