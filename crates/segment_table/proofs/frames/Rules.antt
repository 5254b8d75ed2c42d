-- The rules of a sound image about headers, links and the directory, word by word, and a sound frame: each gives the other.
use Rattle.std.proofs.Common.{◌≡◌, ℕ, ◌+◌, ◌^◌, ◌<◌, ◌≤◌, inl, inr, refl, sym, ap, subst, ◌∙◌, arith}
use Rattle.std.proofs.lemmas.Bool.{cases_lt, cases_eq}
use Rattle.hash_word.specs.Hash.{top, index_of}
use Rattle.sound_image.specs.Places.{Shape, IsShape, root_word, state_word, entry_at, head_at}
use Rattle.sound_image.specs.Segments.{ImageWords, Frame, frame_of, depth_at, pattern_at, IsLive, IsLiveFor, Owns, LeadsToOwner, arrived, on}
use Rattle.sound_image.specs.Directory.{SharesWell}
use Rattle.segment_table.specs.Claims.{Claims, LeadsToClaimer, named_for, IsSoundFrame, FollowsFrameRules}
use Rattle.segment_table.specs.Claims.{arrived as arrives, on as goes}
use Rattle.segment_table.proofs.frames.Regions.{first, same_fewer, top_below, top_of_first, first_fits}
use Rattle.segment_table.proofs.frames.Deciding.{claims_or_gave}
use Rattle.segment_table.proofs.frames.SoundFrames.{claimer_of, apart, claimer_owns, owner_claims}

module _ (shape : Shape) (is_shape : IsShape shape) (word : ImageWords) where
  abbrev frame : Frame
  frame = frame_of shape word

  -- FROM THE RULES
  module _ (rules : FollowsFrameRules shape word) where
    shares : (s : ℕ) → s < shape.segments → IsLive frame s → SharesWell frame s
    shares s slot live = (rules.owned (head_at shape s + 1)).head s slot refl live

    root_low : frame.root ≤ shape.depth
    root_low = (rules.numbers root_word).root refl

    owns_claims : (s h : ℕ) → h < 2 ^ 64 → Owns frame s h → Claims frame s h
    owns_claims s h fits owns = record {
      live = owns.own;
      kept = λ side inside. (shares s owns.own.slot owns.own.live).part.gave_away side h fits inside owns;
    }

    claims_owns : (s h : ℕ) → h < 2 ^ 64 → Claims frame s h → Owns frame s h
    claims_owns s h fits claims = elim ((shares s claims.live.slot claims.live.live).part.owns_or_splits_off h fits claims.live.covers) [
      | inl owns ↦ owns
      | inr gave ↦ absurd (claims.kept gave.0 gave.1)
    ]

    one_region : (s t : ℕ) → s < shape.segments → IsLive frame s → t < shape.segments → IsLive frame t
        → depth_at frame s ≡ depth_at frame t → pattern_at frame s ≡ pattern_at frame t → s ≡ t
    one_region s t slot_s live_s slot_t live_t depth pattern = elim (cases_eq s t) [
      | inl same ↦ same
      | inr other ↦ elim (cases_lt s t) [
        | inl less ↦ absurd ((shares t slot_t live_t).alone s less live_s depth pattern)
        | inr more ↦ absurd ((shares s slot_s live_s).alone t (omega (arith, more, other)) live_t (sym depth) (sym pattern))
      ]
    ]

    one_owner : (s t h : ℕ) → Owns frame s h → Owns frame t h → s ≡ t
    one_owner s t h a b =
        let depth : depth_at frame s ≡ depth_at frame t = omega (arith, a.deepest t b.own, b.deepest s a.own) in
        one_region s t a.own.slot a.own.live b.own.slot b.own.live depth (sym a.own.covers ∙ ap (λ d. top d h) depth ∙ b.own.covers)

    -- the way for the first hash of an entry is one for each hash of it
    module _ (h : ℕ) (fits : h < 2 ^ 64) where
      abbrev index : ℕ
      index = index_of frame.root h

      index_below : index < 2 ^ frame.root
      index_below = top_below frame.root h (omega (arith, root_low, is_shape.depth)) fits

      same_top : (d : ℕ) → d ≤ frame.root → top d (first frame.root index) ≡ top d h
      same_top d low = same_fewer d frame.root (first frame.root index) h low (omega (arith, root_low, is_shape.depth)) (top_of_first frame.root index)

      here : (s : ℕ) → IsLiveFor frame (first frame.root index) s → IsLiveFor frame h s
      here s is = record { slot = is.slot; live = is.live; covers = sym (same_top (depth_at frame s) (shares s is.slot is.live).not_deep) ∙ is.covers }

      there : (s : ℕ) → IsLiveFor frame h s → IsLiveFor frame (first frame.root index) s
      there s is = record { slot = is.slot; live = is.live; covers = same_top (depth_at frame s) (shares s is.slot is.live).not_deep ∙ is.covers }

      way : (s : ℕ) → LeadsToOwner frame (first frame.root index) s → LeadsToClaimer frame h s
      way s (arrived owns) = arrives (owns_claims _ h fits (record { own = here _ owns.own; deepest = λ t is. owns.deepest t (there t is) }))
      way s (on live side inside rest) =
          let low = (shares _ side.slot side.live).not_deep in
          goes (here _ live) side (sym (same_top _ (omega (arith, low, side.deeper))) ∙ inside) (way _ rest)

      leads : LeadsToClaimer frame h (named_for frame h)
      leads = way (named_for frame h) ((rules.lead (entry_at frame.root index)) index index_below refl)

    pub from_rules : IsSoundFrame shape.depth frame
    from_rules = record {
      root = root_low;
      version = (rules.numbers state_word).version_fits refl;
      head = λ s slot. (rules.numbers (head_at shape s + 1)).head s slot refl;
      link = λ s slot. (rules.numbers (head_at shape s + 2)).side s slot refl;
      past = λ s slot. rules.past (head_at shape s + 1) s slot refl;
      not_deep = λ s slot live. (shares s slot live).not_deep;
      some = λ h fits. claimer_of frame h (named_for frame h) (leads h fits);
      one = λ h s t fits a b. one_owner s t h (claims_owns s h fits a) (claims_owns t h fits b);
      leads = leads;
    }

  -- AND BACK
  module _ (sound : IsSoundFrame shape.depth frame) where
    owners_way : (h s : ℕ) → h < 2 ^ 64 → LeadsToClaimer frame h s → LeadsToOwner frame h s
    owners_way h s fits (arrives claims) = arrived (claimer_owns shape.depth is_shape.depth frame sound _ h fits claims)
    owners_way h s fits (goes live side inside rest) = on live side inside (owners_way h _ fits rest)

    shares_back : (s : ℕ) → s < shape.segments → IsLive frame s → SharesWell frame s
    shares_back s slot live = record {
      not_deep = sound.not_deep s slot live;
      alone = λ t less live_t depth pattern. below t less (apart shape.depth is_shape.depth frame sound t s (omega (arith, less, slot)) live_t slot live depth pattern);
      part = record {
        owns_or_splits_off = λ h fits covers. elim (claims_or_gave frame s h (record { slot = slot; live = live; covers = covers })) [
          | inl claims ↦ inl (claimer_owns shape.depth is_shape.depth frame sound s h fits claims)
          | inr gave ↦ inr gave
        ];
        gave_away = λ side h fits inside owns. (owner_claims shape.depth is_shape.depth frame sound s h fits owns).kept side inside;
      };
    }
      where
        below : (t : ℕ) → t < s → t ≡ s → ⊥
        below t less same = omega (arith, less, same)

    pub to_rules : FollowsFrameRules shape word
    to_rules = record {
      numbers = λ w. record {
        root = λ at. sound.root;
        version_fits = λ at. sound.version;
        head = λ s slot at. sound.head s slot;
        side = λ s slot at. sound.link s slot;
      };
      owned = λ w. record {
        entry = λ i below at h fits is. let c = sound.some h fits in (c.0, c.1.live);
        head = λ s slot at live. shares_back s slot live;
      };
      lead = λ w i below at.
          let h = first frame.root i in
          let fits = first_fits frame.root i (omega (arith, sound.root, is_shape.depth)) below in
          subst (λ n. LeadsToOwner frame h (frame.entry n)) (top_of_first frame.root i) (owners_way h (named_for frame h) fits (sound.leads h fits));
      past = λ w s slot at. sound.past s slot;
    }
