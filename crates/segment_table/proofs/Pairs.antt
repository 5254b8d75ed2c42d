-- A store outside the buckets leaves the records, and with the owners the pairs.
use Rattle.std.proofs.Common.{◌≡◌, ◌≢◌, ℕ, ◌+◌, ◌*◌, ◌^◌, ◌<◌, ◌≤◌, inl, inr, None, Some, sym, ap, subst, ◌∙◌, arith}
use Rattle.trace.specs.Events.{with_word}
use Rattle.trace.proofs.Replaced.{replaced_other}
use Rattle.sound_image.specs.Places.{Shape, bucket_at, key_at, value_at}
use Rattle.sound_image.specs.Bucket.{allocated}
use Rattle.sound_image.specs.Segments.{ImageWords, frame_of, Owns}
use Rattle.sound_image.specs.Records.{key_hash, slot_key, slot_value, slot_hash, HasRecord, HasPair}
use Rattle.segment_table.specs.Claims.{Claims, HasSoundFrame}
use Rattle.segment_table.specs.Stores.{IsFrameWord, StoreKeeps, StoreHandsOver}
use Rattle.segment_table.proofs.FrameWords.{buckets_apart}
use Rattle.segment_table.specs.Pairs.{Holds, HashesFit, IsCopied, StoreKeepsPairs}
use Rattle.segment_table.proofs.frames.Deciding.{one_side}
use Rattle.segment_table.proofs.frames.SoundFrames.{claimer_owns, owner_claims}
use Rattle.segment_table.proofs.Claimers.{kept_back}

-- A RECORD IN ITS OWNER is a pair, and a pair is one
module _ (shape : Shape) (most : shape.depth ≤ 16) (word : ImageWords) (sound : HasSoundFrame shape word) where
  pub pair_of : (s k v : ℕ) → key_hash shape k < 2 ^ 64 → Claims (frame_of shape word) s (key_hash shape k) → Holds shape word s k v → HasPair shape word k v
  pair_of s k v fits claims holds = record {
    s = s;
    b = holds.b;
    r = holds.r;
    own = record {
      record_there = holds.there;
      owned = subst (Owns (frame_of shape word) s) (sym (ap (key_hash shape) holds.key_is)) (claimer_owns shape.depth most (frame_of shape word) sound s (key_hash shape k) fits claims);
    };
    key_is = holds.key_is;
    value_is = holds.value_is;
  }

  pub of_pair : (k v : ℕ) → HashesFit shape word → HasPair shape word k v
      → (s : ℕ) × (key_hash shape k < 2 ^ 64) × Claims (frame_of shape word) s (key_hash shape k) × Holds shape word s k v
  of_pair k v fit pair =
      let there = pair.own.record_there in
      let is = ap (key_hash shape) pair.key_is in
      let fits = fit pair.s pair.b pair.r there in (
        pair.s,
        subst (λ h. h < 2 ^ 64) is fits,
        subst (Claims (frame_of shape word) pair.s) is (owner_claims shape.depth most (frame_of shape word) sound pair.s (slot_hash shape word pair.s pair.b pair.r) fits pair.own.owned),
        record { b = pair.b; r = pair.r; there = there; key_is = pair.key_is; value_is = pair.value_is },
      )

module _ (shape : Shape) (most : shape.depth ≤ 16) (word : ImageWords) (i x : ℕ) (sound : HasSoundFrame shape word)
    (in_frame : IsFrameWord shape word i) where
  abbrev other : ImageWords
  other = with_word word i x

  outside : (s b n : ℕ) → b < 66 → n < 32 → bucket_at shape s b + n ≢ i
  outside s b n bucket inside is = buckets_apart shape word sound.root s b n bucket inside (subst (IsFrameWord shape word) (sym is) in_frame)

  same_word : (s b n : ℕ) → s < shape.segments → b < 66 → n < 32 → other (bucket_at shape s b + n) ≡ word (bucket_at shape s b + n)
  same_word s b n slot bucket inside = replaced_other word i x (bucket_at shape s b + n) (λ e. outside s b n bucket inside e)

  same_key : (s b r : ℕ) → s < shape.segments → b < 66 → r < 14 → slot_key shape other s b r ≡ slot_key shape word s b r
  same_key s b r slot bucket place =
      replaced_other word i x (key_at shape s b r) (λ e. outside s b (4 + 2 * r) bucket (omega (arith, place)) (omega (arith, e)))

  same_value : (s b r : ℕ) → s < shape.segments → b < 66 → r < 14 → slot_value shape other s b r ≡ slot_value shape word s b r
  same_value s b r slot bucket place =
      replaced_other word i x (value_at shape s b r) (λ e. outside s b (5 + 2 * r) bucket (omega (arith, place)) (omega (arith, e)))

  record_there : (s b r : ℕ) → HasRecord shape word s b r → HasRecord shape other s b r
  record_there s b r has = record {
    segment = has.segment;
    bucket = has.bucket;
    slot = has.slot;
    is_allocated = ap (allocated r) (same_word s b 1 has.segment has.bucket (omega arith)) ∙ has.is_allocated;
  }

  record_back : (s b r : ℕ) → HasRecord shape other s b r → HasRecord shape word s b r
  record_back s b r has = record {
    segment = has.segment;
    bucket = has.bucket;
    slot = has.slot;
    is_allocated = sym (ap (allocated r) (same_word s b 1 has.segment has.bucket (omega arith))) ∙ has.is_allocated;
  }

  holds_there : (s k v : ℕ) → Holds shape word s k v → Holds shape other s k v
  holds_there s k v holds =
      let has = holds.there in
      record {
        b = holds.b;
        r = holds.r;
        there = record_there s holds.b holds.r has;
        key_is = same_key s holds.b holds.r has.segment has.bucket has.slot ∙ holds.key_is;
        value_is = same_value s holds.b holds.r has.segment has.bucket has.slot ∙ holds.value_is;
      }

  holds_back : (s k v : ℕ) → Holds shape other s k v → Holds shape word s k v
  holds_back s k v holds =
      let has = holds.there in
      record {
        b = holds.b;
        r = holds.r;
        there = record_back s holds.b holds.r has;
        key_is = sym (same_key s holds.b holds.r has.segment has.bucket has.slot) ∙ holds.key_is;
        value_is = sym (same_value s holds.b holds.r has.segment has.bucket has.slot) ∙ holds.value_is;
      }

  hashes_fit : HashesFit shape word → HashesFit shape other
  hashes_fit fit s b r has =
      subst (λ h. h < 2 ^ 64) (sym (ap (key_hash shape) (same_key s b r has.segment has.bucket has.slot))) (fit s b r (record_back s b r has))

  at_each_key : ((k v : ℕ) → HasPair shape word k v → HasPair shape other k v) → ((k v : ℕ) → HasPair shape other k v → HasPair shape word k v)
      → StoreKeepsPairs shape word i x
  at_each_key there back k None = (λ none v pair. none v (back k v pair), λ none v pair. none v (there k v pair))
  at_each_key there back k (Some v) = (there k v, back k v)

  module _ (fit : HashesFit shape word) where
    -- BY KEPT CLAIMS
    pub kept_pairs : StoreKeeps shape word i x → StoreKeepsPairs shape word i x
    kept_pairs keeps =
        at_each_key
        (λ k v pair.
        let q = of_pair shape most word sound k v fit pair in
        pair_of shape most other keeps.goes_on.sound q.0 k v q.1 (keeps.claims q.0 (key_hash shape k) q.1 q.2) (holds_there q.0 k v q.3))
        (λ k v pair.
        let q = of_pair shape most other keeps.goes_on.sound k v (hashes_fit fit) pair in
        pair_of shape most word sound q.0 k v q.1
        (kept_back shape.depth most (frame_of shape word) (frame_of shape other) sound keeps q.0 (key_hash shape k) q.1 q.2) (holds_back q.0 k v q.3))

    -- BY A SIDE that is handed over, and is a copy
    pub handed_pairs : (s n : ℕ) → StoreHandsOver shape word s n i x → IsCopied shape word s n → StoreKeepsPairs shape word i x
    handed_pairs s n hands copied = at_each_key there back
      where
        sound_after : HasSoundFrame shape other
        sound_after = hands.goes_on.sound

        there : (k v : ℕ) → HasPair shape word k v → HasPair shape other k v
        there k v pair =
            let q = of_pair shape most word sound k v fit pair in
            elim (one_side (frame_of shape word) s (key_hash shape k)) [
              | inl inside ↦
                  let given = hands.given (key_hash shape k) q.1 inside in
                  let same = sound.one (key_hash shape k) q.0 s q.1 q.2 given.0 in
                  pair_of shape most other sound_after n k v q.1 given.1 (holds_there n k v ((copied k v inside).0 (subst (λ t. Holds shape word t k v) same q.3)))
              | inr not ↦
                  pair_of shape most other sound_after q.0 k v q.1 (hands.claims q.0 (key_hash shape k) q.1 q.2 (λ is. not)) (holds_there q.0 k v q.3)
            ]

        back : (k v : ℕ) → HasPair shape other k v → HasPair shape word k v
        back k v pair =
            let q = of_pair shape most other sound_after k v (hashes_fit fit) pair in
            elim (one_side (frame_of shape word) s (key_hash shape k)) [
              | inl inside ↦
                  let given = hands.given (key_hash shape k) q.1 inside in
                  let same = sound_after.one (key_hash shape k) q.0 n q.1 q.2 given.1 in
                  pair_of shape most word sound s k v q.1 given.0 ((copied k v inside).1 (holds_back n k v (subst (λ t. Holds shape other t k v) same q.3)))
              | inr not ↦
                  let c = sound.some (key_hash shape k) q.1 in
                  let same = sound_after.one (key_hash shape k) c.0 q.0 q.1 (hands.claims c.0 (key_hash shape k) q.1 c.1 (λ is. not)) q.2 in
                  pair_of shape most word sound q.0 k v q.1 (subst (λ t. Claims (frame_of shape word) t (key_hash shape k)) same c.1) (holds_back q.0 k v q.3)
            ]
