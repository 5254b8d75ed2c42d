-- A table is what follows the two rules about records, and its pairs are what `find` gives.
use Rattle.std.proofs.Common.{◌≡◌, ℕ, ◌^◌, ◌<◌, ◌≤◌, Option, None, Some, refl, ap, subst, sym, ◌∙◌, arith, inl, inr, ◌⊎◌}
use Rattle.std.proofs.lemmas.Bool.{cases_lt}
use Rattle.std.proofs.lemmas.Option.{none-some}
use Rattle.bucket_meta.specs.Bucket.{record_slots}
use Rattle.trace.specs.Events.{Words}
use Rattle.image_layout.specs.Places.{Shape, IsShape, bucket_at, key_at}
use Rattle.segment_table.specs.Segments.{frame_of, Owns}
use Rattle.segment_table.specs.Records.{key_hash, slot_key, slot_hash, HasRecord, HasOwnRecord, HasPair, HasAt}
use Rattle.segment_table.specs.Rules.{StandsRight, RecordsStandRight, KeysHaveOneValue}
use Rattle.segment_table.proofs.Hashes.{key_hash-fits}
use Rattle.segment_table.specs.Claims.{HasSoundFrame}
use Rattle.segment_table.proofs.frames.SoundFrames.{owner_claims}
use Rattle.segment_table.proofs.frames.Owner.{found_owns, claimer_found}
use Rattle.bucket_words.specs.Buckets.{value_in}
use Rattle.bucket_words.specs.Owners.{owner_of}
use Rattle.bucket_words.specs.Hits.{Hit, find}
use Rattle.bucket_words.specs.Standing.{IsTable, IsRight}
use Rattle.bucket_words.proofs.segments.Finding.{find_is, find_empty, hit_found}

-- of two places in a segment one is before the other, or they are one
pub cases_order : (shape : Shape) (s b r c t : ℕ) → r < record_slots → t < record_slots
    → (key_at shape s b r < key_at shape s c t) ⊎ (key_at shape s c t < key_at shape s b r) ⊎ ((b ≡ c) × (r ≡ t))
cases_order shape s b r c t l m = elim (cases_lt (key_at shape s b r) (key_at shape s c t)) [
  | inl less ↦ inl less
  | inr more ↦ elim (cases_lt (key_at shape s c t) (key_at shape s b r)) [
    | inl less ↦ inr (inl less)
    | inr same ↦ inr (inr (omega (arith, more, same, l, m), omega (arith, more, same, l, m)))
  ]
]

module _ (shape : Shape) (word : Words) where
  -- a hit is a record, and a record a hit
  pub record_of : (s b r k : ℕ) → Hit shape word s b r k → HasRecord shape word s b r
  record_of s b r k h = record { segment = h.segment; bucket = h.bucket; slot = h.slot; is_allocated = h.taken }

  pub hit_of : (s b r : ℕ) → HasRecord shape word s b r → Hit shape word s b r (slot_key shape word s b r)
  hit_of s b r h = record { segment = h.segment; bucket = h.bucket; slot = h.slot; taken = h.is_allocated; key = refl }

  own_of : (s b r k : ℕ) → Hit shape word s b r k → owner_of shape word (key_hash shape k) ≡ Some s → HasOwnRecord shape word s b r
  own_of s b r k h own = record {
    record_there = record_of s b r k h;
    owned = subst (λ (z : ℕ). Owns (frame_of shape word) s (key_hash shape z)) (sym h.key) (found_owns (frame_of shape word) (key_hash shape k) s own);
  }

  right_of : (s b r k : ℕ) → slot_key shape word s b r ≡ k → StandsRight shape word s b r → IsRight shape word s b r k
  right_of s b r k e right = subst (λ (z : ℕ). IsRight shape word s b r z) e (record { bucket = right.bucket; fingerprint = right.fingerprint })

  -- FROM THE RULES
  pub from_rules : ((w : ℕ) → RecordsStandRight shape word w × KeysHaveOneValue shape word w) → IsTable shape word
  from_rules rules = record {
    stands = λ s b r k h own. right_of s b r k h.key ((rules (key_at shape s b r)).0 s b r (own_of s b r k h own) refl);
    one_value = λ s b r c t k h g own. elim (cases_order shape s b r c t h.slot g.slot) [
      | inl less ↦ (rules (key_at shape s c t)).1 s c t (own_of s c t k g own) refl b r (record_of s b r k h) less (h.key ∙ sym g.key)
      | inr e ↦ elim e [
        | inl less ↦ sym ((rules (key_at shape s b r)).1 s b r (own_of s b r k h own) refl c t (record_of s c t k g) less (g.key ∙ sym h.key))
        | inr same ↦ ap (λ z. value_in word (bucket_at shape s z) r) same.0 ∙ ap (value_in word (bucket_at shape s c)) same.1
      ]
    ];
  }

-- IN A SOUND FRAME who owns a hash is found
module _ (shape : Shape) (is : IsShape shape) (word : Words) (sound : HasSoundFrame shape word) (fit : (i : ℕ) → word i < 2 ^ 64) where
  owner_is : (s h : ℕ) → h < 2 ^ 64 → Owns (frame_of shape word) s h → owner_of shape word h ≡ Some s
  owner_is s h fits owns =
      let most : shape.depth ≤ 16 = is.depth in
      claimer_found shape.depth (frame_of shape word) most sound s h fits (owner_claims shape.depth most (frame_of shape word) sound s h fits owns)

  record_owner : (s b r : ℕ) → HasOwnRecord shape word s b r → owner_of shape word (slot_hash shape word s b r) ≡ Some s
  record_owner s b r own = owner_is s (slot_hash shape word s b r) (key_hash-fits shape (slot_key shape word s b r) (fit (key_at shape s b r))) own.owned

  module _ (table : IsTable shape word) where
    right : (w : ℕ) → RecordsStandRight shape word w
    right w s b r own at =
        let o = table.stands s b r (slot_key shape word s b r) (hit_of shape word s b r own.record_there) (record_owner s b r own) in
        record { bucket = o.bucket; fingerprint = o.fingerprint }

    one_value : (w : ℕ) → KeysHaveOneValue shape word w
    one_value w s b r own at c t there before same =
        let h = hit_of shape word s c t there in
        table.one_value s c t b r (slot_key shape word s b r) (record { segment = h.segment; bucket = h.bucket; slot = h.slot; taken = h.taken; key = same })
        (hit_of shape word s b r own.record_there) (record_owner s b r own)

    pub follows_rules : (w : ℕ) → RecordsStandRight shape word w × KeysHaveOneValue shape word w
    follows_rules w = (right w, one_value w)

    -- THE PAIRS
    module _ (k : ℕ) (fits : k < 2 ^ 64) where
      pair_of : (s b r v : ℕ) → Hit shape word s b r k → owner_of shape word (key_hash shape k) ≡ Some s → value_in word (bucket_at shape s b) r ≡ v
          → HasPair shape word k v
      pair_of s b r v h own value = record { s = s; b = b; r = r; own = own_of shape word s b r k h own; key_is = h.key; value_is = value }

      find_pair : (v : ℕ) → HasPair shape word k v → find shape word k ≡ Some v
      find_pair v pair =
          let h = hit_of shape word pair.s pair.b pair.r pair.own.record_there in
          find_is shape word table pair.s pair.b pair.r k (record { segment = h.segment; bucket = h.bucket; slot = h.slot; taken = h.taken; key = pair.key_is })
          (sym (ap (λ z. owner_of shape word (key_hash shape z)) pair.key_is) ∙ record_owner pair.s pair.b pair.r pair.own) ∙ ap Some pair.value_is

      pub at_of_find : (a : Option ℕ) → find shape word k ≡ a → HasAt shape word k a
      at_of_find None nothing = λ v pair. none-some _ (sym (sym (find_pair v pair) ∙ nothing))
      at_of_find (Some v) found = for_owner (owner_of shape word (key_hash shape k)) refl
        where
          for_owner : (o : Option ℕ) → owner_of shape word (key_hash shape k) ≡ o → HasPair shape word k v
          for_owner None own = absurd (none-some _ (sym (sym found ∙ find_empty shape word k own)))
          for_owner (Some s) own = let h = hit_found shape word s k v own found in pair_of s h.0 h.1 v h.2 own h.3

      pub find_of_at : (a : Option ℕ) → HasAt shape word k a → find shape word k ≡ a
      find_of_at (Some v) pair = find_pair v pair
      find_of_at None none = for_found (find shape word k) refl
        where
          for_found : (a : Option ℕ) → find shape word k ≡ a → find shape word k ≡ None
          for_found None e = e
          for_found (Some v) e = absurd (none v (at_of_find (Some v) e))
