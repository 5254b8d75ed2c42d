-- Records leave whose keys stand in another slot too, or that their segment does not own: a table stays one, and each key has what it had.
use Rattle.std.proofs.Common.{◌≡◌, ◌⊎◌, ℕ, ◌+◌, ◌*◌, ◌<◌, Some, inl, inr, refl, sym, ap, subst, ◌∙◌, arith}
use Rattle.std.proofs.lemmas.Bool.{cases_eq}
use Rattle.bucket_meta.specs.Bucket.{allocated, member, record_slots}
use Rattle.trace.specs.Events.{Words, with_word}
use Rattle.image_layout.specs.Places.{Shape, bucket_at, block, buckets}
use Rattle.image_layout.specs.Standing.{StandsAt}
use Rattle.segment_table.specs.Records.{key_hash}
use Rattle.bucket_words.specs.Buckets.{key_in, value_in}
use Rattle.bucket_words.specs.Slots.{SameSlot}
use Rattle.bucket_words.specs.Owners.{SameOwners, owner_of}
use Rattle.bucket_words.specs.Hits.{Hit}
use Rattle.bucket_words.specs.Standing.{IsTable}
use Rattle.bucket_words.specs.TableChanges.{KeepsTable, IsVacated, KeepsOrVacates}
use Rattle.bucket_words.proofs.segments.Places.{other_word, this_word, owners_kept}
use Rattle.bucket_words.proofs.segments.Finding.{find_alike_any}
use Rattle.bucket_words.proofs.segments.changes.OneRecord.{not_both, finger_of_words}

module _ (shape : Shape) (word other : Words) (table : IsTable shape word) (owners : SameOwners shape word other)
    (each : (q c t : ℕ) → q < shape.segments → c < buckets → t < record_slots → SameSlot word other (bucket_at shape q c) t ⊎ IsVacated shape word other q c t) where
  -- the slot of a record that stands there after is the same
  same_after : (q c t l : ℕ) → Hit shape other q c t l → SameSlot word other (bucket_at shape q c) t
  same_after q c t l h = elim (each q c t h.segment h.bucket h.slot) [ inl o ↦ o | inr f ↦ absurd (f.free h.taken) ]

  stood : (q c t l : ℕ) → Hit shape other q c t l → Hit shape word q c t l
  stood q c t l h = let o = same_after q c t l h in let taken = sym o.taken ∙ h.taken in
      record { segment = h.segment; bucket = h.bucket; slot = h.slot; taken = taken; key = sym (o.key taken) ∙ h.key }

  same_value : (q c t l : ℕ) → Hit shape other q c t l → value_in other (bucket_at shape q c) t ≡ value_in word (bucket_at shape q c) t
  same_value q c t l h = (same_after q c t l h).value (stood q c t l h).taken

  vacated_table : IsTable shape other
  vacated_table = record {
    stands = λ q c t l h own.
        let w = stood q c t l h in
        let o = same_after q c t l h in
        let p = table.stands q c t l w (sym (owners (key_hash shape l)) ∙ own) in
        record {
          bucket = subst (λ (z : ℕ). StandsAt shape c l z) (sym (o.membership w.taken)) p.bucket;
          fingerprint = o.fingerprint w.taken ∙ p.fingerprint;
        };
    one_value = λ q c t d u l h g own.
        same_value q c t l h ∙ table.one_value q c t d u l (stood q c t l h) (stood q d u l g) (sym (owners (key_hash shape l)) ∙ own) ∙ sym (same_value q d u l g);
  }

  -- a record that its segment owns stays, or another of its key does, which has its value
  stays : (q c t l : ℕ) → owner_of shape word (key_hash shape l) ≡ Some q → Hit shape word q c t l
      → (d : ℕ) × (u : ℕ) × Hit shape other q d u l × (value_in other (bucket_at shape q d) u ≡ value_in word (bucket_at shape q c) t)
  stays q c t l own h = elim (each q c t h.segment h.bucket h.slot) [
    | inl o ↦ (
      c,
      t,
      record { segment = h.segment; bucket = h.bucket; slot = h.slot; taken = o.taken ∙ h.taken; key = o.key h.taken ∙ h.key },
      o.value h.taken,
    )
    | inr f ↦
        let other_slot = f.stays h.taken (subst (λ (z : ℕ). owner_of shape word (key_hash shape z) ≡ Some q) (sym h.key) own) in
        let there = subst (λ (z : ℕ). Hit shape other q other_slot.0 other_slot.1 z) h.key other_slot.2 in (
          other_slot.0,
          other_slot.1,
          there,
          same_value q other_slot.0 other_slot.1 l there ∙ table.one_value q other_slot.0 other_slot.1 c t l (stood q other_slot.0 other_slot.1 l there) h own,
        )
  ]

  pub vacated_keeps : KeepsTable shape word other
  vacated_keeps = record {
    table = vacated_table;
    pairs = λ l. find_alike_any shape word other table vacated_table l (owners (key_hash shape l)) (λ q c t own h. stays q c t l own h) (λ q c t own h. (c, t, stood q c t l h));
  }

-- A METADATA WORD IS STORED that frees such slots alone
module _ (shape : Shape) (word : Words) (table : IsTable shape word) (s b x : ℕ) (segment : s < shape.segments) (bucket : b < buckets)
    (each : (r : ℕ) → r < record_slots → KeepsOrVacates shape word s b x r) where
  abbrev at : ℕ
  at = bucket_at shape s b

  abbrev told : Words
  told = with_word word (at + 1) x

  kept : (q c n j : ℕ) → c < buckets → n < block → j ≡ bucket_at shape q c + n → (q ≡ s → c ≡ b → n ≡ 1 → ⊥) → told j ≡ word j
  kept = other_word shape word s b 1 x (at + 1) bucket (omega arith) refl

  meta : told (at + 1) ≡ x
  meta = this_word shape word s b 1 x (at + 1) bucket (omega arith) refl (at + 1) refl

  -- a slot of another bucket
  there : (q c t : ℕ) → c < buckets → t < record_slots → (q ≡ s → c ≡ b → ⊥) → SameSlot word told (bucket_at shape q c) t
  there q c t near l apart =
      let same = kept q c 1 (bucket_at shape q c + 1) near (omega arith) refl (λ e f _. apart e f) in
      record {
        taken = ap (allocated t) same;
        membership = λ _. ap (member t) same;
        key = λ _. kept q c (4 + 2 * t) (bucket_at shape q c + 4 + 2 * t) near (omega (arith, l)) (omega arith) (λ e f _. apart e f);
        value = λ _. kept q c (5 + 2 * t) (bucket_at shape q c + 5 + 2 * t) near (omega (arith, l)) (omega arith) (λ e f _. apart e f);
        fingerprint = λ _. finger_of_words t _ _ _ _ (kept q c 2 (bucket_at shape q c + 2) near (omega arith) refl (λ e f _. apart e f)) (kept q c 3 (bucket_at shape q c + 3) near (omega arith) refl (λ e f _. apart e f));
      }

  -- a record of a slot that x leaves stands there after
  still : (c t k : ℕ) → Hit shape word s c t k → (c ≡ b → allocated t x ≡ 1) → Hit shape told s c t k
  still c t k h leaves = record {
    segment = h.segment;
    bucket = h.bucket;
    slot = h.slot;
    taken = elim (cases_eq c b) [
      | inl e ↦ ap (λ (z : ℕ). allocated t (told (bucket_at shape s z + 1))) e ∙ ap (allocated t) meta ∙ leaves e
      | inr n ↦ ap (allocated t) (kept s c 1 (bucket_at shape s c + 1) h.bucket (omega arith) refl (λ _ f _. n f)) ∙ h.taken
    ];
    key = kept s c (4 + 2 * t) (bucket_at shape s c + 4 + 2 * t) h.bucket (let small = h.slot in omega (arith, small)) (omega arith) (λ _ _ e. omega (arith, e)) ∙ h.key;
  }

  -- and one of this bucket, by its bits
  here : (t : ℕ) → t < record_slots → SameSlot word told at t ⊎ IsVacated shape word told s b t
  here t l = elim (each t l) [
    | inl same ↦ inl (record {
      taken = ap (allocated t) meta ∙ same.0;
      membership = λ _. ap (member t) meta ∙ same.1;
      key = λ _. kept s b (4 + 2 * t) (at + 4 + 2 * t) bucket (omega (arith, l)) (omega arith) (λ _ _ e. omega (arith, e));
      value = λ _. kept s b (5 + 2 * t) (at + 5 + 2 * t) bucket (omega (arith, l)) (omega arith) (λ _ _ e. omega (arith, e));
      fingerprint = λ _. finger_of_words t _ _ _ _ (kept s b 2 (at + 2) bucket (omega arith) refl (λ _ _ e. omega (arith, e))) (kept s b 3 (at + 3) bucket (omega arith) refl (λ _ _ e. omega (arith, e)));
    })
    | inr left ↦ inr (record {
      free = λ taken. not_both _ taken (ap (allocated t) meta ∙ left.0);
      stays = λ taken own.
          let o = left.1 taken own in
          (o.0, o.1, still o.0 o.1 (key_in word at t) o.2 o.3);
    })
  ]

  all_slots : (q c t : ℕ) → q < shape.segments → c < buckets → t < record_slots → SameSlot word told (bucket_at shape q c) t ⊎ IsVacated shape word told q c t
  all_slots q c t seg near l = elim (cases_eq q s) [
    | inr n ↦ inl (there q c t near l (λ e _. n e))
    | inl e ↦ elim (cases_eq c b) [
      | inr n ↦ inl (there q c t near l (λ _ f. n f))
      | inl f ↦ subst (λ (z : ℕ). SameSlot word told (bucket_at shape z c) t ⊎ IsVacated shape word told z c t) (sym e)
          (subst (λ (z : ℕ). SameSlot word told (bucket_at shape s z) t ⊎ IsVacated shape word told s z t) (sym f) (here t l))
    ]
  ]

  pub cleared_keeps : KeepsTable shape word told
  cleared_keeps = vacated_keeps shape word told table (owners_kept shape word s b 1 x (at + 1) bucket (omega arith) refl) all_slots
