-- A change of one slot, which one key takes before or after: what the table is then, and what each key has.
use Rattle.std.proofs.Common.{◌≡◌, ◌≢◌, ℕ, ◌<◌, Option, None, Some, refl, ap, subst, sym, ◌∙◌, inl, inr, ◌⊎◌}
use Rattle.std.proofs.lemmas.Bool.{cases_eq}
use Rattle.std.proofs.lemmas.Option.{same_Some}
use Rattle.bucket_meta.specs.Bucket.{record_slots}
use Rattle.trace.specs.Events.{Words}
use Rattle.image_layout.specs.Places.{Shape, bucket_at, buckets}
use Rattle.image_layout.specs.Standing.{StandsAt}
use Rattle.segment_table.specs.Records.{key_hash}
use Rattle.bucket_words.specs.Buckets.{IsTaken, key_in, value_in}
use Rattle.bucket_words.specs.Owners.{owner_of, SameOwners}
use Rattle.bucket_words.specs.Hits.{Hit, find}
use Rattle.bucket_words.specs.Standing.{IsTable, IsRight}
use Rattle.bucket_words.specs.TableChanges.{OnlyNewHit, ChangesSlot}
use Rattle.bucket_words.proofs.segments.Finding.{find_is, find_none, find_alike_any}

cases_owner : (o : Option ℕ) (s : ℕ) → (o ≡ Some s) ⊎ (o ≡ Some s → ⊥)
cases_owner None s = inr (λ e. absurd (cc))
cases_owner (Some t) s = elim (cases_eq t s) [ inl e ↦ inl (ap Some e) | inr n ↦ inr (λ e. n (same_Some _ _ e)) ]

module _ (shape : Shape) (word other : Words) (s b r k : ℕ) (change : ChangesSlot shape word other s b r k) where
  -- a place is that of the slot or another
  pub cases_place : (q c t : ℕ) → ((q ≡ s) × (c ≡ b) × (t ≡ r)) ⊎ (q ≡ s → c ≡ b → t ≡ r → ⊥)
  cases_place q c t = elim (cases_eq q s) [
    | inr n ↦ inr (λ e _ _. n e)
    | inl e ↦ elim (cases_eq c b) [
      | inr n ↦ inr (λ _ e _. n e)
      | inl f ↦ elim (cases_eq t r) [ inr n ↦ inr (λ _ _ e. n e) | inl g ↦ inl (e, f, g) ]
    ]
  ]

  owners : SameOwners shape word other
  owners h = change.owners h

  -- a record elsewhere stands in both
  pub go : (q c t l : ℕ) → Hit shape word q c t l → (q ≡ s → c ≡ b → t ≡ r → ⊥) → Hit shape other q c t l × (value_in other (bucket_at shape q c) t ≡ value_in word (bucket_at shape q c) t)
  go q c t l h apart = let same = change.others q c t h.segment h.bucket h.slot apart in
      (record { segment = h.segment; bucket = h.bucket; slot = h.slot; taken = same.taken ∙ h.taken; key = same.key h.taken ∙ h.key }, same.value h.taken)

  pub back : (q c t l : ℕ) → Hit shape other q c t l → (q ≡ s → c ≡ b → t ≡ r → ⊥)
      → Hit shape word q c t l × (value_in other (bucket_at shape q c) t ≡ value_in word (bucket_at shape q c) t)
  back q c t l h apart = let same = change.others q c t h.segment h.bucket h.slot apart in let taken = sym same.taken ∙ h.taken in
      (record { segment = h.segment; bucket = h.bucket; slot = h.slot; taken = taken; key = sym (same.key taken) ∙ h.key }, same.value taken)

  -- the record in the slot is the key's
  pub new_key : (q c t l : ℕ) → Hit shape other q c t l → (q ≡ s) × (c ≡ b) × (t ≡ r) → l ≡ k
  new_key q c t l h e = sym h.key ∙ same_place e h.taken
    where
      same_place : (q ≡ s) × (c ≡ b) × (t ≡ r) → IsTaken other (bucket_at shape q c) t → key_in other (bucket_at shape q c) t ≡ k
      same_place e = subst (λ (z : ℕ). IsTaken other (bucket_at shape z c) t → key_in other (bucket_at shape z c) t ≡ k) (sym e.0)
          (subst (λ (z : ℕ). IsTaken other (bucket_at shape s z) t → key_in other (bucket_at shape s z) t ≡ k) (sym e.1)
          (subst (λ (z : ℕ). IsTaken other (bucket_at shape s b) z → key_in other (bucket_at shape s b) z ≡ k) (sym e.2)
          (λ taken. (change.placed taken).0)))

  pub old_key : (q c t l : ℕ) → Hit shape word q c t l → (q ≡ s) × (c ≡ b) × (t ≡ r) → l ≡ k
  old_key q c t l h e = sym h.key ∙ same_place e h.taken
    where
      same_place : (q ≡ s) × (c ≡ b) × (t ≡ r) → IsTaken word (bucket_at shape q c) t → key_in word (bucket_at shape q c) t ≡ k
      same_place e = subst (λ (z : ℕ). IsTaken word (bucket_at shape z c) t → key_in word (bucket_at shape z c) t ≡ k) (sym e.0)
          (subst (λ (z : ℕ). IsTaken word (bucket_at shape s z) t → key_in word (bucket_at shape s z) t ≡ k) (sym e.1)
          (subst (λ (z : ℕ). IsTaken word (bucket_at shape s b) z → key_in word (bucket_at shape s b) z ≡ k) (sym e.2)
          change.was))

  pub only_new : OnlyNewHit shape word other s b r k
  only_new q c t l h = elim (cases_place q c t) [
    | inl e ↦ inr (e.0, e.1, e.2, new_key q c t l h e)
    | inr apart ↦ inl (back q c t l h apart).0
  ]

  -- what is said of the record in the slot is said of it at its place
  at_slot : (P : ℕ → ℕ → ℕ → ℕ → Type 0) (q c t l : ℕ) → (q ≡ s) × (c ≡ b) × (t ≡ r) → l ≡ k → P s b r k → P q c t l
  at_slot P q c t l e f p = subst (λ (z : ℕ). P z c t l) (sym e.0) (subst (λ (z : ℕ). P s z t l) (sym e.1) (subst (λ (z : ℕ). P s b z l) (sym e.2) (subst (λ (z : ℕ). P s b r z) (sym f) p)))

  -- IN A TABLE
  module _ (table : IsTable shape word) where
    right : (q c t l : ℕ) → Hit shape other q c t l → owner_of shape other (key_hash shape l) ≡ Some q → IsRight shape other q c t l
    right q c t l h own = elim (cases_place q c t) [
      | inl e ↦ at_slot (λ q c t l. Hit shape other q c t l → IsRight shape other q c t l) q c t l e (new_key q c t l h e) (λ x. (change.placed x.taken).1) h
      | inr apart ↦
          let same = change.others q c t h.segment h.bucket h.slot apart in
          let was = (back q c t l h apart).0 in
          let o = table.stands q c t l was (sym (owners (key_hash shape l)) ∙ own) in
          record {
            bucket = subst (λ (z : ℕ). StandsAt shape c l z) (sym (same.membership was.taken)) o.bucket;
            fingerprint = same.fingerprint was.taken ∙ o.fingerprint;
          }
    ]

    -- another record of the key has the value of the slot
    new_value : (q c t d u l : ℕ) → owner_of shape other (key_hash shape l) ≡ Some q → Hit shape other q c t l → (q ≡ s) × (c ≡ b) × (t ≡ r) → Hit shape other q d u l → (q ≡ s → d ≡ b → u ≡ r → ⊥)
        → value_in other (bucket_at shape q c) t ≡ value_in other (bucket_at shape q d) u
    new_value q c t d u l own h e g apart =
        let old = back q d u l g apart in
        let key = new_key q c t l h e in
        at_slot (λ q c t l. owner_of shape word (key_hash shape l) ≡ Some q → Hit shape other q c t l → Hit shape word q d u l → (d ≡ b → u ≡ r → ⊥) → value_in other (bucket_at shape q d) u ≡ value_in word (bucket_at shape q d) u
        → value_in other (bucket_at shape q c) t ≡ value_in other (bucket_at shape q d) u) q c t l e key
        (λ o x w n v. sym (v ∙ change.agree o x.taken d u w n)) (sym (owners (key_hash shape l)) ∙ own) h old.0 (λ f g. apart e.0 f g) old.1

    one_value : (q c t d u l : ℕ) → Hit shape other q c t l → Hit shape other q d u l → owner_of shape other (key_hash shape l) ≡ Some q
        → value_in other (bucket_at shape q c) t ≡ value_in other (bucket_at shape q d) u
    one_value q c t d u l h g own = elim (cases_place q c t) [
      | inl e ↦ elim (cases_place q d u) [
        | inl f ↦ ap (λ z. value_in other (bucket_at shape q z) t) (e.1 ∙ sym f.1) ∙ ap (value_in other (bucket_at shape q d)) (e.2 ∙ sym f.2)
        | inr apart ↦ new_value q c t d u l own h e g apart
      ]
      | inr apart ↦ elim (cases_place q d u) [
        | inl f ↦ sym (new_value q d u c t l own g f h apart)
        | inr apart' ↦
            let x = back q c t l h apart in
            let y = back q d u l g apart' in
            x.1 ∙ table.one_value q c t d u l x.0 y.0 (sym (owners (key_hash shape l)) ∙ own) ∙ sym y.1
      ]
    ]

    pub changed_table : IsTable shape other
    changed_table = record {
      stands = right;
      one_value = one_value;
    }

    -- WHAT OTHER KEYS HAVE
    pub elsewhere : (l : ℕ) → l ≢ k → find shape other l ≡ find shape word l
    elsewhere l apart = find_alike_any shape word other table changed_table l (owners (key_hash shape l))
        (λ q c t own h. let g = go q c t l h (λ e f g. apart (old_key q c t l h (e, f, g))) in (c, t, g.0, g.1))
        (λ q c t own h. (c, t, (back q c t l h (λ e f g. apart (new_key q c t l h (e, f, g)))).0))

    -- WHAT THE KEY HAS, where the slot has its record
    pub now_taken : IsTaken other (bucket_at shape s b) r → (bucket : b < buckets) → (slot : r < record_slots) → owner_of shape word (key_hash shape k) ≡ Some s
        → find shape other k ≡ Some (value_in other (bucket_at shape s b) r)
    now_taken taken bucket slot own = find_is shape other changed_table s b r k
        (record { segment = change.segment; bucket = bucket; slot = slot; taken = taken; key = (change.placed taken).0 }) (owners (key_hash shape k) ∙ own)

    -- and where no slot has
    pub now_free : (IsTaken other (bucket_at shape s b) r → ⊥) → ((c t : ℕ) → Hit shape word s c t k → (c ≡ b → t ≡ r → ⊥) → ⊥) → owner_of shape word (key_hash shape k) ≡ Some s
        → find shape other k ≡ None
    now_free free none own = find_none shape other s k change.segment (owners (key_hash shape k) ∙ own)
        (λ c t h. elim (cases_place s c t) [
          | inl e ↦ free (at_taken c t e h.taken)
          | inr apart ↦ none c t (back s c t k h apart).0 (λ f g. apart refl f g)
        ])
      where
        at_taken : (c t : ℕ) → (s ≡ s) × (c ≡ b) × (t ≡ r) → IsTaken other (bucket_at shape s c) t → IsTaken other (bucket_at shape s b) r
        at_taken c t e h = subst (λ (z : ℕ). IsTaken other (bucket_at shape s b) z) e.2 (subst (λ (z : ℕ). IsTaken other (bucket_at shape s z) t) e.1 h)

    -- where another segment owns the key
    pub still_elsewhere : (owner_of shape word (key_hash shape k) ≡ Some s → ⊥) → find shape other k ≡ find shape word k
    still_elsewhere not_own = find_alike_any shape word other table changed_table k (owners (key_hash shape k))
        (λ q d u own x. let g = go q d u k x (λ e _ _. not_own (own ∙ ap Some e)) in (d, u, g.0, g.1))
        (λ q d u own x. (d, u, (back q d u k x (λ e _ _. not_own (own ∙ ap Some e))).0))

    pub still_foreign : (owner_of shape word (key_hash shape k) ≡ Some s → ⊥) → (l : ℕ) → find shape other l ≡ find shape word l
    still_foreign not_own l = elim (cases_eq l k) [
      | inr n ↦ elsewhere l n
      | inl e ↦ subst (λ (z : ℕ). find shape other z ≡ find shape word z) (sym e) (still_elsewhere not_own)
    ]

    -- the same as before, where another slot has a record of it before and after
    pub still : (c t : ℕ) → Hit shape word s c t k → (c ≡ b → t ≡ r → ⊥) → (l : ℕ) → find shape other l ≡ find shape word l
    still c t h apart l = elim (cases_eq l k) [
      | inr n ↦ elsewhere l n
      | inl e ↦ subst (λ (z : ℕ). find shape other z ≡ find shape word z) (sym e) (same (cases_owner (owner_of shape word (key_hash shape k)) s))
    ]
      where
        same : ((owner_of shape word (key_hash shape k) ≡ Some s) ⊎ (owner_of shape word (key_hash shape k) ≡ Some s → ⊥)) → find shape other k ≡ find shape word k
        same (inl own) = let g = go s c t k h (λ _ f g. apart f g) in
            find_is shape other changed_table s c t k g.0 (owners (key_hash shape k) ∙ own) ∙ ap Some g.1 ∙ sym (find_is shape word table s c t k h own)
        same (inr not_own) = still_elsewhere not_own
