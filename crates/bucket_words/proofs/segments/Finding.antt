-- What `find` gives: the value of a slot that is taken by the key, and nothing if none is.
use Rattle.std.proofs.Common.{◌≡◌, ℕ, zero, suc, ◌<◌, ◌≤◌, Option, None, Some, refl, ap, subst, sym, ◌∙◌, arith, inl, inr, ◌⊎◌}
use Rattle.std.specs.Option.{option_or}
use Rattle.std.proofs.lemmas.Bool.{cases_eq}
use Rattle.std.proofs.lemmas.Option.{none-some, same_Some}
use Rattle.trace.specs.Events.{Words}
use Rattle.bucket_meta.specs.Bucket.{record_slots}
use Rattle.image_layout.specs.Places.{Shape, bucket_at, buckets}
use Rattle.segment_table.specs.Records.{key_hash}
use Rattle.bucket_words.specs.Buckets.{value_in, find_below}
use Rattle.bucket_words.proofs.Finding.{Hits, cases_hits, find_here, find_before, find_zero, find_by_slots}
use Rattle.bucket_words.specs.Slots.{SameSlots}
use Rattle.bucket_words.specs.Owners.{owner_of}
use Rattle.bucket_words.specs.Hits.{Hit, HasNone, find_from, find_by, find}
use Rattle.bucket_words.specs.Standing.{IsTable}
use Rattle.bucket_words.proofs.segments.Places.{owner_within}

-- in one bucket
module _ (word : Words) (at k : ℕ) where
  pub found_below : (n : ℕ) → ((r : ℕ) × (r < n) × Hits word at k r × (find_below word at k n ≡ Some (value_in word at r)))
      ⊎ (((t : ℕ) → t < n → Hits word at k t → ⊥) × (find_below word at k n ≡ None))
  found_below zero = inr ((λ t below. absurd (omega arith)), find_zero word at k)
  found_below (suc n) = elim (cases_hits word at k n) [
    | inl hit ↦ inl (n, omega arith, hit, find_here word at k n hit)
    | inr never ↦ elim (found_below n) [
      | inl found ↦ inl (found.0, omega (arith, found.1), found.2, find_before word at k n never ∙ found.3)
      | inr none ↦ inr (
        (λ t below. elim (cases_eq t n) [
          | inl e ↦ subst (λ t. Hits word at k t → ⊥) (sym e) never
          | inr apart ↦ none.0 t (omega (arith, apart))
        ]),
        find_before word at k n never ∙ none.1,
      )
    ]
  ]

module _ (shape : Shape) (word : Words) where
  from_zero : (s k : ℕ) → find_from shape word s k zero ≡ None
  unfolding find_from
  from_zero s k = refl

  from_suc : (s k b : ℕ) → find_from shape word s k (suc b) ≡ option_or (find_below word (bucket_at shape s b) k record_slots) (find_from shape word s k b)
  unfolding find_from
  from_suc s k b = refl

  hit_of : (s b r k : ℕ) → s < shape.segments → b < buckets → r < record_slots → Hits word (bucket_at shape s b) k r → Hit shape word s b r k
  hit_of s b r k segment bucket slot h = record { segment = segment; bucket = bucket; slot = slot; taken = h.taken; key = h.key }

  -- in the buckets below n
  pub found_from : (s k n : ℕ) → s < shape.segments → n ≤ buckets
      → ((b : ℕ) × (r : ℕ) × Hit shape word s b r k × (find_from shape word s k n ≡ Some (value_in word (bucket_at shape s b) r)))
      ⊎ (((b r : ℕ) → b < n → Hit shape word s b r k → ⊥) × (find_from shape word s k n ≡ None))
  found_from s k zero segment le = inr ((λ b r below. absurd (omega arith)), from_zero s k)
  found_from s k (suc n) segment le = elim (found_below word (bucket_at shape s n) k record_slots) [
    | inl found ↦ inl (
      n,
      found.0,
      hit_of s n found.0 k segment (omega (arith, le)) found.1 found.2,
      from_suc s k n ∙ ap (λ a. option_or a (find_from shape word s k n)) found.3,
    )
    | inr none ↦ elim (found_from s k n segment (omega (arith, le))) [
      | inl found ↦ inl (found.0, found.1, found.2, from_suc s k n ∙ ap (λ a. option_or a (find_from shape word s k n)) none.1 ∙ found.3)
      | inr never ↦ inr (
        (λ b r below hit. elim (cases_eq b n) [
          | inl e ↦ none.0 r hit.slot (subst (λ (b : ℕ). Hits word (bucket_at shape s b) k r) e (record { taken = hit.taken; key = hit.key }))
          | inr apart ↦ never.0 b r (omega (arith, below, apart)) hit
        ]),
        from_suc s k n ∙ ap (λ a. option_or a (find_from shape word s k n)) none.1 ∙ never.1,
      )
    ]
  ]

  find_some : (k s : ℕ) → owner_of shape word (key_hash shape k) ≡ Some s → find shape word k ≡ find_from shape word s k buckets
  find_some k s own = ap (λ o. find_by shape word o k) own

  pub find_empty : (k : ℕ) → owner_of shape word (key_hash shape k) ≡ None → find shape word k ≡ None
  find_empty k own = ap (λ o. find_by shape word o k) own

  -- a key that stands in its owner has the value there
  pub find_is : IsTable shape word → (s b r k : ℕ) → Hit shape word s b r k → owner_of shape word (key_hash shape k) ≡ Some s
      → find shape word k ≡ Some (value_in word (bucket_at shape s b) r)
  find_is table s b r k hit own = find_some k s own ∙ elim (found_from s k buckets hit.segment (omega arith)) [
    | inl f ↦ f.3 ∙ ap Some (table.one_value s f.0 f.1 b r k f.2 hit own)
    | inr n ↦ absurd (n.0 b r hit.bucket hit)
  ]

  pub find_none : (s k : ℕ) → s < shape.segments → owner_of shape word (key_hash shape k) ≡ Some s → HasNone shape word s k → find shape word k ≡ None
  find_none s k within own none = find_some k s own ∙ elim (found_from s k buckets within (omega arith)) [
    | inl f ↦ absurd (none f.0 f.1 f.2)
    | inr n ↦ n.1
  ]

  -- and what it has stands there
  pub hit_found : (s k v : ℕ) → owner_of shape word (key_hash shape k) ≡ Some s → find shape word k ≡ Some v
      → (b : ℕ) × (r : ℕ) × Hit shape word s b r k × (value_in word (bucket_at shape s b) r ≡ v)
  hit_found s k v own found = elim (found_from s k buckets (owner_within shape word (key_hash shape k) s own) (omega arith)) [
    | inl f ↦ (f.0, f.1, f.2, same_Some _ _ (sym f.3 ∙ sym (find_some k s own) ∙ found))
    | inr n ↦ absurd (none-some _ (sym (sym found ∙ find_some k s own ∙ n.1)))
  ]

  pub none_found : (s k : ℕ) → owner_of shape word (key_hash shape k) ≡ Some s → find shape word k ≡ None → HasNone shape word s k
  none_found s k own nothing b r hit = elim (found_from s k buckets (owner_within shape word (key_hash shape k) s own) (omega arith)) [
    | inl f ↦ none-some _ (sym (sym f.3 ∙ sym (find_some k s own) ∙ nothing))
    | inr n ↦ n.0 b r hit.bucket hit
  ]

-- what two tables have at a key is the same where each record of it has one of the same value in the other
module _ (shape : Shape) (word other : Words) (was : IsTable shape word) (is : IsTable shape other) (k : ℕ) where
  pub find_alike : (s : ℕ) → s < shape.segments → owner_of shape word (key_hash shape k) ≡ Some s → owner_of shape other (key_hash shape k) ≡ Some s
      → ((b r : ℕ) → Hit shape word s b r k → (c : ℕ) × (t : ℕ) × Hit shape other s c t k × (value_in other (bucket_at shape s c) t ≡ value_in word (bucket_at shape s b) r))
      → ((b r : ℕ) → Hit shape other s b r k → (c : ℕ) × (t : ℕ) × Hit shape word s c t k) → find shape other k ≡ find shape word k
  find_alike s within own own' go back = elim (found_from shape word s k buckets within (omega arith)) [
    | inl f ↦ (let g = go f.0 f.1 f.2 in find_is shape other is s g.0 g.1 k g.2 own' ∙ ap Some g.3 ∙ sym (find_some shape word k s own ∙ f.3))
    | inr n ↦ find_none shape other s k within own' (λ b r hit. let g = back b r hit in n.0 g.0 g.1 g.2.bucket g.2) ∙ sym (find_some shape word k s own ∙ n.1)
  ]

  -- whoever owns it, or nobody
  pub find_alike_any : owner_of shape other (key_hash shape k) ≡ owner_of shape word (key_hash shape k)
      → ((s b r : ℕ) → owner_of shape word (key_hash shape k) ≡ Some s → Hit shape word s b r k
      → (c : ℕ) × (t : ℕ) × Hit shape other s c t k × (value_in other (bucket_at shape s c) t ≡ value_in word (bucket_at shape s b) r))
      → ((s b r : ℕ) → owner_of shape word (key_hash shape k) ≡ Some s → Hit shape other s b r k → (c : ℕ) × (t : ℕ) × Hit shape word s c t k) → find shape other k ≡ find shape word k
  find_alike_any same go back = for_owner (owner_of shape word (key_hash shape k)) refl
    where
      for_owner : (o : Option ℕ) → owner_of shape word (key_hash shape k) ≡ o → find shape other k ≡ find shape word k
      for_owner None own = find_empty shape other k (same ∙ own) ∙ sym (find_empty shape word k own)
      for_owner (Some s) own = find_alike s (owner_within shape word (key_hash shape k) s own) own (same ∙ own) (λ b r h. go s b r own h) (λ b r h. back s b r own h)

-- what a key has in buckets of the same slots is the same
module _ (shape : Shape) (word other : Words) (s k : ℕ) where
  zero_again : find_from shape other s k zero ≡ find_from shape word s k zero
  unfolding find_from
  zero_again = refl

  suc_again : (b : ℕ) → find_below other (bucket_at shape s b) k record_slots ≡ find_below word (bucket_at shape s b) k record_slots → find_from shape other s k b ≡ find_from shape word s k b
      → find_from shape other s k (suc b) ≡ find_from shape word s k (suc b)
  unfolding find_from
  suc_again b here rest = ap (λ a. option_or a (find_from shape other s k b)) here ∙ ap (option_or (find_below word (bucket_at shape s b) k record_slots)) rest

  pub from_same : (n : ℕ) → ((b : ℕ) → b < n → SameSlots word other (bucket_at shape s b)) → find_from shape other s k n ≡ find_from shape word s k n
  from_same zero same = zero_again
  from_same (suc n) same = suc_again n (find_by_slots word other (bucket_at shape s n) k (same n (omega arith))) (from_same n (λ b below. same b (omega (arith, below))))
