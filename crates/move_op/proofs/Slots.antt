-- The lowest slot whose record has a membership bit; and the slot that `displace` gives is that one.
use Rattle.std.proofs.Common.{◌≡◌, ◌⊎◌, ◌==◌, ℕ, ◌<◌, inl, inr, true, false, Option, Some, None, ◌↔◌, refl, sym, ap, ◌∙◌, subst, arith}
use Rattle.std.specs.Option.{IfSome, IsNone}
use Rattle.std.proofs.lemmas.Bool.{cases_lt, eq-eqb, eqb-true, and_parts, and_from, true≢false}
use Rattle.word_bits.specs.Bits.{bit}
use Rattle.bucket_meta.specs.declared.metadata.Meta.{Meta}
use Rattle.bucket_meta.specs.Bucket.{allocated, member}
use Rattle.bucket_meta.specs.MetaWords.{IsMetaOf}
use Rattle.bucket_meta.specs.Search.{is_taken, lowest_free}
use Rattle.bucket_meta.specs.Slots.{IsFull}
use Rattle.bucket_meta.proofs.fields.FieldBits.{allocated_is, member_is}
use Rattle.bucket_meta.proofs.Found.{Finds, finds, free_at, none_free}
use Rattle.displace.specs.Members.{OnlyMembersBelow, NoMembersBelow}
use Rattle.move_op.specs.declared.step.Direction.TheVariants.{Forward, Backward}
use Rattle.move_op.specs.Shifts.{has_bit, lowest_of, moving_slot}

-- slot s is taken by a record with this membership bit
pub record HasBit (bit w1 s : ℕ) : Type 0 where
  pub taken : allocated s w1 ≡ 1
  pub same : member s w1 ≡ bit

-- the test of a slot, and the lowest one that passes it
module _ (bit w1 : ℕ) where
  there : (s : ℕ) → has_bit bit w1 s ≡ true → HasBit bit w1 s
  there s e =
      let parts = and_parts (is_taken w1 s) (member s w1 == bit) e in record { taken = eqb-true (allocated s w1) 1 parts.0; same = eqb-true (member s w1) bit parts.1 }

  not_there : (s : ℕ) → has_bit bit w1 s ≡ false → HasBit bit w1 s → ⊥
  not_there s e h = true≢false (sym (and_from (is_taken w1 s) (member s w1 == bit) (eq-eqb (allocated s w1) 1 h.taken) (eq-eqb (member s w1) bit h.same)) ∙ e)

  found : (o : Option ℕ) → lowest_of bit w1 ≡ o → Finds (has_bit bit w1) 0 14 o
  found o is = subst (Finds (has_bit bit w1) 0 14) is (finds (has_bit bit w1) 14)

  pub found_slot : (s : ℕ) → lowest_of bit w1 ≡ Some s → HasBit bit w1 s × (s < 14)
  found_slot s is = let f = found (Some s) is in (there s f.0, f.1)

  pub found_lowest : (s : ℕ) → lowest_of bit w1 ≡ Some s → (t : ℕ) → t < s → HasBit bit w1 t → ⊥
  found_lowest s is t below = let f = found (Some s) is in not_there t (f.2 t (omega arith) below)

  pub no_slot : lowest_of bit w1 ≡ None → (s : ℕ) → s < 14 → HasBit bit w1 s → ⊥
  no_slot is s low = not_there s (found None is s (omega arith) low)

  lowest_is : (s : ℕ) → s < 14 → HasBit bit w1 s → ((t : ℕ) → t < s → HasBit bit w1 t → ⊥) → lowest_of bit w1 ≡ Some s
  lowest_is s low h first = by (lowest_of bit w1) refl
    where
      by : (o : Option ℕ) → lowest_of bit w1 ≡ o → o ≡ Some s
      by (Some t) is = elim (cases_lt t s) [
        | inl before ↦ absurd (first t before (found_slot t is).0)
        | inr not_before ↦ elim (cases_lt s t) [
          | inl behind ↦ absurd (found_lowest t is s behind h)
          | inr not_behind ↦ ap (λ z. Some z) (omega (arith, not_before, not_behind))
        ]
      ]
      by None is = absurd (no_slot is s low h)

  lowest_none : ((s : ℕ) → s < 14 → HasBit bit w1 s → ⊥) → lowest_of bit w1 ≡ None
  lowest_none none = by (lowest_of bit w1) refl
    where
      by : (o : Option ℕ) → lowest_of bit w1 ≡ o → o ≡ None
      by (Some t) is = let f = found_slot t is in absurd (none t f.1 f.0)
      by None is = refl

-- no slot is free where all bits are set
full_none : (w1 : ℕ) → ((s : ℕ) → s < 14 → allocated s w1 ≡ 1) → lowest_free w1 ≡ None
full_none w1 full = by (lowest_free w1) refl
  where
    by : (o : Option ℕ) → lowest_free w1 ≡ o → o ≡ None
    by (Some t) e = let f = free_at w1 t e in absurd (let is = full t f.1 in let off = f.0 in omega (arith, is, off))
    by None e = refl

-- ---- what is found of the fields is what the words have
module _ (m : Meta) (w1 w2 w3 : ℕ) (is : IsMetaOf m w1 w2 w3) where
  bit_taken : (s : ℕ) → s < 14 → bit s m.alloc ≡ 1 → allocated s w1 ≡ 1
  bit_taken s low e = allocated_is m w1 w2 w3 s is low ∙ e

  taken_bit : (s : ℕ) → s < 14 → allocated s w1 ≡ 1 → bit s m.alloc ≡ 1
  taken_bit s low e = sym (allocated_is m w1 w2 w3 s is low) ∙ e

  bit_member : (s n : ℕ) → s < 14 → bit s m.member ≡ n → member s w1 ≡ n
  bit_member s n low e = member_is m w1 w2 w3 s is low ∙ e

  member_bit : (s n : ℕ) → s < 14 → member s w1 ≡ n → bit s m.member ≡ n
  member_bit s n low e = sym (member_is m w1 w2 w3 s is low) ∙ e

  fills : IsFull m.alloc → lowest_free w1 ≡ None
  fills full = full_none w1 (λ s low. bit_taken s low (full s low))

  is_filled : lowest_free w1 ≡ None → IsFull m.alloc
  is_filled none s low = taken_bit s low (none_free w1 none s low)

  only_members : (n s : ℕ) → s < n → s < 14 → OnlyMembersBelow n m → HasBit 0 w1 s → ⊥
  only_members n s below low only h = let one = only s below (taken_bit s low h.taken) in let off = member_bit s 0 low h.same in omega (arith, one, off)

  no_members : (n s : ℕ) → s < n → s < 14 → NoMembersBelow n m → HasBit 1 w1 s → ⊥
  no_members n s below low none h = let off = none s below (taken_bit s low h.taken) in let one = member_bit s 1 low h.same in omega (arith, one, off)

some_slot : {A : Type 0} (x : A) → IsNone (Some x) → ⊥
some_slot x e = let f : true ≡ false = e in cc

-- ---- the answers of `displace`
module _ (m to : Meta) (w1 w2 w3 v1 v2 v3 : ℕ) (is : IsMetaOf m w1 w2 w3) (target : IsMetaOf to v1 v2 v3) where
  pub forward_is : (r : Option ℕ) → IfSome r (λ s. s < 14) → IfSome r (λ s. bit s m.alloc ≡ 1) → IfSome r (λ s. bit s m.member ≡ 0) → IfSome r (λ s. OnlyMembersBelow s m)
      → (IsNone r ↔ (IsFull to.alloc ⊎ OnlyMembersBelow 14 m)) → r ≡ moving_slot Forward w1 (lowest_free v1)
  forward_is r within taken own lowest none = by r (lowest_free v1) refl within taken own lowest none
    where
      none_at : OnlyMembersBelow 14 m → (o : Option ℕ) → None ≡ moving_slot Forward w1 o
      none_at only None = refl
      none_at only (Some t) = sym (lowest_none 0 w1 (λ s low. only_members m w1 w2 w3 is 14 s low low only))

      by : (r o : Option ℕ) → lowest_free v1 ≡ o → IfSome r (λ s. s < 14) → IfSome r (λ s. bit s m.alloc ≡ 1) → IfSome r (λ s. bit s m.member ≡ 0) → IfSome r (λ s. OnlyMembersBelow s m)
          → (IsNone r ↔ (IsFull to.alloc ⊎ OnlyMembersBelow 14 m)) → r ≡ moving_slot Forward w1 o
      by (Some s) (Some t) e within taken own lowest none =
          sym (lowest_is 0 w1 s within (record { taken = bit_taken m w1 w2 w3 is s within taken; same = bit_member m w1 w2 w3 is s 0 within own })
          (λ t below. only_members m w1 w2 w3 is s t below (omega (arith, below, within)) lowest))
      by (Some s) None e within taken own lowest none = absurd (some_slot s (none.1 (inl (is_filled to v1 v2 v3 target e))))
      by None o e within taken own lowest none = elim (none.0 refl) [
        | inl full ↦ subst (λ o. None ≡ moving_slot Forward w1 o) (sym (fills to v1 v2 v3 target full) ∙ e) refl
        | inr only ↦ none_at only o
      ]

  pub backward_is : (r : Option ℕ) → IfSome r (λ s. s < 14) → IfSome r (λ s. bit s m.alloc ≡ 1) → IfSome r (λ s. bit s m.member ≡ 1) → IfSome r (λ s. NoMembersBelow s m)
      → (IsNone r ↔ (IsFull to.alloc ⊎ NoMembersBelow 14 m)) → r ≡ moving_slot Backward w1 (lowest_free v1)
  backward_is r within taken own lowest none = by r (lowest_free v1) refl within taken own lowest none
    where
      none_at : NoMembersBelow 14 m → (o : Option ℕ) → None ≡ moving_slot Backward w1 o
      none_at only None = refl
      none_at only (Some t) = sym (lowest_none 1 w1 (λ s low. no_members m w1 w2 w3 is 14 s low low only))

      by : (r o : Option ℕ) → lowest_free v1 ≡ o → IfSome r (λ s. s < 14) → IfSome r (λ s. bit s m.alloc ≡ 1) → IfSome r (λ s. bit s m.member ≡ 1) → IfSome r (λ s. NoMembersBelow s m)
          → (IsNone r ↔ (IsFull to.alloc ⊎ NoMembersBelow 14 m)) → r ≡ moving_slot Backward w1 o
      by (Some s) (Some t) e within taken own lowest none =
          sym (lowest_is 1 w1 s within (record { taken = bit_taken m w1 w2 w3 is s within taken; same = bit_member m w1 w2 w3 is s 1 within own })
          (λ t below. no_members m w1 w2 w3 is s t below (omega (arith, below, within)) lowest))
      by (Some s) None e within taken own lowest none = absurd (some_slot s (none.1 (inl (is_filled to v1 v2 v3 target e))))
      by None o e within taken own lowest none = elim (none.0 refl) [
        | inl full ↦ subst (λ o. None ≡ moving_slot Backward w1 o) (sym (fills to v1 v2 v3 target full) ∙ e) refl
        | inr only ↦ none_at only o
      ]
