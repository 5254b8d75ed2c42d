-- Records of one key in the segment that owns it stand in four buckets, so those before one agree with it where they do
-- in these.
use Rattle.std.proofs.Common.{◌≡◌, ℕ, ◌+◌, ◌%◌, ◌<◌, ◌≤◌, refl, sym, ap, subst, ◌∙◌, arith, inl, inr, ⊎_elim}
use Rattle.std.proofs.lemmas.Bool.{cases_lt}
use Rattle.hash_word.specs.Hash.{home_of, probing_of}
use Rattle.image_layout.specs.Places.{Shape, key_at}
use Rattle.sound_image.specs.Segments.{ImageWords, frame_of, Owns}
use Rattle.sound_image.specs.Records.{key_hash, slot_key, slot_hash, HasRecord}
use Rattle.sound_image.specs.Rules.{InItsBucket}
use Rattle.image_rules.specs.declared.record_slot.RecordSlot.{RecordSlot}
use Rattle.image_rules.specs.declared.records.RecordRule.{RecordRule}
use Rattle.image_rules.specs.Slots.{IsRecordSlot, IsStandingIn, Agrees, beside, AgreeIn, AgreeBefore}

module _ (shape : Shape) (word : ImageWords) (rule : RecordRule) (record_slot : RecordSlot) (is : IsRecordSlot shape record_slot) where
  pub before-in : AgreeBefore shape word rule record_slot → (c : ℕ) → c < 66 → AgreeIn shape word rule record_slot c
  before-in all c below t fits less twin =
      all c t (record { segment = is.segment; bucket = below; slot = fits; is_allocated = twin.taken }) less twin.same_key

  module _ (i : IsStandingIn shape word record_slot.segment)
      (own : Owns (frame_of shape word) record_slot.segment (slot_hash shape word record_slot.segment record_slot.bucket record_slot.slot))
      (home : ℕ) (home_is : home ≡ home_of (slot_hash shape word record_slot.segment record_slot.bucket record_slot.slot)) (at_home : AgreeIn shape word rule record_slot home)
      (at_probing : AgreeIn shape word rule record_slot ((home + 1) % 64)) (in_stash : AgreeIn shape word rule record_slot 64)
      (in_last : AgreeIn shape word rule record_slot 65) where
    module _ (c t : ℕ) (there : HasRecord shape word record_slot.segment c t)
        (less : key_at shape record_slot.segment c t < key_at shape record_slot.segment record_slot.bucket record_slot.slot)
        (same : slot_key shape word record_slot.segment c t ≡ slot_key shape word record_slot.segment record_slot.bucket record_slot.slot) where
      same_hash : slot_hash shape word record_slot.segment c t ≡ slot_hash shape word record_slot.segment record_slot.bucket record_slot.slot
      same_hash = ap (key_hash shape) same

      same_home : home_of (slot_hash shape word record_slot.segment c t) ≡ home
      same_home = ap home_of same_hash ∙ sym home_is

      from_bucket : (d : ℕ) → AgreeIn shape word rule record_slot d → c ≡ d → Agrees shape word rule record_slot (beside shape word record_slot c t)
      from_bucket d agree at =
          subst (AgreeIn shape word rule record_slot) (sym at) agree t there.slot less
          (record { same_segment = refl; taken = there.is_allocated; same_key = same })

      from_record_slot : InItsBucket shape word record_slot.segment c t → Agrees shape word rule record_slot (beside shape word record_slot c t)
      from_record_slot (inl first) = from_bucket home at_home (first.0 ∙ same_home)
      from_record_slot (inr (inl second)) = from_bucket ((home + 1) % 64) at_probing (second.0 ∙ ap probing_of same_home)
      from_record_slot (inr (inr stash)) =
          ⊎_elim (λ (lower : c < 65). from_bucket 64 in_stash (omega arith))
          (λ (higher : 65 ≤ c). from_bucket 65 in_last (omega (arith, there.bucket)))
          (cases_lt c 65)

      agrees : Agrees shape word rule record_slot (beside shape word record_slot c t)
      agrees =
          from_record_slot
          (i.stand c t (record { record_there = there; owned = subst (Owns (frame_of shape word) record_slot.segment) (sym same_hash) own })).bucket

    pub four-before : AgreeBefore shape word rule record_slot
    four-before c t there less same = agrees c t there less same
