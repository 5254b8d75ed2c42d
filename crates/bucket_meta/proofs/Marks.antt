-- The metadata words of an insert and of a remove differ from the one before in two bits of their slot alone.
use Rattle.std.proofs.Common.{◌≡◌, ℕ, ◌+◌, ◌*◌, ◌<◌, ◌≤◌, ◌∙◌, arith, bit_and, bit_or}
use Rattle.std.specs.Int.{bit_not, w64}
use Rattle.bucket_meta.specs.Bucket.{overflow_count}
use Rattle.word_bits.specs.Bits.{bit, mask}
use Rattle.word_bits.proofs.OneBit.{set_same, set_other, clear_same, clear_other}
use Rattle.bucket_meta.specs.Marks.{inserted_mark, removed_mark, TakesSlot, TakesSlotAsMember, FreesSlot, SameNotes}

module _ (w s : ℕ) (within : s < 14) where
  low : s < 64
  low = omega (arith, within)

  high : 14 + s < 64
  high = omega (arith, within)

  pub takes_slot : TakesSlot w s
  takes_slot = record {
    taken = clear_other (bit_or w (mask s)) (14 + s) s high low (λ e. omega (arith, e)) ∙ set_same w s low;
    at_home = clear_same (bit_or w (mask s)) (14 + s) high;
    others = record {
      taken = λ t slot apart. clear_other (bit_or w (mask s)) (14 + s) t high (omega (arith, slot)) (λ e. omega (arith, e, slot)) ∙ set_other w s t low apart;
      members = λ t slot apart. clear_other (bit_or w (mask s)) (14 + s) (14 + t) high (omega (arith, slot)) (λ e. apart (omega (arith, e)))
          ∙ set_other w s (14 + t) low (λ e. omega (arith, e, within));
    };
  }

  pub takes_slot_as_member : TakesSlotAsMember w s
  takes_slot_as_member = record {
    taken = set_other (bit_or w (mask s)) (14 + s) s high (λ e. omega (arith, e)) ∙ set_same w s low;
    is_member = set_same (bit_or w (mask s)) (14 + s) high;
    others = record {
      taken = λ t slot apart. set_other (bit_or w (mask s)) (14 + s) t high (λ e. omega (arith, e, slot)) ∙ set_other w s t low apart;
      members = λ t slot apart. set_other (bit_or w (mask s)) (14 + s) (14 + t) high (λ e. apart (omega (arith, e))) ∙ set_other w s (14 + t) low (λ e. omega (arith, e, within));
    };
  }

  pub frees_slot : FreesSlot w s
  frees_slot = record {
    is_free = clear_other (bit_and w (bit_not w64 (mask s))) (14 + s) s high low (λ e. omega (arith, e)) ∙ clear_same w s low;
    no_member = clear_same (bit_and w (bit_not w64 (mask s))) (14 + s) high;
    others = record {
      taken = λ t slot apart. clear_other (bit_and w (bit_not w64 (mask s))) (14 + s) t high (omega (arith, slot)) (λ e. omega (arith, e, slot))
          ∙ clear_other w s t low (omega (arith, slot)) apart;
      members = λ t slot apart. clear_other (bit_and w (bit_not w64 (mask s))) (14 + s) (14 + t) high (omega (arith, slot)) (λ e. apart (omega (arith, e)))
          ∙ clear_other w s (14 + t) low (omega (arith, slot)) (λ e. omega (arith, e, within));
    };
  }

-- ---- the overflow notes, which no mark of a slot changes
five_bits : (w : ℕ) → overflow_count w ≡ bit 40 w + 2 * bit 41 w + 4 * bit 42 w + 8 * bit 43 w + 16 * bit 44 w
five_bits w = omega arith

same_notes : (w x : ℕ) → ((i : ℕ) → 28 ≤ i → i < 64 → bit i x ≡ bit i w) → SameNotes w x
same_notes w x same = record {
  notes = λ i low. same (28 + i) (omega arith) (omega (arith, low));
  count =
      let b0 = same 40 (omega arith) (omega arith) in
      let b1 = same 41 (omega arith) (omega arith) in
      let b2 = same 42 (omega arith) (omega arith) in
      let b3 = same 43 (omega arith) (omega arith) in
      let b4 = same 44 (omega arith) (omega arith) in
      let old = five_bits w in
      let new = five_bits x in
      omega (arith, b0, b1, b2, b3, b4, old, new);
}

pub inserted_notes : (w s : ℕ) → s < 14 → SameNotes w (inserted_mark w s)
inserted_notes w s within = same_notes w (inserted_mark w s) (λ i high small.
    clear_other (bit_or w (mask s)) (14 + s) i (omega (arith, within)) small (λ e. omega (arith, e, high, within))
    ∙ set_other w s i (omega (arith, within)) (λ e. omega (arith, e, high, within)))

pub removed_notes : (w s : ℕ) → s < 14 → SameNotes w (removed_mark w s)
removed_notes w s within = same_notes w (removed_mark w s) (λ i high small.
    clear_other (bit_and w (bit_not w64 (mask s))) (14 + s) i (omega (arith, within)) small (λ e. omega (arith, e, high, within))
    ∙ clear_other w s i (omega (arith, within)) small (λ e. omega (arith, e, high, within)))
