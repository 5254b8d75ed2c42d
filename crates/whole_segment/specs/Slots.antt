-- Sets of record slots of a bucket, as numbers whose bit r is of slot r, and the halves of a metadata word by such a set.
use Rattle.std.specs.Prelude.{◌≡◌, ℕ, zero, suc, ◌+◌, ◌^◌, ◌<◌, ◌↔◌, Bool, bit_or, if◌then◌else◌}
use Rattle.word_bits.specs.Bits.{bit, mask}
use Rattle.bucket_meta.specs.Bucket.{allocated, member, record_slots, marks_bits}
use Rattle.bucket_meta.specs.Marks.{KeepsUpper}
use Rattle.image_layout.specs.Places.{buckets}

-- the set has exactly those of the 14 slots of which P holds
pub record IsSetOf (P : ℕ → Type 0) (slots : ℕ) : Type 0 where
  pub within : slots < 2 ^ record_slots
  pub each : (r : ℕ) → r < record_slots → (bit r slots ≡ 1) ↔ P r

-- the set of those of the slots below n that pass a test
unfoldable pub set_below : (ℕ → Bool) → ℕ → ℕ
set_below test zero = 0
set_below test (suc n) = if test n then bit_or (set_below test n) (mask n) else set_below test n

-- of all slots
abbrev pub set_of : (ℕ → Bool) → ℕ
set_of test = set_below test record_slots

-- slot r says in metadata word x what it says in w
pub record SameSlot (r w x : ℕ) : Type 0 where
  pub taken : allocated r x ≡ allocated r w
  pub membership : member r x ≡ member r w

-- slot r is free in metadata word x
pub record IsFreeSlot (r x : ℕ) : Type 0 where
  pub taken : allocated r x ≡ 0
  pub membership : member r x ≡ 0

-- HALVES: of a metadata word, one word has the slots of a set alone, and the other has all else
pub record AreHalves (w1 slots copy rest : ℕ) : Type 0 where
  pub moved : (r : ℕ) → r < record_slots → bit r slots ≡ 1 → SameSlot r w1 copy × IsFreeSlot r rest
  pub stayed : (r : ℕ) → r < record_slots → bit r slots ≡ 0 → IsFreeSlot r copy × SameSlot r w1 rest
  pub together : (r : ℕ) → r < record_slots → (allocated r copy + allocated r rest ≡ allocated r w1) × (member r copy + member r rest ≡ member r w1)
  pub no_overflow : copy < 2 ^ marks_bits
  pub upper : KeepsUpper w1 rest

-- WORD 1 OF EACH BUCKET IS MADE of another by a mark, such as the one with some slots alone, of the slots of which P holds
abbrev pub IsMarked : (mark : ℕ → ℕ → ℕ) (P : ℕ → ℕ → Type 0) (first made : ℕ → ℕ) → Type 0
IsMarked mark P first made = (b : ℕ) → b < buckets → (slots : ℕ) × IsSetOf (P b) slots × (made b ≡ mark (first b) slots)
