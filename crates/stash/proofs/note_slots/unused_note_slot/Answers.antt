-- The trailing ones end at the lowest note slot whose bit is 0.
use Rattle.std.proofs.Common.{◌≡◌, ℕ, ◌^◌, ◌<◌, sym, subst, arith}
use Rattle.std.proofs.lemmas.Nat.Bits.{bit_at-trailing_ones}
use Rattle.std.specs.Int.{w8, trailing_ones}
use Rattle.word_bits.specs.Bits.{bit}
use Rattle.stash.proofs.note_slots.unused_note_slot.Goals as goal

lowest_clear : (used t : ℕ) → used < 2 ^ 4 → t ≡ trailing_ones w8 used → (bit t used ≡ 0) × ((i : ℕ) → i < t → bit i used ≡ 1)
lowest_clear used t four e =
    let P : ℕ → Type 0 = λ n. (bit n used ≡ 0) × ((i : ℕ) → i < n → bit i used ≡ 1) in
    let found = bit_at-trailing_ones w8 used (omega arith) in
    subst P (sym e) (found.1, found.2)

pub returns-then-note_slot-lt-NOTE_SLOTS : goal.returns-then-note_slot-lt-NOTE_SLOTS
returns-then-note_slot-lt-NOTE_SLOTS c =
    let found = lowest_clear c.args.meta.now.used _ c.args.meta.now.used_fits c.trailing_ones-note_slot.ensures in
    record { within = omega arith; here = found.0; below = λ j less unused. absurd (omega (arith, found.1 j less)) }

pub returns-else-note_slot-lt-NOTE_SLOTS : goal.returns-else-note_slot-lt-NOTE_SLOTS
returns-else-note_slot-lt-NOTE_SLOTS c i within unused =
    let found = lowest_clear c.args.meta.now.used _ c.args.meta.now.used_fits c.trailing_ones-note_slot.ensures in
    absurd (omega (arith, found.1 i (omega arith)))
