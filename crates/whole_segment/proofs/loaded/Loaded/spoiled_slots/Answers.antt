-- A slot more is in the set or not, and after 14 all are looked at.
use Rattle.std.proofs.Common.{ℕ, ◌+◌, ◌∙◌, ap, sym, subst, arith, bit_or}
use Rattle.word_bits.specs.Bits.{mask}
use Rattle.sound_image.specs.Records.{key_hash}
use Rattle.whole_segment.specs.Records.{first_in, key_in}
use Rattle.whole_segment.specs.Mending.{IsSpoiled, spoiled_set}
use Rattle.whole_segment.proofs.Telling.{sets_agree, spoiled_is}
use Rattle.whole_segment.proofs.marking.Sets.{IsSetBelow, one_more, no_more, whole_set}
use Rattle.whole_segment.proofs.loaded.Loaded.spoiled_slots.Goals as goal
use Rattle.whole_segment.proofs.loaded.Loaded.spoiled_slots.Goals.{then-is_spoiled, else-is_spoiled}

pub loop-slot-preserved : goal.loop-slot-preserved
loop-slot-preserved c =
    let P : ℕ → Type 0 = IsSpoiled (first_in c.args.self.now) (key_in c.args.self.now) (key_hash c.args.geometry.now) c.args.depth c.args.pattern c.args.bucket in
    let slot = c.loop-slot.slot in
    let slots = c.loop-slot.slots in
    let Q : ℕ → Type 0 = IsSetBelow P (slot + 1) in
    elim c.if-is_spoiled.branch [
      | then-is_spoiled w ↦
          let made = w.slots-is ∙ ap (bit_or slots) (w.mask-slots.ensures ∙ ap mask w.from.ensures) in
          subst Q (sym made) (one_more P slot slots (omega arith) c.loop-slot.invariant (c.is_spoiled.ensures.0 w.if-is_spoiled.true))
      | else-is_spoiled w ↦
          subst Q (sym w.slots-is) (no_more P slot slots (omega arith) c.loop-slot.invariant (λ p. let yes = c.is_spoiled.ensures.1 p in let no = w.if-is_spoiled.false in absurd (cc)))
    ]

pub returns-clause-set : goal.returns-clause-set
returns-clause-set c =
    let P : ℕ → Type 0 = IsSpoiled (first_in c.args.self.now) (key_in c.args.self.now) (key_hash c.args.geometry.now) c.args.depth c.args.pattern c.args.bucket in
    whole_set P c.loop-slot.slot c.loop-slot.slots (omega arith) c.loop-slot.invariant

pub returns-clause-is : goal.returns-clause-is
returns-clause-is c =
    let P : ℕ → Type 0 = IsSpoiled (first_in c.args.self.now) (key_in c.args.self.now) (key_hash c.args.geometry.now) c.args.depth c.args.pattern c.args.bucket in
    sets_agree P c.loop-slot.slots (spoiled_set (first_in c.args.self.now) (key_in c.args.self.now) (key_hash c.args.geometry.now) c.args.depth c.args.pattern c.args.bucket)
    (whole_set P c.loop-slot.slot c.loop-slot.slots (omega arith) c.loop-slot.invariant)
    (spoiled_is (first_in c.args.self.now) (key_in c.args.self.now) (key_hash c.args.geometry.now) c.args.depth c.args.pattern c.args.bucket)
