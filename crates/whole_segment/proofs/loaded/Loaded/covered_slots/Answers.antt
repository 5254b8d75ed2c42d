-- A slot more is in the set or not, and after 14 all are looked at.
use Rattle.std.proofs.Common.{ℕ, ◌+◌, ◌∙◌, ap, sym, subst, arith, bit_or}
use Rattle.word_bits.specs.Bits.{mask}
use Rattle.sound_image.specs.Records.{key_hash}
use Rattle.whole_segment.specs.Records.{first_in, key_in, IsCovered, covered_set}
use Rattle.whole_segment.proofs.Telling.{sets_agree, covered_is}
use Rattle.whole_segment.proofs.marking.Sets.{IsSetBelow, one_more, no_more, whole_set}
use Rattle.whole_segment.proofs.loaded.Loaded.covered_slots.Goals as goal
use Rattle.whole_segment.proofs.loaded.Loaded.covered_slots.Goals.{then-is_covered, else-is_covered}

pub loop-slot-preserved : goal.loop-slot-preserved
loop-slot-preserved c =
    let P : ℕ → Type 0 = IsCovered (first_in c.args.self.now) (key_in c.args.self.now) (key_hash c.args.geometry.now) c.args.depth c.args.pattern c.args.bucket in
    let slot = c.loop-slot.slot in
    let slots = c.loop-slot.slots in
    let Q : ℕ → Type 0 = IsSetBelow P (slot + 1) in
    elim c.if-is_covered.branch [
      | then-is_covered w ↦
          let made = w.slots-is ∙ ap (bit_or slots) (w.mask-slots.ensures ∙ ap mask w.from.ensures) in
          subst Q (sym made) (one_more P slot slots (omega arith) c.loop-slot.invariant (c.is_covered.ensures.0 w.if-is_covered.true))
      | else-is_covered w ↦
          subst Q (sym w.slots-is) (no_more P slot slots (omega arith) c.loop-slot.invariant (λ p. let yes = c.is_covered.ensures.1 p in let no = w.if-is_covered.false in absurd (cc)))
    ]

pub returns-clause-set : goal.returns-clause-set
returns-clause-set c =
    let P : ℕ → Type 0 = IsCovered (first_in c.args.self.now) (key_in c.args.self.now) (key_hash c.args.geometry.now) c.args.depth c.args.pattern c.args.bucket in
    whole_set P c.loop-slot.slot c.loop-slot.slots (omega arith) c.loop-slot.invariant

pub returns-clause-is : goal.returns-clause-is
returns-clause-is c =
    let P : ℕ → Type 0 = IsCovered (first_in c.args.self.now) (key_in c.args.self.now) (key_hash c.args.geometry.now) c.args.depth c.args.pattern c.args.bucket in
    sets_agree P c.loop-slot.slots (covered_set (first_in c.args.self.now) (key_in c.args.self.now) (key_hash c.args.geometry.now) c.args.depth c.args.pattern c.args.bucket)
    (whole_set P c.loop-slot.slot c.loop-slot.slots (omega arith) c.loop-slot.invariant)
    (covered_is (first_in c.args.self.now) (key_in c.args.self.now) (key_hash c.args.geometry.now) c.args.depth c.args.pattern c.args.bucket)
