-- One slot more of whose record, if there is one, the rule holds.
use Rattle.std.proofs.Common.{below_more, refl, arith}
use borrow.Author.Count.{below_none, falls}
use Rattle.image_rules.proofs.Answered.{never, untrue}
use Rattle.image_rules.proofs.records.RecordRule.first_broken.Goals.{else-is_taken-via-then-is_taken+else-not-holds, else-is_taken-via-else-is_taken}
use Rattle.image_rules.proofs.records.RecordRule.first_broken.Goals as goal

pub returns-then-is_empty-clause-none : goal.returns-then-is_empty-clause-none
returns-then-is_empty-clause-none c r below taken = absurd (c.if-is_empty.ensures refl r below taken)

pub loop-slot-init : goal.loop-slot-init
loop-slot-init c = below_none _

pub returns-then-not-holds-clause-some : goal.returns-then-not-holds-clause-some
returns-then-not-holds-clause-some c =
    record {
      slot = c.loop-slot-test.true;
      taken = c.if-is_taken.ensures.0 refl;
      broken = never c.holds.result c.holds.ensures c.if-not-holds.true;
      before = c.loop-slot.invariant;
    }

pub loop-slot-smaller : goal.loop-slot-smaller
loop-slot-smaller c = falls 14 c.loop-slot.slot c.loop-slot-test.true

pub returns-clause-none : goal.returns-clause-none
returns-clause-none c r below taken = c.loop-slot.invariant r (omega (arith, below, c.loop-slot-test.false)) taken

pub loop-slot-preserved : goal.loop-slot-preserved
loop-slot-preserved c =
    below_more _ _ c.loop-slot.invariant
    (λ taken. elim c.else-is_taken.branch [
      | else-is_taken-via-then-is_taken+else-not-holds w ↦ w.if-not-holds.ensures.0 refl
      | else-is_taken-via-else-is_taken w ↦ untrue (w.if-is_taken.ensures.1 taken)
    ])
