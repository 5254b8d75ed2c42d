-- One note slot more.
use Rattle.std.proofs.Common.{refl, below_more, arith}
use borrow.Author.Count.{below_none}
use Rattle.image_rules.proofs.Answered.{never, untrue}
use Rattle.image_rules.proofs.notes.are_named.Goals as goal

pub loop-note_slot-init : goal.loop-note_slot-init
loop-note_slot-init c = below_none _

pub is_named-requires-clause-note_slot : goal.is_named-requires-clause-note_slot
is_named-requires-clause-note_slot c = c.loop-note_slot-test.true

pub returns-then-not-is_named : goal.returns-then-not-is_named
returns-then-not-is_named c = (
  (λ false. untrue false),
  (λ all. absurd
      (never c.is_named.result c.is_named.ensures c.if-not-is_named.true (all c.loop-note_slot.note_slot c.loop-note_slot-test.true))),
)

pub loop-note_slot-preserved : goal.loop-note_slot-preserved
loop-note_slot-preserved c = below_more _ _ c.loop-note_slot.invariant (c.if-not-is_named.ensures.0 refl)

pub returns : goal.returns
returns c = ((λ _ i below. c.loop-note_slot.invariant i (omega (arith, below, c.loop-note_slot-test.false))), (λ _. refl))
