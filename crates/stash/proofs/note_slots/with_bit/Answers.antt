-- The shifted 1 is bit note slot alone.
use Rattle.std.proofs.Common.{arith}
use Rattle.stash.proofs.Bits.{set_same, set_other, set_below, clear_same, clear_other}
use Rattle.stash.proofs.note_slots.with_bit.Goals as goal

pub returns-then-value-eq1-clause-four : goal.returns-then-value-eq1-clause-four
returns-then-value-eq1-clause-four c = set_below c.args.bits c.args.note_slot c.requires.four c.requires.within

pub returns-then-value-eq1-clause-here : goal.returns-then-value-eq1-clause-here
returns-then-value-eq1-clause-here c = omega (arith, set_same c.args.bits c.args.note_slot (omega arith))

pub returns-then-value-eq1-clause-elsewhere : goal.returns-then-value-eq1-clause-elsewhere
returns-then-value-eq1-clause-elsewhere c i other = set_other c.args.bits c.args.note_slot i (omega arith) other

pub returns-else-value-eq1-clause-here : goal.returns-else-value-eq1-clause-here
returns-else-value-eq1-clause-here c = omega (arith, clear_same c.args.bits c.args.note_slot (omega arith))

pub returns-else-value-eq1-clause-elsewhere : goal.returns-else-value-eq1-clause-elsewhere
returns-else-value-eq1-clause-elsewhere c i other = clear_other c.args.bits c.args.note_slot i (omega arith) (omega arith) other
