-- The tests before a name fail, and its own holds.
use Rattle.std.proofs.Common.{refl, sym}
use Rattle.script_text.proofs.run_form.aim_of.Goals as goal

pub returns-then-eq : goal.returns-then-eq
returns-then-eq c = rw (sym c.if-eq.ensures) refl

pub returns-then-eq-2 : goal.returns-then-eq-2
returns-then-eq-2 c = rw (sym c.if-eq.ensures, sym c.if-eq-2.ensures) refl

pub returns-then-eq-3 : goal.returns-then-eq-3
returns-then-eq-3 c = rw (sym c.if-eq.ensures, sym c.if-eq-2.ensures, sym c.if-eq-3.ensures) refl

pub returns-then-eq-4 : goal.returns-then-eq-4
returns-then-eq-4 c = rw (sym c.if-eq.ensures, sym c.if-eq-2.ensures, sym c.if-eq-3.ensures, sym c.if-eq-4.ensures) refl

pub returns-then-eq-5 : goal.returns-then-eq-5
returns-then-eq-5 c = rw (sym c.if-eq.ensures, sym c.if-eq-2.ensures, sym c.if-eq-3.ensures, sym c.if-eq-4.ensures, sym c.if-eq-5.ensures) refl

pub returns-then-eq-6 : goal.returns-then-eq-6
returns-then-eq-6 c = rw (sym c.if-eq.ensures, sym c.if-eq-2.ensures, sym c.if-eq-3.ensures, sym c.if-eq-4.ensures, sym c.if-eq-5.ensures, sym c.if-eq-6.ensures) refl

pub returns-then-eq-7 : goal.returns-then-eq-7
returns-then-eq-7 c = rw (sym c.if-eq.ensures, sym c.if-eq-2.ensures, sym c.if-eq-3.ensures, sym c.if-eq-4.ensures, sym c.if-eq-5.ensures, sym c.if-eq-6.ensures, sym c.if-eq-7.ensures) refl

pub returns-else-eq-7 : goal.returns-else-eq-7
returns-else-eq-7 c = rw (sym c.if-eq.ensures, sym c.if-eq-2.ensures, sym c.if-eq-3.ensures, sym c.if-eq-4.ensures, sym c.if-eq-5.ensures, sym c.if-eq-6.ensures, sym c.if-eq-7.ensures) refl
