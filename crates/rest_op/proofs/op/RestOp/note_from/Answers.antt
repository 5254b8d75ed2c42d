-- By the first number that passes.
use Rattle.std.proofs.Common.{◌≡◌, ◌*◌, ◌-◌, sym, ap, ◌∙◌, arith}
use Rattle.image_layout.specs.Places.{homes}
use Rattle.rest_op.specs.Steps.{is_noted}
use Rattle.rounds.specs.Seeking.{seek}
use Rattle.rounds.proofs.Seeking.{seek_below_here, seek_below_on, seek_at_end}
use Rattle.rest_op.proofs.op.RestOp.note_from.Goals as goal

pub returns-then-is_noted : goal.returns-then-is_noted
returns-then-is_noted c = record {
  is = sym (seek_below_here (is_noted c.args.self.now) (2 * homes) c.loop-number.number c.loop-number-test.true (sym c.is_noted.ensures ∙ c.if-is_noted.true)) ∙ c.loop-number.invariant.rest;
}

pub loop-number-preserved : goal.loop-number-preserved
loop-number-preserved c = record {
  near = omega (arith, c.loop-number-test.true);
  rest = sym (seek_below_on (is_noted c.args.self.now) (2 * homes) c.loop-number.number c.loop-number-test.true (sym c.is_noted.ensures ∙ c.if-is_noted.false)) ∙ c.loop-number.invariant.rest;
}

pub returns : goal.returns
returns c =
    let last : c.loop-number.number ≡ 2 * homes = omega (arith, c.loop-number.invariant.near, c.loop-number-test.false) in
    record {
      is = sym (ap (λ n. seek (is_noted c.args.self.now) (2 * homes - n) n) last ∙ seek_at_end (is_noted c.args.self.now) (2 * homes) (2 * homes) (omega arith)) ∙ c.loop-number.invariant.rest;
    }
