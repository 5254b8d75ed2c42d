-- By the first number that passes.
use Rattle.std.proofs.Common.{◌≡◌, ◌<◌, ◌-◌, sym, ap, ◌∙◌, arith}
use Rattle.mend_op.specs.Stages.{most}
use Rattle.rounds.specs.Seeking.{seek}
use Rattle.mend_op.specs.Steps.{is_changed}
use Rattle.rounds.proofs.Seeking.{seek_below_here, seek_below_on, seek_at_end}
use Rattle.mend_op.proofs.op.MendOp.changed_from.Goals as goal

pub returns-then-is_changed : goal.returns-then-is_changed
returns-then-is_changed c =
    let end = c.most-number-end.ensures in
    let below = c.loop-number-test.true in
    let low : c.loop-number.number < most c.args.stage = omega (arith, end, below) in
    record {
      is = sym (seek_below_here (is_changed c.args.self.now c.args.stage) (most c.args.stage) c.loop-number.number low (sym c.is_changed.ensures ∙ c.if-is_changed.true)) ∙ c.loop-number.invariant.rest;
    }

pub loop-number-preserved : goal.loop-number-preserved
loop-number-preserved c =
    let end = c.most-number-end.ensures in
    let below = c.loop-number-test.true in
    let low : c.loop-number.number < most c.args.stage = omega (arith, end, below) in
    record {
      near = omega (arith, low);
      rest = sym (seek_below_on (is_changed c.args.self.now c.args.stage) (most c.args.stage) c.loop-number.number low (sym c.is_changed.ensures ∙ c.if-is_changed.false)) ∙ c.loop-number.invariant.rest;
    }

pub returns : goal.returns
returns c =
    let end = c.most-number-end.ensures in
    let past = c.loop-number-test.false in
    let near = c.loop-number.invariant.near in
    let last : c.loop-number.number ≡ most c.args.stage = omega (arith, end, past, near) in
    record {
      is =
          c.most.ensures
          ∙ sym (ap (λ n. seek (is_changed c.args.self.now c.args.stage) (most c.args.stage - n) n) last ∙ seek_at_end (is_changed c.args.self.now c.args.stage) (most c.args.stage) (most c.args.stage) (omega arith))
          ∙ c.loop-number.invariant.rest;
    }
