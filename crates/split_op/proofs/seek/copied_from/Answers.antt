-- One word after another.
use Rattle.std.proofs.Common.{refl, sym, ◌∙◌, arith}
use Rattle.split_op.proofs.sides.Seeking.{seek_on, seek_here, seek_end}
use Rattle.split_op.proofs.seek.copied_from.Goals as goal

pub loop-number-init : goal.loop-number-init
loop-number-init c = refl

pub returns-then-is_copied : goal.returns-then-is_copied
returns-then-is_copied c =
    let low = c.loop-number-test.true in
    sym (c.loop-number.invariant ∙ seek_here c.args.words.now c.loop-number.number low (sym c.is_copied.ensures ∙ c.if-is_copied.true))

pub loop-number-preserved : goal.loop-number-preserved
loop-number-preserved c =
    let low = c.loop-number-test.true in
    c.loop-number.invariant ∙ seek_on c.args.words.now c.loop-number.number low (sym c.is_copied.ensures ∙ c.if-is_copied.false)

pub returns : goal.returns
returns c = sym (c.loop-number.invariant ∙ seek_end c.args.words.now c.loop-number.number (let past = c.loop-number-test.false in omega (arith, past)))
