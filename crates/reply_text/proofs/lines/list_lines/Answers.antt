-- One pair more has one line more.
use Rattle.std.proofs.Common.{refl}
use Rattle.reply_text.specs.Texts.{list_text}
use Rattle.reply_text.proofs.Written.{one_more}
use Rattle.reply_text.proofs.lines.list_lines.Goals as goal

pub loop-pair-preserved : goal.loop-pair-preserved
loop-pair-preserved c =
    one_more list_text c.args.pairs.now c.loop-pair.pair-index (0, 0) _ _ _ _ c.loop-pair-test.true refl c.in_ok-push_pair.ensures c.loop-pair.invariant
