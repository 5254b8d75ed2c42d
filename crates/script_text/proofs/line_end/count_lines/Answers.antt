use Rattle.script_text.proofs.Lines.{last_unended, last_ended}
use Rattle.script_text.proofs.line_end.count_lines.Goals as goal

pub returns-then-begun : goal.returns-then-begun
returns-then-begun c = last_unended c.args.bytes.now _ _ _ c.if-begun.true c.loop-byte-test.false c.loop-byte.invariant.counted

pub returns-else-begun : goal.returns-else-begun
returns-else-begun c = last_ended c.args.bytes.now _ _ _ c.if-begun.false c.loop-byte-test.false c.loop-byte.invariant.counted
