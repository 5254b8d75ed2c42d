-- By the rules that all proofs share.
use Rattle.std.proofs.Common.{rules}
use Rattle.way.proofs.slot_word.Goals as goal

pub returns-then-segment-segments : goal.returns-then-segment-segments
returns-then-segment-segments c = search rules
