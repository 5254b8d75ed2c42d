-- The rules, word by word, and a sound frame.
use Rattle.segment_table.proofs.frames.Rules.{from_rules, to_rules}
use Rattle.segment_table.proofs.laws.rules_are_local.Goals as goal

pub returns : goal.returns
returns c shape word is_shape = (from_rules shape is_shape word, to_rules shape is_shape word)
