-- By the rules that all proofs share.
use Rattle.std.proofs.Common.{rules}
use Rattle.map_model.proofs.plain_map.PlainMap.of_pairs.Goals as goal

pub returns : goal.returns
returns c = search rules
