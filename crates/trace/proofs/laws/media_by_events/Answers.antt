-- The laws are lemmas.
use Rattle.trace.proofs.Media.{possible_more, between_is_possible}
use Rattle.trace.proofs.laws.media_by_events.Goals as goal

pub returns : goal.returns
returns c = record { added = possible_more; between = between_is_possible }
