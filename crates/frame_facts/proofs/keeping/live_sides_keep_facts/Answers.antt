-- Only the 1-side has another claimer.
use Rattle.frame_facts.proofs.Stores.{went_live}
use Rattle.frame_facts.proofs.keeping.live_sides_keep_facts.Goals as goal

pub returns : goal.returns
returns c = went_live
