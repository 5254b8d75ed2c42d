-- A segment has a ready side where it claims nothing of its 1-side.
use Rattle.bucket_words.specs.Segments.{frame_of}
use Rattle.bucket_words.proofs.Claimers.{ready_claims_none, unready_claims_all}
use Rattle.frame_facts.proofs.Told.{claimer_by_claims, names_side}
use Rattle.frame_facts.proofs.learning.facts_allow_stores.Goals as goal

pub returns-clause-ready : goal.returns-clause-ready
returns-clause-ready c shape version words medium is_shape sound s lacks =
    (ready_claims_none shape.depth is_shape.depth (frame_of shape medium) sound s lacks.0.slot lacks.0.live).1 lacks.1

pub returns-clause-unready : goal.returns-clause-unready
returns-clause-unready c shape version words medium is_shape sound s is owns =
    (unready_claims_all shape.depth is_shape.depth (frame_of shape medium) sound s is.slot is.live).1 owns

pub returns-clause-deep : goal.returns-clause-deep
returns-clause-deep c shape version words medium s deep = deep

pub returns-clause-claimer : goal.returns-clause-claimer
returns-clause-claimer c shape version words medium = claimer_by_claims (frame_of shape medium)

pub returns-clause-side : goal.returns-clause-side
returns-clause-side c shape version words medium is_shape sound s n i b side slot below inside begins no_later =
    names_side shape.depth is_shape.depth (frame_of shape medium) sound s n i slot side below inside b begins.0 begins.1 no_later
