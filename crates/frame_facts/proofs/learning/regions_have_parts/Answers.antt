-- The first bits of a hash are those of more of them.
use Rattle.std.proofs.Common.{◌/◌, ◌^◌, ap, ◌∙◌}
use Rattle.bucket_words.specs.Segments.{frame_of}
use Rattle.bucket_words.proofs.frames.Regions.{fewer}
use Rattle.frame_facts.proofs.Told.{deep_joined}
use Rattle.frame_facts.proofs.learning.regions_have_parts.Goals as goal

pub returns-clause-owns : goal.returns-clause-owns
returns-clause-owns c shape version words medium s d k p q most is was h fits covers =
    was h fits (fewer d k h most ∙ ap (λ n. n / 2 ^ k) covers ∙ is)

pub returns-clause-lacks : goal.returns-clause-lacks
returns-clause-lacks c shape version words medium s d k p q most is was =
    (was.0, λ h fits covers. was.1 h fits (fewer d k h most ∙ ap (λ n. n / 2 ^ k) covers ∙ is))

pub returns-clause-deep : goal.returns-clause-deep
returns-clause-deep c shape version words medium f d k p q most is was h fits covers =
    was h fits (fewer d k h most ∙ ap (λ n. n / 2 ^ k) covers ∙ is)

pub returns-clause-joined : goal.returns-clause-joined
returns-clause-joined c shape version words medium = deep_joined (frame_of shape medium)
