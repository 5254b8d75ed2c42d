-- Each clause is a lemma.
use Rattle.std.proofs.Common.{◌+◌, refl}
use Rattle.image_layout.specs.Places.{bucket_at}
use Rattle.bucket_words.proofs.segments.Places.{owner_kept, owner_within, structure_kept, home_in_owner, home_kept}
use Rattle.bucket_words.proofs.records.owners_follow_the_structure.Goals as goal

pub returns-clause-kept : goal.returns-clause-kept
returns-clause-kept c = owner_kept

pub returns-clause-apart : goal.returns-clause-apart
returns-clause-apart c shape word s b n x bucket inside = structure_kept shape word s b n x (bucket_at shape s b + n) bucket inside refl

pub returns-clause-segment : goal.returns-clause-segment
returns-clause-segment c = owner_within

pub returns-clause-home : goal.returns-clause-home
returns-clause-home c = home_in_owner

pub returns-clause-same_home : goal.returns-clause-same_home
returns-clause-same_home c = home_kept
