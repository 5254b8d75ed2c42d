-- Each is a lemma.
use Rattle.bucket_meta.proofs.fields.Uppers.{inserted_upper, member_upper, removed_upper}
use Rattle.bucket_meta.proofs.laws.marks_keep_the_upper_part.Goals as goal

pub returns-clause-inserted : goal.returns-clause-inserted
returns-clause-inserted c = inserted_upper

pub returns-clause-member : goal.returns-clause-member
returns-clause-member c = member_upper

pub returns-clause-removed : goal.returns-clause-removed
returns-clause-removed c = removed_upper
