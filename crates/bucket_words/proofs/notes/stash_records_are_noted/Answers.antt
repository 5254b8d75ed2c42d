-- Each clause is a lemma.
use Rattle.bucket_words.proofs.segments.Stashed.{comes, leaves, others_stashed}
use Rattle.bucket_words.proofs.notes.stash_records_are_noted.Goals as goal

pub returns-clause-comes : goal.returns-clause-comes
returns-clause-comes c = comes

pub returns-clause-leaves : goal.returns-clause-leaves
returns-clause-leaves c = leaves

pub returns-clause-others : goal.returns-clause-others
returns-clause-others c = others_stashed
