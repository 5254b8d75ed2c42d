-- Each clause is a lemma.
use Rattle.bucket_words.proofs.segments.changes.Vacated.{vacated_keeps, cleared_keeps}
use Rattle.bucket_words.proofs.records.spoiled_records_leave.Goals as goal

pub returns-clause-slots : goal.returns-clause-slots
returns-clause-slots c = vacated_keeps

pub returns-clause-metadata : goal.returns-clause-metadata
returns-clause-metadata c shape word s b x table segment bucket each = cleared_keeps shape word table s b x segment bucket each
