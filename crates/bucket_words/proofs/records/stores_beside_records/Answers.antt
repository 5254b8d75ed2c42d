-- Each clause is a lemma.
use Rattle.bucket_words.proofs.segments.changes.Prepared.{key_keeps, value_keeps, low_keeps, high_keeps, core_keeps}
use Rattle.bucket_words.proofs.records.stores_beside_records.Goals as goal

pub returns-clause-key : goal.returns-clause-key
returns-clause-key c shape word s b r x table segment bucket slot free = key_keeps shape word table s b x segment bucket r slot free

pub returns-clause-value : goal.returns-clause-value
returns-clause-value c shape word s b r x table segment bucket slot free = value_keeps shape word table s b x segment bucket r slot free

pub returns-clause-low_fingers : goal.returns-clause-low_fingers
returns-clause-low_fingers c shape word s b x table segment bucket same = low_keeps shape word table s b x segment bucket same

pub returns-clause-high_fingers : goal.returns-clause-high_fingers
returns-clause-high_fingers c shape word s b x table segment bucket same = high_keeps shape word table s b x segment bucket same

pub returns-clause-same_core : goal.returns-clause-same_core
returns-clause-same_core c shape word i x table same = core_keeps shape word i x table same
