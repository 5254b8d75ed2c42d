-- Each clause is a lemma.
use Rattle.std.proofs.Common.{sym, ◌∙◌}
use Rattle.bucket_words.proofs.segments.changes.OneRecord.{insert_key, copy_key, clear_key, update_key, remove_key}
use Rattle.bucket_words.proofs.records.changes_of_a_record.Goals as goal

pub returns-clause-insert : goal.returns-clause-insert
returns-clause-insert c shape word s b r k x table ready own none same taken stands =
    insert_key shape word table s b ready.segment ready.bucket r x ready.slot same k ready taken stands (λ _ c t h. absurd (none c t h)) own

pub returns-clause-copy : goal.returns-clause-copy
returns-clause-copy c shape word s b r d t k x table ready source value same taken stands =
    copy_key shape word table s b ready.segment ready.bucket r x ready.slot same k ready taken stands (λ own c u h. table.one_value s c u d t k h source own ∙ sym value) d t source

pub returns-clause-clear : goal.returns-clause-clear
returns-clause-clear c shape word s b r d t k x table stood other apart same free =
    clear_key shape word table s b stood.segment stood.bucket r x stood.slot same k stood free d t other apart

pub returns-clause-update : goal.returns-clause-update
returns-clause-update c shape word s b r k x table stood own only = update_key shape word table s b stood.segment stood.bucket r k x stood own only

pub returns-clause-remove : goal.returns-clause-remove
returns-clause-remove c shape word s b r k x table stood own only same free =
    remove_key shape word table s b stood.segment stood.bucket r x stood.slot same k stood free own only
