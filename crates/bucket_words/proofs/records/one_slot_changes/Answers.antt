-- Each clause is a lemma.
use Rattle.bucket_words.proofs.segments.changes.OneSlot.{changed_table, elsewhere, now_taken, now_free, still, still_foreign, only_new}
use Rattle.bucket_words.proofs.records.one_slot_changes.Goals as goal

pub returns-clause-table : goal.returns-clause-table
returns-clause-table c shape word other s b r k table change = changed_table shape word other s b r k change table

pub returns-clause-elsewhere : goal.returns-clause-elsewhere
returns-clause-elsewhere c shape word other s b r k table change = elsewhere shape word other s b r k change table

pub returns-clause-taken : goal.returns-clause-taken
returns-clause-taken c shape word other s b r k table change bucket slot own taken = now_taken shape word other s b r k change table taken bucket slot own

pub returns-clause-freed : goal.returns-clause-freed
returns-clause-freed c shape word other s b r k table change only own free =
    now_free shape word other s b r k change table free (λ d t h apart. let o = only d t h in apart o.0 o.1) own

pub returns-clause-still : goal.returns-clause-still
returns-clause-still c shape word other s b r d t k table change hit apart = record {
  table = changed_table shape word other s b r k change table;
  pairs = still shape word other s b r k change table d t hit apart;
}

pub returns-clause-foreign : goal.returns-clause-foreign
returns-clause-foreign c shape word other s b r k table change not_own = record {
  table = changed_table shape word other s b r k change table;
  pairs = still_foreign shape word other s b r k change table not_own;
}

pub returns-clause-records : goal.returns-clause-records
returns-clause-records c = only_new
