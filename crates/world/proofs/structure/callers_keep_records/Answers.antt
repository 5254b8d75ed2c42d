use Rattle.world.proofs.mild.Callers.{callers_keep_records, callers_keep_notes_of_homes}
use Rattle.world.proofs.structure.callers_keep_records.Goals as goal

pub returns-clause-records : goal.returns-clause-records
returns-clause-records c = callers_keep_records

pub returns-clause-notes : goal.returns-clause-notes
returns-clause-notes c = callers_keep_notes_of_homes
