use Rattle.world.proofs.calls.reading.Notes.{notes_by_callers}
use Rattle.world.proofs.structure.callers_keep_readers_notes.Goals as goal

pub returns : goal.returns
returns c = notes_by_callers
