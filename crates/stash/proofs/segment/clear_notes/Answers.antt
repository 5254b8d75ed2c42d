-- No slot is in use, and none is counted.
use Rattle.std.proofs.Common.{refl}
use Rattle.stash.proofs.segment.clear_notes.Goals as goal

pub returns-clause-bare : goal.returns-clause-bare
returns-clause-bare c = record { used = refl; omember = refl; oindex = refl; ocount = refl; ofps = refl }

pub returns-clause-slots : goal.returns-clause-slots
returns-clause-slots c = record { alloc = refl; member = refl; fps = refl }
