-- Byte by byte.
use Rattle.bucket_meta.proofs.Fingers.{sets_low, sets_high}
use Rattle.bucket_meta.proofs.laws.fingers_change_one_slot.Goals as goal

pub returns-clause-low : goal.returns-clause-low
returns-clause-low c = sets_low

pub returns-clause-high : goal.returns-clause-high
returns-clause-high c = sets_high
