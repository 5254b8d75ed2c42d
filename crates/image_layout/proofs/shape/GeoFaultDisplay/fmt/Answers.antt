-- Each fault writes its text.
use Rattle.std.proofs.Common.{rules}
use Rattle.image_layout.proofs.shape.GeoFaultDisplay.fmt.Goals as goal

pub returns-clause-writes : goal.returns-clause-writes
returns-clause-writes g c = search rules
