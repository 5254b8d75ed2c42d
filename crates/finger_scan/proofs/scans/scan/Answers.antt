-- The lanes are the fingerprints and two more, which the mask leaves out.
use Rattle.std.proofs.Common.{arith}
use Rattle.std.proofs.lemmas.Nat.{and_le_r}
use Rattle.finger_scan.proofs.Lanes.{scan_of_lanes}
use Rattle.finger_scan.proofs.scans.scan.Goals as goal

pub returns-clause-scan : goal.returns-clause-scan
returns-clause-scan c = scan_of_lanes c.args.fps c.args.byte

pub returns-clause-within : goal.returns-clause-within
returns-clause-within c = omega (arith, and_le_r)
