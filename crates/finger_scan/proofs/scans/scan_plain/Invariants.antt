-- The slots before this one are scanned.
use Rattle.finger_scan.proofs.ScanBits.{IsScanBelow}
use Rattle.finger_scan.proofs.scans.scan_plain.Given as goal

abbrev pub invariant-loop-slot : goal.invariant-loop-slot
invariant-loop-slot l = IsScanBelow l.slot l.finger-items l.byte l.found
