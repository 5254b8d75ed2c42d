-- The law is a lemma.
use Rattle.finger_scan.proofs.ScanBits as lemma
use Rattle.finger_scan.proofs.laws.scan_is_determined.Goals as goal

pub returns : goal.returns
returns c = lemma.scan_is_determined
