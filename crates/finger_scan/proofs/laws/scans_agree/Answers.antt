-- Both are the one scan.
use Rattle.std.proofs.Common.{eq-eqb}
use Rattle.finger_scan.proofs.ScanBits.{scan_is_determined}
use Rattle.finger_scan.proofs.laws.scans_agree.Goals as goal

pub returns : goal.returns
returns c =
    eq-eqb c.scan.result c.scan_plain.result
    (scan_is_determined c.args.fps c.args.byte c.scan.result c.scan_plain.result c.scan.ensures.scan c.scan_plain.ensures.scan)
