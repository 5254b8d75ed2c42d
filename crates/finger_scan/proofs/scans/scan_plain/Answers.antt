-- Each turn gives one more bit, and after 14 all are there.
use Rattle.std.proofs.Common.{◌≡◌, ℕ, ◌+◌, sym, arith, subst}
use Rattle.finger_scan.proofs.ScanBits.{IsScanBelow, scan_of_bits, found_more, found_no_more}
use Rattle.finger_scan.proofs.scans.scan_plain.Goals as goal
use Rattle.finger_scan.proofs.scans.scan_plain.Goals.{then-finger-byte, else-finger-byte}

pub loop-slot-preserved : goal.loop-slot-preserved
loop-slot-preserved c =
    let P : ℕ → Type 0 = IsScanBelow (c.loop-slot.slot + 1) c.args.fps c.args.byte in
    elim c.if-finger-byte.branch [
      | then-finger-byte w ↦ subst P (sym w.found-is)
          (found_more c.loop-slot.slot c.args.fps c.args.byte c.loop-slot.found (omega arith) c.loop-slot.invariant w.if-finger-byte.true)
      | else-finger-byte w ↦ subst P (sym w.found-is)
          (found_no_more c.loop-slot.slot c.args.fps c.args.byte c.loop-slot.found c.loop-slot.invariant w.if-finger-byte.false)
    ]

pub returns-clause-scan : goal.returns-clause-scan
returns-clause-scan c =
    let all : c.loop-slot.slot ≡ 14 = omega arith in
    let P : ℕ → Type 0 = λ n. IsScanBelow n c.args.fps c.args.byte c.loop-slot.found in
    scan_of_bits c.args.fps c.args.byte c.loop-slot.found (subst P all c.loop-slot.invariant)
