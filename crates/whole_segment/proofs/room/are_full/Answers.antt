-- The fields say what the words say, and neither is chosen exactly where both are full.
use Rattle.std.proofs.Common.{refl}
use Rattle.whole_segment.proofs.marking.Fields.{full_is}
use Rattle.whole_segment.proofs.room.are_full.Goals as goal

pub returns-in-Neither : goal.returns-in-Neither
returns-in-Neither c =
    let both = c.in-Neither.ensures.neither.0 refl in
    let first = full_is c.read.result c.args.w1 0 0 c.read.ensures in
    let second = full_is c.read-2.result c.args.u1 0 0 c.read-2.ensures in (λ _. (first.0 both.0, second.0 both.1), λ _. refl)

pub returns-in-Home : goal.returns-in-Home
returns-in-Home c =
    let first = full_is c.read.result c.args.w1 0 0 c.read.ensures in
    let second = full_is c.read-2.result c.args.u1 0 0 c.read-2.ensures in
    (λ yes. absurd (cc), λ both. let other = c.in-Home.ensures.neither.1 (first.1 both.0, second.1 both.1) in absurd (cc))

pub returns-in-Probe : goal.returns-in-Probe
returns-in-Probe c =
    let first = full_is c.read.result c.args.w1 0 0 c.read.ensures in
    let second = full_is c.read-2.result c.args.u1 0 0 c.read-2.ensures in
    (λ yes. absurd (cc), λ both. let other = c.in-Probe.ensures.neither.1 (first.1 both.0, second.1 both.1) in absurd (cc))
