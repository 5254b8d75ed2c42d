-- By the rules that all proofs share.
use Rattle.std.proofs.Common.{rules}
use Rattle.balance.proofs.choice.choose.Goals as goal

pub returns-then-in_probe-in_home-clause-is : goal.returns-then-in_probe-in_home-clause-is
returns-then-in_probe-in_home-clause-is c = search rules

pub returns-then-in_probe-in_home-clause-home : goal.returns-then-in_probe-in_home-clause-home
returns-then-in_probe-in_home-clause-home c = search rules

pub returns-then-in_probe-in_home-clause-probe : goal.returns-then-in_probe-in_home-clause-probe
returns-then-in_probe-in_home-clause-probe c = search rules

pub returns-then-in_probe-in_home-clause-neither : goal.returns-then-in_probe-in_home-clause-neither
returns-then-in_probe-in_home-clause-neither c = search rules

pub returns-else-in_home-lt-SLOTS-clause-is : goal.returns-else-in_home-lt-SLOTS-clause-is
returns-else-in_home-lt-SLOTS-clause-is c = search rules

pub returns-else-in_home-lt-SLOTS-clause-home : goal.returns-else-in_home-lt-SLOTS-clause-home
returns-else-in_home-lt-SLOTS-clause-home c = search rules

pub returns-else-in_home-lt-SLOTS-clause-neither : goal.returns-else-in_home-lt-SLOTS-clause-neither
returns-else-in_home-lt-SLOTS-clause-neither c = search rules

pub returns-then-in_home-lt-SLOTS-clause-is : goal.returns-then-in_home-lt-SLOTS-clause-is
returns-then-in_home-lt-SLOTS-clause-is c = search rules

pub returns-then-in_home-lt-SLOTS-clause-home : goal.returns-then-in_home-lt-SLOTS-clause-home
returns-then-in_home-lt-SLOTS-clause-home c = search rules

pub returns-then-in_home-lt-SLOTS-clause-probe : goal.returns-then-in_home-lt-SLOTS-clause-probe
returns-then-in_home-lt-SLOTS-clause-probe c = search rules

pub returns-else-in_home-lt-SLOTS-clause-probe : goal.returns-else-in_home-lt-SLOTS-clause-probe
returns-else-in_home-lt-SLOTS-clause-probe c = search rules
