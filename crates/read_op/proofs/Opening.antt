-- Where a get goes on: from a look at a free lock word, and from a word of a bucket, it never ends.
use Rattle.std.proofs.Common.{◌≡◌, ℕ, List, None, refl}
use Rattle.std.specs.Prelude.{⊤}
use Rattle.op_core.specs.declared.want.Want.TheVariants.{Done}
use Rattle.phase.specs.declared.walk.Walk.{Walk}
use Rattle.phase.specs.declared.walk.Walk.TheVariants as walk
use Rattle.phase.specs.declared.load.Loaded.{Loaded}
use Rattle.phase.specs.declared.load.Loaded.TheVariants as loaded
use Rattle.phase.specs.Walks.{walk_wanted}
use Rattle.phase.specs.declared.role.Role.{Role}
use Rattle.phase.specs.declared.role.Role.TheVariants.{Home, Probing, First, Second}
use Rattle.phase.proofs.locks.Choosing.{by_both}
use Rattle.read_op.specs.declared.step.Seen.{Seen}
use Rattle.read_op.specs.declared.step.ReadEnd.{ReadEnd}
use Rattle.read_op.specs.declared.step.ReadStep.{ReadStep}
use Rattle.read_op.specs.declared.step.ReadStep.TheVariants.{Way, Look, Fill, Count, Check, Relook, Ended}
use Rattle.read_op.specs.declared.step.Task.{Task}
use Rattle.read_op.specs.Steps.{wanted_in, visit_second, looked, read_all, read_probing, with_value, filled}
use Rattle.read_op.specs.GetPart.{outcome_in}

-- a step that is no end
abbrev pub IsOpen : ReadStep → Type 0
IsOpen (Ended end) = ⊥
IsOpen s = ⊤

pub looked_open : (s : Seen) (p : Role) → IsOpen (looked s p)
looked_open s Home = tt
looked_open s Probing = tt
looked_open s p = tt

second_open : (s : Seen) → IsOpen (visit_second s)
second_open s = by_both IsOpen s.second (Look s Second) (Count s) tt tt

all_open : (key hash : ℕ) (s : Seen) (p : Role) (ws : List ℕ) → IsOpen (read_all key hash s p ws)
all_open key hash s Home ws = tt
all_open key hash s Probing ws = let t : Seen = read_probing key hash s ws in by_both IsOpen t.first (Look t First) (visit_second t) tt (second_open t)
all_open key hash s First ws = second_open (with_value key s ws)
all_open key hash s p ws = tt

pub filled_open : (key hash : ℕ) (s : Seen) (p : Role) (x : Loaded) → IsOpen (filled key hash s p x)
filled_open key hash s p (loaded.On load) = tt
filled_open key hash s p (loaded.All ws) = all_open key hash s p ws

-- nothing is decided there
pub open_undecided : (s : ReadStep) → IsOpen s → outcome_in s ≡ None
open_undecided (Ended end) goes = absurd goes
open_undecided s goes = refl

-- ---- a get that wants nothing more has ended
walk_asks : (task : Task) (w : Walk) → walk_wanted task.site task.hash w ≡ Done → ⊥
walk_asks task walk.Power e = absurd (cc)
walk_asks task walk.Root e = absurd (cc)
walk_asks task (walk.Entry root) e = absurd (cc)
walk_asks task (walk.Head root segment) e = absurd (cc)

pub has_ended : (task : Task) (s : ReadStep) → wanted_in task s ≡ Done → (end : ReadEnd) × (s ≡ Ended end)
has_ended task (Way w) e = absurd (walk_asks task w e)
has_ended task (Look s p) e = absurd (cc)
has_ended task (Fill s p load) e = absurd (cc)
has_ended task (Count s) e = absurd (cc)
has_ended task (Check s placed at) e = absurd (cc)
has_ended task (Relook s placed p) e = absurd (cc)
has_ended task (Ended end) e = (end, refl)
