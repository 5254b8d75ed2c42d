-- What the steps before the last header lead to: another such step, of the same segment.
use Rattle.std.proofs.Common.{◌≡◌, ℕ, ◌+◌, ◌*◌, Bool, true, false, Option, None, Some, refl}
use Rattle.std.specs.Prelude.{⊤, if◌then◌else◌, nat_lt}
use Rattle.op_core.specs.declared.want.Want.{Want}
use Rattle.image_layout.specs.Places.{homes, last_of_buckets}
use Rattle.part.specs.Doings.{Doings}
use Rattle.world.specs.Ground.{Ground}
use Rattle.rounds.specs.declared.rounds.Rounds.{Rounds}
use Rattle.rounds.specs.Steps.{rounds_wanted, begun}
use Rattle.mend_op.specs.declared.stage.Stage.{Stage}
use Rattle.mend_op.specs.declared.stage.Stage.TheVariants as stage
use Rattle.mend_op.specs.declared.op.MendStep.{MendStep}
use Rattle.mend_op.specs.declared.op.MendStep.TheVariants.{Fill, Note, Renew, RenewFlush, RenewFence, Give, Ended}
use Rattle.mend_op.specs.declared.op.MendOp.{MendOp}
use Rattle.mend_op.specs.Stages.{place}
use Rattle.mend_op.specs.Steps.{at_step, with_stored, prepared, changed_from, due, noting, noted_from, noted, over, rounding_by, rounding, begin, rounded_by, loaded_by, filled_to}
use Rattle.mend_op.specs.MendPart.{outcome_at, RemembersAt}

-- a step before that in which the last header was stored
abbrev pub IsEarly : MendStep → Type 0
IsEarly RenewFlush = ⊥
IsEarly RenewFence = ⊥
IsEarly Give = ⊥
IsEarly Ended = ⊥
IsEarly step = ⊤

-- nothing is decided there, and nothing remembered
pub early_none : (s : MendStep) → IsEarly s → outcome_at s ≡ None
early_none RenewFlush early = absurd early
early_none RenewFence early = absurd early
early_none Give early = absurd early
early_none Ended early = absurd early
early_none s early = refl

pub early_remembers : (site : Ground) (op : MendOp) (did : Doings) (s : MendStep) → IsEarly s → RemembersAt site op did s
early_remembers site op did RenewFlush early = absurd early
early_remembers site op did RenewFence early = absurd early
early_remembers site op did Give early = absurd early
early_remembers site op did Ended early = absurd early
early_remembers site op did s early = tt

-- IT GOES ON to such a step
pub record GoesOn (op next : MendOp) : Type 0 where
  pub early : IsEarly next.step
  pub same : next.guarded.segment ≡ op.guarded.segment

noting_by : (op : MendOp) (n : ℕ) (t : Bool) → GoesOn op (at_step op (if t then Note n else Renew))
noting_by op n true = record { early = tt; same = refl }
noting_by op n false = record { early = tt; same = refl }

noting_goes : (op : MendOp) (n : ℕ) → GoesOn op (noting op n)
noting_goes op n = noting_by op n (nat_lt n (2 * homes))

noted_from_goes : (op : MendOp) (from : ℕ) → GoesOn op (noted_from op from)
noted_from_goes op from = noting_goes op (changed_from op stage.Note from)

noted_by : (op : MendOp) (n : ℕ) (t : Bool) → GoesOn op (if t then noted_from (with_stored op (place stage.Note n)) (n + 1) else at_step op Renew)
noted_by op n true = let g = noted_from_goes (with_stored op (place stage.Note n)) (n + 1) in record { early = g.early; same = g.same }
noted_by op n false = record { early = tt; same = refl }

pub noted_goes : (op : MendOp) (n : ℕ) → GoesOn op (noted op n)
noted_goes op n = noted_by op n (nat_lt n (2 * homes))

over_goes : (op : MendOp) (stage : Stage) → GoesOn op (over stage op)
over_goes op stage.Clear = record { early = tt; same = refl }
over_goes op stage.Mend = let g = noted_from_goes (prepared stage.Note op) 0 in record { early = g.early; same = g.same }
over_goes op stage.Note = record { early = tt; same = refl }

rounding_by_goes : (op : MendOp) (stage : Stage) (n : ℕ) (rounds : Rounds) (o : Option Want) → GoesOn op (rounding_by o stage n rounds op)
rounding_by_goes op stage n rounds (Some want) = record { early = tt; same = refl }
rounding_by_goes op stage n rounds None = over_goes op stage

rounding_goes : (op : MendOp) (stage : Stage) (n : ℕ) (rounds : Rounds) → GoesOn op (rounding stage n rounds op)
rounding_goes op stage n rounds = rounding_by_goes op stage n rounds (rounds_wanted rounds (due op stage n))

pub begin_goes : (op : MendOp) (stage : Stage) → GoesOn op (begin stage op)
begin_goes op stage = let g = rounding_goes (prepared stage op) stage (changed_from (prepared stage op) stage 0) begun in record { early = g.early; same = g.same }

pub rounded_goes : (op : MendOp) (stage : Stage) (n : ℕ) (after : Rounds) (t : Bool) → GoesOn op (rounded_by t stage n after op)
rounded_goes op stage n after true =
    let stored : MendOp = with_stored op (place stage n) in
    let g = rounding_goes stored stage (changed_from stored stage (n + 1)) after in
    record { early = g.early; same = g.same }
rounded_goes op stage n after false = rounding_goes op stage n after

loaded_goes : (op : MendOp) (side : Option ℕ) → GoesOn op (loaded_by side op)
loaded_goes op (Some side) = begin_goes op stage.Clear
loaded_goes op None = begin_goes op stage.Mend

filled_by : (op : MendOp) (i : ℕ) (t : Bool) → GoesOn op (if t then at_step op (Fill (i + 1)) else loaded_by op.guarded.side op)
filled_by op i true = record { early = tt; same = refl }
filled_by op i false = loaded_goes op op.guarded.side

pub filled_goes : (op : MendOp) (i : ℕ) → GoesOn op (filled_to i op)
filled_goes op i = filled_by op i (nat_lt i last_of_buckets)
