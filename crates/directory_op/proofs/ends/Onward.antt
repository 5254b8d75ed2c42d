-- Which step comes behind another: behind an event of a stage none that ends, and none that asks for the power; and behind the root none that
-- ends, where the image has areas so deep.
use Rattle.std.proofs.Common.{◌≡◌, ℕ, ◌+◌, ◌-◌, ◌%◌, Bool, true, false, cond, Option, None, Some, refl, sym, subst}
use Rattle.std.specs.Prelude.{◌==◌, nat_lt}
use Rattle.op_core.specs.declared.want.Want.{Want}
use Rattle.segment_head.specs.HeadWord.{depth_in}
use Rattle.rounds.specs.Steps.{rounds_stores, rounds_wanted, rounds_taken}
use Rattle.directory_op.specs.declared.op.DirectoryEnd.TheVariants.{Off}
use Rattle.directory_op.specs.declared.op.Stage.{Stage}
use Rattle.directory_op.specs.declared.op.Stage.TheVariants.{Fill, Filled, Deepen, Deepened, GoLive, Live, Enter, Entered}
use Rattle.directory_op.specs.declared.op.DirectoryStep.{DirectoryStep}
use Rattle.directory_op.specs.declared.op.DirectoryStep.TheVariants.{Store, Ended}
use Rattle.directory_op.specs.declared.op.DirectoryOp.{DirectoryOp}
use Rattle.directory_op.specs.Places.{entries_there, side_last}
use Rattle.directory_op.specs.Steps.{shape_of, next_store, fill_on, stage_after, settled_to, settled_by, passed_to, passed, rooted, is_over, with_root}
use Rattle.directory_op.specs.Left.{step_left, alone_in, left_of, left_alone}
use Rattle.directory_op.specs.DirectoryPart.{outcome_at}

-- A STEP GOES ON: it decides nothing, and the guard is not waited for
pub record GoesOn (step : DirectoryStep) : Type 0 where
  pub none : outcome_at step ≡ None
  pub alone : (op : DirectoryOp) → alone_in op step ≡ step_left op step

store_on : (stage : Stage) → GoesOn (Store stage)
store_on stage = record { none = refl; alone = λ op. refl }

-- ---- behind an event of a stage
fill_goes : (same : Bool) (place value : ℕ) → GoesOn (fill_on same place value)
fill_goes true place value = store_on (Fill (place + 1) value)
fill_goes false place value = record { none = refl; alone = λ op. refl }

by_last : (more : Bool) (step last : DirectoryStep) → GoesOn step → GoesOn last → GoesOn (cond more step last)
by_last true step last on end = on
by_last false step last on end = end

module _ (op : DirectoryOp) where
  after_goes : (stage : Stage) → GoesOn (stage_after op stage)
  after_goes (Fill place value) = by_last (nat_lt place (entries_there op.root - 1)) (fill_on (place % 2 == 0) place value) (Store Filled) (fill_goes (place % 2 == 0) place value) (store_on Filled)
  after_goes Deepen = store_on Deepened
  after_goes GoLive = store_on Live
  after_goes (Enter index) = by_last (nat_lt index (side_last op.root op.side_head)) (Store (Enter (index + 1))) (Store Entered) (store_on (Enter (index + 1))) (store_on Entered)
  after_goes Filled = store_on Filled
  after_goes Deepened = store_on Deepened
  after_goes Live = store_on Live
  after_goes Entered = store_on Entered

  settled_goes : (stage : Stage) → GoesOn (settled_to op stage)
  settled_goes Entered = record { none = refl; alone = λ later. refl }
  settled_goes Filled = store_on Deepen
  settled_goes Deepened = store_on GoLive
  settled_goes Live = store_on _
  settled_goes (Fill place value) = store_on (Fill place value)
  settled_goes Deepen = store_on Deepen
  settled_goes GoLive = store_on GoLive
  settled_goes (Enter index) = store_on (Enter index)

  by_more : (stage : Stage) (more : Option Want) → GoesOn (settled_by op stage more)
  by_more stage (Some more) = store_on stage
  by_more stage None = settled_goes stage

  by_store : (stage : Stage) (stores : Bool) → GoesOn (passed_to op stage stores)
  by_store stage true = after_goes stage
  by_store stage false = by_more stage (rounds_wanted (rounds_taken op.rounds (next_store op stage)) (next_store op stage))

  pub passed_goes : (stage : Stage) → GoesOn (passed op stage).step
  passed_goes stage = by_store stage (rounds_stores op.rounds (next_store op stage))

  -- ---- behind the root
  root_by : (over same : Bool) (root : ℕ) → left_alone (cond over (record op { step = Ended Off }) (rooted same op root)) ≡ left_of (cond over (record op { step = Ended Off }) (rooted same op root))
  root_by true same root = refl
  root_by false true root = refl
  root_by false false root = refl

  pub root_alone : (root : ℕ) → left_alone (with_root op root) ≡ left_of (with_root op root)
  root_alone root = root_by (is_over (shape_of op) (root == depth_in op.head) root) (root == depth_in op.head) root

  rooted_none : (same : Bool) (root : ℕ) → outcome_at (rooted same op root).step ≡ None
  rooted_none true root = refl
  rooted_none false root = refl

  pub root_none : (root : ℕ) → is_over (shape_of op) (root == depth_in op.head) root ≡ false → outcome_at (with_root op root).step ≡ None
  root_none root within = subst (λ b. outcome_at (cond b (record op { step = Ended Off }) (rooted (root == depth_in op.head) op root)).step ≡ None) (sym within)
      (rooted_none (root == depth_in op.head) root)
