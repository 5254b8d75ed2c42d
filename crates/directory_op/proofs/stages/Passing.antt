-- What an event of a stage leaves: behind a store the next step, behind a flush the stage, behind a fence the stage, or the next one where
-- no store is to come.
use Rattle.std.proofs.Common.{◌≡◌, ◌≢◌, ℕ, false, Option, None, Some, refl, ap, ◌∙◌}
use Rattle.op_core.specs.declared.want.Want.{Want}
use Rattle.op_core.specs.declared.want.Want.TheVariants.{Store as StoreWord}
use Rattle.rounds.specs.declared.rounds.Rounds.{Rounds}
use Rattle.rounds.specs.Steps.{at_step, begun, flushed_to, rounds_stores, rounds_wanted, rounds_taken}
use Rattle.rounds.specs.Events.{IsStore, IsFlush, IsFence}
use Rattle.rounds.proofs.Wanted.{flushed_wants}
use Rattle.directory_op.specs.declared.op.Stage.{Stage}
use Rattle.directory_op.specs.declared.op.DirectoryStep.{DirectoryStep}
use Rattle.directory_op.specs.declared.op.DirectoryStep.TheVariants.{Store}
use Rattle.directory_op.specs.declared.op.DirectoryOp.{DirectoryOp}
use Rattle.directory_op.specs.Steps.{next_store, stage_after, settled_to, settled_by, passed_to, passed}

-- the state with these rounds, at a step
abbrev pub at_rounds : DirectoryOp → Rounds → DirectoryStep → DirectoryOp
at_rounds op rounds step = record op { rounds = rounds; step = step }

module _ (op : DirectoryOp) (stage : Stage) (w : Want) where
  abbrev next : Option (ℕ × ℕ)
  next = next_store op stage

  pub behind_store : IsStore op.rounds next w → passed op stage ≡ at_rounds op (rounds_taken op.rounds next) (stage_after op stage)
  behind_store s = ap (λ b. at_rounds op (rounds_taken op.rounds next) (passed_to op stage b)) s.stores

  abbrev behind : Rounds → DirectoryOp
  behind rounds = at_rounds op (rounds_taken op.rounds next) (settled_by op stage (rounds_wanted rounds next))

  -- behind another event that leaves these rounds
  behind_other : (rounds : Rounds) → rounds_stores op.rounds next ≡ false → rounds_taken op.rounds next ≡ rounds → passed op stage ≡ behind rounds
  behind_other rounds off is = ap (λ b. at_rounds op (rounds_taken op.rounds next) (passed_to op stage b)) off ∙ ap behind is

  pub behind_flush : IsFlush op.rounds next w → passed op stage ≡ at_rounds op (rounds_taken op.rounds next) (Store stage)
  behind_flush f =
      let more = flushed_wants op.rounds.round f.number next in
      behind_other (at_step op.rounds.round (flushed_to op.rounds.round f.number)) f.stores f.leaves
      ∙ ap (λ (o : Option Want). at_rounds op (rounds_taken op.rounds next) (settled_by op stage o)) more.1

  -- behind a fence a round begins
  fence_on : (comes : Option (ℕ × ℕ)) → comes ≢ None → (w : Want) × (rounds_wanted begun comes ≡ Some w)
  fence_on None some = absurd (some refl)
  fence_on (Some store) some = (StoreWord store.0 store.1, refl)

  pub behind_fence : IsFence op.rounds next w → next ≢ None → passed op stage ≡ at_rounds op (rounds_taken op.rounds next) (Store stage)
  behind_fence f some = behind_other begun f.stores f.leaves ∙ ap (λ (o : Option Want). at_rounds op (rounds_taken op.rounds next) (settled_by op stage o)) (fence_on next some).1

  fence_ends : (comes : Option (ℕ × ℕ)) → comes ≡ None → rounds_wanted begun comes ≡ None
  fence_ends None e = refl
  fence_ends (Some store) e = absurd (cc)

  pub behind_last_fence : IsFence op.rounds next w → next ≡ None → passed op stage ≡ at_rounds op (rounds_taken op.rounds next) (settled_to op stage)
  behind_last_fence f none = behind_other begun f.stores f.leaves ∙ ap (λ (o : Option Want). at_rounds op (rounds_taken op.rounds next) (settled_by op stage o)) (fence_ends next none)
