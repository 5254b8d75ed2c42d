-- Flushes are counted among the lines that wait for a fence.
use Rattle.std.proofs.Common.{◌≡◌, ◌≢◌, ℕ, ◌+◌, ◌≤◌, refl, sym, ap, subst, arith}
use Rattle.part.specs.Part.{FlushesFew}
use Rattle.op_core.specs.declared.want.Want.{Want}
use Rattle.op_core.specs.declared.want.Want.TheVariants as want
use Rattle.op_core.specs.declared.want.Ans.{Ans}
use Rattle.op_core.specs.declared.want.Ans.TheVariants.{Value}
use Rattle.op_core.specs.Answers.{IsAnswer}
use Rattle.whole_segment.specs.Rounds.{most_lines}
use Rattle.rounds.specs.Steps.{rounds_taken}
use Rattle.rounds.specs.Events.{IsFlush}
use Rattle.rounds.specs.Waiting.{rounds_waiting}
use Rattle.rounds.proofs.Wanted.{asked}
use Rattle.rounds.proofs.Waiting.{most_wait, event_ends, event_flushes, event_keeps}
use Rattle.directory_op.specs.declared.op.Stage.{Stage}
use Rattle.directory_op.specs.declared.op.DirectoryStep.{DirectoryStep}
use Rattle.directory_op.specs.declared.op.DirectoryStep.TheVariants.{LoadHead, LoadSideHead, TakeGuard, AskPower, LoadRoot, LoadEntry, Store, GiveGuard, Ended}
use Rattle.directory_op.specs.declared.op.DirectoryOp.{DirectoryOp}
use Rattle.directory_op.specs.Steps.{next_store, passed, wanted_in, taken_in}
use Rattle.directory_op.specs.Left.{step_waiting, waiting_of}
use Rattle.directory_op.specs.DirectoryPart.{directory_part}
use Rattle.directory_op.proofs.stages.Passing.{behind_flush}

-- behind a flush of a stage as many lines wait as in its rounds
flush_waiting : (op : DirectoryOp) (stage : Stage) (w : Want) → IsFlush op.rounds (next_store op stage) w → waiting_of (passed op stage) ≡ rounds_waiting (rounds_taken op.rounds (next_store op stage))
flush_waiting op stage w f = ap waiting_of (behind_flush op stage w f)

module _ (op : DirectoryOp) where
  flushes_in : (step : DirectoryStep) (a : Ans) (l : ℕ) → IsAnswer (wanted_in op step) a → wanted_in op step ≡ want.Flush l → step_waiting op step + 1 ≤ waiting_of (taken_in op step a)
  flushes_in LoadHead a l i e = absurd (cc)
  flushes_in LoadSideHead a l i e = absurd (cc)
  flushes_in TakeGuard a l i e = absurd (cc)
  flushes_in AskPower a l i e = absurd (cc)
  flushes_in LoadRoot a l i e = absurd (cc)
  flushes_in (LoadEntry place) a l i e = absurd (cc)
  flushes_in (Store stage) a l i e =
      let q = asked op.rounds (next_store op stage) a i in
      subst (λ (x : Ans). rounds_waiting op.rounds + 1 ≤ waiting_of (taken_in op (Store stage) x)) (sym q.passed)
      (event_flushes op.rounds (next_store op stage) q.few (waiting_of (passed op stage)) (flush_waiting op stage) l e)
  flushes_in GiveGuard a l i e = absurd (cc)
  flushes_in (Ended end) a l i e = absurd (cc)

  keeps_in : (step : DirectoryStep) (a : Ans) → IsAnswer (wanted_in op step) a → wanted_in op step ≢ want.Fence → step_waiting op step ≤ waiting_of (taken_in op step a)
  keeps_in LoadHead a i other = omega arith
  keeps_in LoadSideHead a i other = omega arith
  keeps_in TakeGuard a i other = omega arith
  keeps_in AskPower a i other = omega arith
  keeps_in LoadRoot a i other = omega arith
  keeps_in (LoadEntry place) (Value n) i other = omega arith
  keeps_in (LoadEntry place) a i other = absurd i
  keeps_in (Store stage) a i other =
      let q = asked op.rounds (next_store op stage) a i in
      subst (λ (x : Ans). rounds_waiting op.rounds ≤ waiting_of (taken_in op (Store stage) x)) (sym q.passed)
      (event_keeps op.rounds (next_store op stage) q.few (waiting_of (passed op stage)) (flush_waiting op stage) other)
  keeps_in GiveGuard a i other = omega arith
  keeps_in (Ended end) a i other = omega arith

  ends_in : (step : DirectoryStep) → wanted_in op step ≡ want.Done → step_waiting op step ≡ 0
  ends_in LoadHead e = refl
  ends_in LoadSideHead e = refl
  ends_in TakeGuard e = refl
  ends_in AskPower e = refl
  ends_in LoadRoot e = refl
  ends_in (LoadEntry place) e = absurd (cc)
  ends_in (Store stage) e = event_ends op.rounds (next_store op stage) e
  ends_in GiveGuard e = refl
  ends_in (Ended end) e = refl

module _ (op : DirectoryOp) where
  most_in : (step : DirectoryStep) → step_waiting op step ≤ most_lines
  most_in LoadHead = omega arith
  most_in LoadSideHead = omega arith
  most_in TakeGuard = omega arith
  most_in AskPower = omega arith
  most_in LoadRoot = omega arith
  most_in (LoadEntry place) = most_wait op.rounds
  most_in (Store stage) = most_wait op.rounds
  most_in GiveGuard = omega arith
  most_in (Ended end) = omega arith

-- FLUSHES ARE COUNTED
pub flushes_few : FlushesFew directory_part
flushes_few = record {
  most = λ op. most_in op op.step;
  flushes = λ op a l i e. flushes_in op op.step a l i e;
  keeps = λ op a i other. keeps_in op op.step a i other;
  ends = λ op e. ends_in op op.step e;
}
