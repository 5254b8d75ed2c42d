-- How many lines are flushed and not fenced.
use Rattle.std.proofs.Common.{◌≡◌, ◌≢◌, ℕ, ◌+◌, ◌*◌, ◌≤◌, Bool, true, false, Option, None, Some, refl, sym, ap, ◌∙◌, arith}
use Rattle.std.specs.Prelude.{if◌then◌else◌, nat_lt}
use Rattle.op_core.specs.declared.want.Want.{Want}
use Rattle.op_core.specs.declared.want.Want.TheVariants as wants
use Rattle.op_core.specs.declared.want.Ans.{Ans}
use Rattle.op_core.specs.declared.want.Ans.TheVariants.{Passed}
use Rattle.op_core.specs.Answers.{IsAnswer}
use Rattle.image_layout.specs.Places.{homes}
use Rattle.whole_segment.specs.Rounds.{most_lines}
use Rattle.rounds.specs.declared.rounds.Rounds.{Rounds}
use Rattle.rounds.specs.Steps.{rounds_stores, rounds_wanted, event_wanted, rounds_taken}
use Rattle.rounds.specs.Waiting.{rounds_waiting}
use Rattle.rounds.proofs.Wanted.{IsAsked, asked}
use Rattle.rounds.proofs.Waiting.{most_wait, none_waits, event_ends, event_flushes, event_keeps}
use Rattle.mend_op.specs.declared.stage.Stage.{Stage}
use Rattle.mend_op.specs.declared.stage.Stage.TheVariants as stage
use Rattle.mend_op.specs.declared.op.MendStep.{MendStep}
use Rattle.mend_op.specs.declared.op.MendStep.TheVariants.{Fill, Round, Finish, FinishFlush, FinishFence, Note, Renew, RenewFlush, RenewFence, Give, Ended}
use Rattle.mend_op.specs.declared.op.MendOp.{MendOp}
use Rattle.mend_op.specs.Stages.{place}
use Rattle.mend_op.specs.Steps.{with_stored, prepared, changed_from, due, over, rounding_by, rounded_by, store_wanted, wanted_in, next_in}
use Rattle.mend_op.specs.MendPart.{waiting_at}

abbrev waits : MendOp → ℕ
waits op = waiting_at op.step

pub waits_few : (s : MendStep) → waiting_at s ≤ most_lines
waits_few (Round stage n rounds) = most_wait rounds
waits_few FinishFence = omega arith
waits_few RenewFence = omega arith
waits_few s = omega arith

-- none waits behind the rounds
none_noted : (n : ℕ) (t : Bool) → waiting_at (if t then Note n else Renew) ≡ 0
none_noted n true = refl
none_noted n false = refl

over_waits : (op : MendOp) (stage : Stage) → waits (over stage op) ≡ 0
over_waits op stage.Clear = refl
over_waits op stage.Mend = let p : MendOp = prepared stage.Note op in none_noted (changed_from p stage.Note 0) (nat_lt (changed_from p stage.Note 0) (2 * homes))
over_waits op stage.Note = refl

-- as many wait at the word that comes next as in its rounds
rounding_waits : (op : MendOp) (stage : Stage) (n : ℕ) (rounds : Rounds) → waits (rounding_by (rounds_wanted rounds (due op stage n)) stage n rounds op) ≡ rounds_waiting rounds
rounding_waits op stage n rounds = by (rounds_wanted rounds (due op stage n)) refl
  where
    by : (o : Option Want) → rounds_wanted rounds (due op stage n) ≡ o → waits (rounding_by o stage n rounds op) ≡ rounds_waiting rounds
    by (Some want) is = refl
    by None is = over_waits op stage ∙ sym (none_waits rounds (due op stage n) is)

rounded_waits : (op : MendOp) (stage : Stage) (n : ℕ) (after : Rounds) (t : Bool) → waits (rounded_by t stage n after op) ≡ rounds_waiting after
rounded_waits op stage n after true = let stored : MendOp = with_stored op (place stage n) in rounding_waits stored stage (changed_from stored stage (n + 1)) after
rounded_waits op stage n after false = rounding_waits op stage n after

-- ---- while words are stored in rounds
module _ (op : MendOp) (stage : Stage) (n : ℕ) (rounds : Rounds) (a : Ans) (answer : IsAnswer (event_wanted rounds (due op stage n)) a) where
  abbrev next : Option (ℕ × ℕ)
  next = due op stage n

  q : IsAsked rounds next a
  q = asked rounds next a answer

  passed_waits : waits (next_in op (Round stage n rounds) a) ≡ rounds_waiting (rounds_taken rounds next)
  passed_waits = ap (λ (x : Ans). waits (next_in op (Round stage n rounds) x)) q.passed ∙ rounded_waits op stage n (rounds_taken rounds next) (rounds_stores rounds next)

  round_flushes : (line : ℕ) → event_wanted rounds next ≡ wants.Flush line → rounds_waiting rounds + 1 ≤ waits (next_in op (Round stage n rounds) a)
  round_flushes line flush = event_flushes rounds next q.few (waits (next_in op (Round stage n rounds) a)) (λ w f. passed_waits) line flush

  round_keeps : event_wanted rounds next ≢ wants.Fence → rounds_waiting rounds ≤ waits (next_in op (Round stage n rounds) a)
  round_keeps no_fence = event_keeps rounds next q.few (waits (next_in op (Round stage n rounds) a)) (λ w f. passed_waits) no_fence

-- a store alone flushes nothing
no_flush : (o : Option (ℕ × ℕ)) (line : ℕ) → store_wanted o ≡ wants.Flush line → ⊥
no_flush (Some next) line flush = cc
no_flush None line flush = cc

pub flushes_at : (op : MendOp) (s : MendStep) (a : Ans) (line : ℕ) → IsAnswer (wanted_in op s) a → wanted_in op s ≡ wants.Flush line → waiting_at s + 1 ≤ waits (next_in op s a)
flushes_at op (Fill i) a line is flush = absurd (cc)
flushes_at op (Round stage n rounds) a line is flush = round_flushes op stage n rounds a is line flush
flushes_at op Finish a line is flush = absurd (cc)
flushes_at op FinishFlush Passed line is flush = omega arith
flushes_at op FinishFlush a line is flush = absurd is
flushes_at op FinishFence a line is flush = absurd (cc)
flushes_at op (Note n) a line is flush = absurd (no_flush (due op stage.Note n) line flush)
flushes_at op Renew a line is flush = absurd (cc)
flushes_at op RenewFlush Passed line is flush = omega arith
flushes_at op RenewFlush a line is flush = absurd is
flushes_at op RenewFence a line is flush = absurd (cc)
flushes_at op Give a line is flush = absurd (cc)
flushes_at op Ended a line is flush = absurd (cc)

pub keeps_at : (op : MendOp) (s : MendStep) (a : Ans) → IsAnswer (wanted_in op s) a → wanted_in op s ≢ wants.Fence → waiting_at s ≤ waits (next_in op s a)
keeps_at op (Round stage n rounds) a is no_fence = round_keeps op stage n rounds a is no_fence
keeps_at op FinishFence a is no_fence = absurd (no_fence refl)
keeps_at op RenewFence a is no_fence = absurd (no_fence refl)
keeps_at op s a is no_fence = omega arith

-- ---- at the end none waits
pub ends_waiting : (op : MendOp) (s : MendStep) → wanted_in op s ≡ wants.Done → waiting_at s ≡ 0
ends_waiting op (Round stage n rounds) done = event_ends rounds (due op stage n) done
ends_waiting op FinishFence done = absurd (cc)
ends_waiting op RenewFence done = absurd (cc)
ends_waiting op s done = refl
