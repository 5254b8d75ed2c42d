-- Flushes are counted among the lines that wait for a fence.
use Rattle.std.proofs.Common.{◌≡◌, ◌≢◌, ℕ, ◌+◌, ◌≤◌, inl, inr, cond, Option, None, Some, refl, sym, ap, ◌∙◌, subst, arith}
use Rattle.std.specs.Prelude.{nat_le, nat_lt}
use Rattle.std.proofs.lemmas.Bool.{cases_Bool}
use Rattle.op_core.specs.declared.want.Want.{Want}
use Rattle.op_core.specs.declared.want.Want.TheVariants as want
use Rattle.op_core.specs.declared.want.Ans.{Ans}
use Rattle.op_core.specs.declared.want.Ans.TheVariants.{Value}
use Rattle.op_core.specs.Answers.{IsAnswer}
use Rattle.segment_head.specs.HeadWord.{depth_in}
use Rattle.whole_segment.specs.Rounds.{most_lines}
use Rattle.rounds.specs.declared.rounds.Rounds.{Rounds}
use Rattle.rounds.specs.Steps.{rounds_wanted, rounds_taken}
use Rattle.rounds.specs.Events.{IsFlush}
use Rattle.rounds.specs.Waiting.{rounds_waiting}
use Rattle.rounds.proofs.Events.{cases_wanted}
use Rattle.rounds.proofs.Wanted.{flushed_wants, asked}
use Rattle.rounds.proofs.Waiting.{most_wait, none_waits, event_ends, event_flushes, event_keeps}
use Rattle.redirect_op.specs.declared.step.RedirectStep.{RedirectStep}
use Rattle.redirect_op.specs.declared.step.RedirectStep.TheVariants.{Guard, Root, Entry, Head, Store, Settle, Fence, GiveDirectory, Give, Ended}
use Rattle.redirect_op.specs.declared.op.RedirectOp.{RedirectOp}
use Rattle.redirect_op.specs.Steps.{last_entry, store_to, go, settle_by, behind, met_head, stored_by, with_rounds, stored, settled_to, settled, wanted_in, next_in}
use Rattle.redirect_op.specs.Left.{waiting_at, waiting_of}

-- ---- behind an entry as many lines wait
settle_same : (op : RedirectOp) → waiting_at op (settle_by (rounds_wanted op.rounds None)) ≡ rounds_waiting op.rounds
settle_same op = elim (cases_wanted (rounds_wanted op.rounds None)) [
  | inl none ↦ subst (λ (o : Option Want). waiting_at op (settle_by o) ≡ rounds_waiting op.rounds) (sym none) (sym (none_waits op.rounds None none))
  | inr some ↦ subst (λ (o : Option Want). waiting_at op (settle_by o) ≡ rounds_waiting op.rounds) (sym some.1) refl
]

behind_same : (op : RedirectOp) (index : ℕ) → waiting_of (behind op index) ≡ rounds_waiting op.rounds
behind_same op index = elim (cases_Bool (nat_lt index (last_entry op))) [
  | inl low ↦ subst (λ b. waiting_at op (cond b (Entry (index + 1)) (settle_by (rounds_wanted op.rounds None))) ≡ rounds_waiting op.rounds) (sym low) refl
  | inr over ↦ subst (λ b. waiting_at op (cond b (Entry (index + 1)) (settle_by (rounds_wanted op.rounds None))) ≡ rounds_waiting op.rounds) (sym over) (settle_same op)
]

head_same : (op : RedirectOp) (index n : ℕ) → waiting_of (met_head op index n) ≡ rounds_waiting op.rounds
head_same op index n = elim (cases_Bool (nat_le (depth_in n) (depth_in op.guarded.head))) [
  | inl up ↦ subst (λ b. waiting_of (cond b (go op (Store index)) (behind op index)) ≡ rounds_waiting op.rounds) (sym up) refl
  | inr deeper ↦ subst (λ b. waiting_of (cond b (go op (Store index)) (behind op index)) ≡ rounds_waiting op.rounds) (sym deeper) (behind_same op index)
]

-- ---- an event of the rounds
module _ (op : RedirectOp) where
  store_flush : (index : ℕ) → op.step ≡ Store index → (w : Want) → IsFlush op.rounds (Some (store_to op index)) w → waiting_of (stored op index) ≡ rounds_waiting (rounds_taken op.rounds (Some (store_to op index)))
  store_flush index at w f =
      let later : RedirectOp = with_rounds op (Some (store_to op index)) in
      subst (λ b. waiting_of (stored_by b later index) ≡ rounds_waiting later.rounds) (sym f.stores) (subst (λ t. waiting_at later t ≡ rounds_waiting later.rounds) (sym at) refl)

  settle_flush : (w : Want) → IsFlush op.rounds None w → waiting_of (settled op) ≡ rounds_waiting (rounds_taken op.rounds None)
  settle_flush w f =
      let later : RedirectOp = with_rounds op None in
      let more = flushed_wants op.rounds.round f.number None in
      let wants : rounds_wanted later.rounds None ≡ Some more.0 = ap (λ (r : Rounds). rounds_wanted r None) f.leaves ∙ more.1 in
      subst (λ (o : Option Want). waiting_at later (settled_to o) ≡ rounds_waiting later.rounds) (sym wants) refl

  pub flushes_at : (s : RedirectStep) (a : Ans) (l : ℕ) → op.step ≡ s → IsAnswer (wanted_in op s) a → wanted_in op s ≡ want.Flush l → waiting_at op s + 1 ≤ waiting_of (next_in op s a)
  flushes_at Guard a l at i e = absurd (cc)
  flushes_at Root a l at i e = absurd (cc)
  flushes_at (Entry index) a l at i e = absurd (cc)
  flushes_at (Head index slot) a l at i e = absurd (cc)
  flushes_at (Store index) a l at i e =
      let next : Option (ℕ × ℕ) = Some (store_to op index) in
      let q = asked op.rounds next a i in
      subst (λ (x : Ans). rounds_waiting op.rounds + 1 ≤ waiting_of (next_in op (Store index) x)) (sym q.passed) (event_flushes op.rounds next q.few (waiting_of (stored op index)) (store_flush index at) l e)
  flushes_at Settle a l at i e =
      let q = asked op.rounds None a i in
      subst (λ (x : Ans). rounds_waiting op.rounds + 1 ≤ waiting_of (next_in op Settle x)) (sym q.passed) (event_flushes op.rounds None q.few (waiting_of (settled op)) settle_flush l e)
  flushes_at Fence a l at i e = absurd (cc)
  flushes_at GiveDirectory a l at i e = absurd (cc)
  flushes_at (Give end) a l at i e = absurd (cc)
  flushes_at (Ended end) a l at i e = absurd (cc)

  pub keeps_at : (s : RedirectStep) (a : Ans) → op.step ≡ s → IsAnswer (wanted_in op s) a → wanted_in op s ≢ want.Fence → waiting_at op s ≤ waiting_of (next_in op s a)
  keeps_at Guard a at i other = omega arith
  keeps_at Root a at i other = omega arith
  keeps_at (Entry index) (Value n) at i other = omega arith
  keeps_at (Entry index) a at i other = absurd i
  keeps_at (Head index slot) (Value n) at i other = let same = head_same op index n in omega (arith, same)
  keeps_at (Head index slot) a at i other = absurd i
  keeps_at (Store index) a at i other =
      let next : Option (ℕ × ℕ) = Some (store_to op index) in
      let q = asked op.rounds next a i in
      subst (λ (x : Ans). rounds_waiting op.rounds ≤ waiting_of (next_in op (Store index) x)) (sym q.passed) (event_keeps op.rounds next q.few (waiting_of (stored op index)) (store_flush index at) other)
  keeps_at Settle a at i other =
      let q = asked op.rounds None a i in
      subst (λ (x : Ans). rounds_waiting op.rounds ≤ waiting_of (next_in op Settle x)) (sym q.passed) (event_keeps op.rounds None q.few (waiting_of (settled op)) settle_flush other)
  keeps_at Fence a at i other = omega arith
  keeps_at GiveDirectory a at i other = omega arith
  keeps_at (Give end) a at i other = omega arith
  keeps_at (Ended end) a at i other = omega arith

  pub waits_none : (s : RedirectStep) → wanted_in op s ≡ want.Done → waiting_at op s ≡ 0
  waits_none Guard e = refl
  waits_none Root e = refl
  waits_none (Entry index) e = absurd (cc)
  waits_none (Head index slot) e = absurd (cc)
  waits_none (Store index) e = event_ends op.rounds (Some (store_to op index)) e
  waits_none Settle e = event_ends op.rounds None e
  waits_none Fence e = refl
  waits_none GiveDirectory e = refl
  waits_none (Give end) e = refl
  waits_none (Ended end) e = refl

  pub waits_few : (s : RedirectStep) → waiting_at op s ≤ most_lines
  waits_few Guard = omega arith
  waits_few Root = omega arith
  waits_few (Entry index) = most_wait op.rounds
  waits_few (Head index slot) = most_wait op.rounds
  waits_few (Store index) = most_wait op.rounds
  waits_few Settle = most_wait op.rounds
  waits_few Fence = omega arith
  waits_few GiveDirectory = omega arith
  waits_few (Give end) = omega arith
  waits_few (Ended end) = omega arith
