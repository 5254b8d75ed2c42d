-- The laws of a part that speak of a displacement alone: its one store, its end, and the lines that wait.
use Rattle.std.proofs.Common.{◌≡◌, ℕ, ◌+◌, ◌≤◌, Bool, true, false, Some, [], refl, ap, subst, arith}
use Rattle.std.specs.Prelude.{nat_lt, if◌then◌else◌}
use Rattle.op_core.specs.declared.want.Want.TheVariants as want
use Rattle.op_core.specs.declared.want.Ans.{Ans}
use Rattle.op_core.specs.declared.want.Ans.TheVariants.{Passed, Drawn}
use Rattle.op_core.specs.Answers.{IsAnswer}
use Rattle.map_model.specs.declared.call.Call.{Call}
use Rattle.map_model.specs.declared.entry.Reply.{Reply}
use Rattle.map_model.specs.declared.entry.Reply.TheVariants as reply
use Rattle.map_model.specs.Changes.{call_of}
use Rattle.world.specs.Ground.{Ground}
use Rattle.world.specs.Views.{View, Has}
use Rattle.world.specs.Wants.{answer_to}
use Rattle.world.specs.Pairs.{IsPublishingKind}
use Rattle.world.specs.Attempts.{HoldsOnly, EntersReply}
use Rattle.part.specs.Outcomes.{IsDone, replied, reply_of}
use Rattle.phase.specs.declared.make.Make.{Make}
use Rattle.phase.specs.declared.make.Make.TheVariants as make
use Rattle.phase.specs.declared.make.Made.TheVariants as made
use Rattle.phase.specs.declared.held.Held.{Held}
use Rattle.phase.specs.declared.kept.Kept.{Kept}
use Rattle.phase.specs.Helds.{give_next, given}
use Rattle.phase.specs.Making.{waiting_of, most_waiting}
use Rattle.phase.proofs.Wanting.{no, HasFlush, HasFence, take_no_flush, give_no_flush, few_waiting, Cuts, take_on, give_on, plain_take, plain_give}
use Rattle.phase.proofs.locks.Giving.{give_stands}
use Rattle.phase.proofs.locks.Choosing.{by_step}
use Rattle.phase.proofs.Handing.{done_is, none_has, one_has, done_then}
use Rattle.move_op.specs.declared.step.MoveEnd.{MoveEnd}
use Rattle.move_op.specs.declared.step.MoveEnd.TheVariants as ends
use Rattle.phase.specs.declared.ending.Ending.{Ending}
use Rattle.phase.specs.declared.ending.Ending.TheVariants as ending
use Rattle.move_op.specs.declared.step.Shift.{Shift}
use Rattle.move_op.specs.declared.step.Leg.{Leg}
use Rattle.move_op.specs.declared.step.Leg.TheVariants.{Copy, Clear, Insert}
use Rattle.move_op.specs.declared.step.MoveStep.{MoveStep}
use Rattle.move_op.specs.declared.step.MoveStep.TheVariants.{Lock, Fill, CountSpent, Draw, Give, Ended}
use Rattle.move_op.specs.declared.step.MoveStep.TheVariants as step
use Rattle.move_op.specs.Shifts.{target_of, record_of}
use Rattle.move_op.specs.Steps.{end_of, giving, made_to, lock_of, wanted_in, next_in, is_without_move}
use Rattle.move_op.specs.Left.{waiting_at, IsPublished, HasMadeAt}
use Rattle.move_op.specs.Fits.{kind_at, planned_at, SuitsStep, outcome_of, outcome_at}
use Rattle.move_op.proofs.Over.{over_done}

-- ---- the one store
module _ (kept : Kept) where
  abbrev Makes : MoveStep → ℕ → Type 0
  Makes s n = IsPublishingKind (kind_at kept s) → (HasMadeAt s → ⊥) × HasMadeAt (next_in kept s (answer_to (wanted_in kept s) n)).step

  make_makes : (shift : Shift) (leg : Leg) (m : Make) (n : ℕ) → Makes (step.Make shift leg m) n
  make_makes shift leg make.Key n p = absurd p
  make_makes shift leg make.Value n p = absurd p
  make_makes shift leg make.Fingers n p = absurd p
  make_makes shift leg make.FlushFingers n p = absurd p
  make_makes shift leg make.FlushRecord n p = absurd p
  make_makes shift leg make.FenceRecord n p = absurd p
  make_makes shift Copy make.Publish n p = absurd p
  make_makes shift Clear make.Publish n p = absurd p
  make_makes shift Insert make.Publish n p = ((λ was. was), tt)
  make_makes shift leg make.FlushPublished n p = absurd p
  make_makes shift leg make.FencePublished n p = absurd p

  pub makes_in : (s : MoveStep) (n : ℕ) → Makes s n
  makes_in (Lock d t) n p = absurd (plain_take (lock_of kept (target_of d)) t p)
  makes_in (Fill d load) n p = absurd p
  makes_in CountSpent n p = absurd p
  makes_in (step.Make shift leg m) n p = make_makes shift leg m n p
  makes_in (Draw shift) n p = absurd p
  makes_in (Give held end) n p = absurd (plain_give kept.site kept.hash kept.segment (give_next held) p)
  makes_in (Ended end) n p = absurd p

  -- ---- and it stays made
  giving_made : (held : Held) (answer : Reply) (place : ℕ) → IsDone answer → HasMadeAt (giving held (ending.Replied answer place))
  giving_made held answer place d = by_step HasMadeAt held (Give held (ending.Replied answer place)) (Ended (end_of (ending.Replied answer place))) d d

  make_stays : (shift : Shift) (leg : Leg) (m : Make) (a : Ans) → IsPublished leg m → HasMadeAt (next_in kept (step.Make shift leg m) a).step
  make_stays shift Insert make.FlushPublished Passed d = tt
  make_stays shift Insert make.FencePublished Passed d = tt
  make_stays shift Insert make.FlushPublished a d = tt
  make_stays shift Insert make.FencePublished a d = tt
  make_stays shift leg m a d = absurd d

  end_stays : (end : Ending) (held : Held) (a : Ans) → HasMadeAt (Give held end) → HasMadeAt (next_in kept (Give held end) a).step
  end_stays (ending.Replied answer place) held Passed d = giving_made (given held) answer place d
  end_stays (ending.Replied answer place) held a d = d
  end_stays (ending.Again why) held a d = absurd d

  pub stays_in : (s : MoveStep) (a : Ans) → HasMadeAt s → HasMadeAt (next_in kept s a).step
  stays_in (step.Make shift leg m) a d = make_stays shift leg m a d
  stays_in (Draw shift) (Drawn n) d = giving_made kept.held reply.Done n tt
  stays_in (Draw shift) a d = tt
  stays_in (Give held end) a d = end_stays end held a d
  stays_in (Ended end) a d = d
  stays_in s a d = absurd d

-- and ends as done
end_done : (end : MoveEnd) → HasMadeAt (Ended end) → (place : ℕ) × (outcome_of end ≡ Some (replied reply.Done place))
end_done (ends.Replied answer place) d = (place, ap (λ r. Some (replied r place)) (done_is answer d))
end_done end d = absurd d

pub done_in : (kept : Kept) (s : MoveStep) → HasMadeAt s → wanted_in kept s ≡ want.Done → (place : ℕ) × (outcome_at s ≡ Some (replied reply.Done place))
done_in kept (Ended end) d over = end_done end d
done_in kept (Give held end) d over = done_then end d
done_in kept s d over = absurd (no ((over_done kept s).1 over))

-- ---- ends
end_bare : (site : Ground) (kept : Kept) (v : View) (end : MoveEnd) → SuitsStep site kept (Ended end) v → is_without_move (Ended end) ≡ false → HoldsOnly [] v
end_bare site kept v ends.NoMove suits closed = absurd (let f : true ≡ false = closed in cc)
end_bare site kept v (ends.Replied answer place) suits closed = suits
end_bare site kept v (ends.Again why) suits closed = suits
end_bare site kept v ends.Off suits closed = suits

pub bare_in : (site : Ground) (kept : Kept) (v : View) (s : MoveStep) → SuitsStep site kept s v → wanted_in kept s ≡ want.Done → is_without_move s ≡ false → HoldsOnly [] v
bare_in site kept v (Ended end) suits over closed = end_bare site kept v end suits closed
bare_in site kept v (Give held end) suits over closed = give_stands.ends kept.site kept.hash kept.segment held v suits.locks suits.quiet over
bare_in site kept v s suits over closed = absurd (no ((over_done kept s).1 over))

-- ---- lines that wait
pub few_in : (s : MoveStep) → waiting_at s ≤ most_waiting
few_in (step.Make shift leg m) = few_waiting m
few_in s = omega arith

by_line : (b : Bool) (shift : Shift) (leg : Leg) → 1 ≤ waiting_at (made_to shift leg (if b then made.On make.FenceRecord else made.On make.FlushRecord))
by_line true shift leg = omega arith
by_line false shift leg = omega arith

module _ (kept : Kept) where
  abbrev Waits : MoveStep → Ans → ℕ → Type 0
  Waits s a k = waiting_at s + k ≤ waiting_at (next_in kept s a).step

  make_flush : (shift : Shift) (leg : Leg) (m : Make) (a : Ans) → IsAnswer (wanted_in kept (step.Make shift leg m)) a → HasFlush (wanted_in kept (step.Make shift leg m)) → Waits (step.Make shift leg m) a 1
  make_flush shift leg make.FlushFingers Passed i f = by_line (nat_lt (record_of shift leg).slot 2) shift leg
  make_flush shift leg make.FlushRecord Passed i f = omega arith
  make_flush shift leg make.FlushPublished Passed i f = omega arith
  make_flush shift leg make.FlushFingers a i f = absurd i
  make_flush shift leg make.FlushRecord a i f = absurd i
  make_flush shift leg make.FlushPublished a i f = absurd i
  make_flush shift leg m a i f = absurd f

  pub flush_in : (s : MoveStep) (a : Ans) → IsAnswer (wanted_in kept s) a → HasFlush (wanted_in kept s) → Waits s a 1
  flush_in (Lock d t) a i f = absurd (take_no_flush (lock_of kept (target_of d)) t f)
  flush_in (Fill d load) a i f = absurd f
  flush_in CountSpent a i f = absurd f
  flush_in (step.Make shift leg m) a i f = make_flush shift leg m a i f
  flush_in (Draw shift) a i f = absurd f
  flush_in (Give held end) a i f = absurd (give_no_flush kept.site kept.hash kept.segment (give_next held) f)
  flush_in (Ended end) a i f = absurd f

  make_keeps : (shift : Shift) (leg : Leg) (m : Make) (a : Ans) → IsAnswer (wanted_in kept (step.Make shift leg m)) a → (HasFence (wanted_in kept (step.Make shift leg m)) → ⊥)
      → waiting_of m ≤ waiting_at (next_in kept (step.Make shift leg m) a).step
  make_keeps shift leg make.FenceRecord a i f = absurd (f tt)
  make_keeps shift leg make.FencePublished a i f = absurd (f tt)
  make_keeps shift leg make.FlushRecord Passed i f = omega arith
  make_keeps shift leg make.FlushRecord a i f = absurd i
  make_keeps shift leg m a i f = omega arith

  pub keeps_in : (s : MoveStep) (a : Ans) → IsAnswer (wanted_in kept s) a → (HasFence (wanted_in kept s) → ⊥) → waiting_at s ≤ waiting_at (next_in kept s a).step
  keeps_in (step.Make shift leg m) a i f = make_keeps shift leg m a i f
  keeps_in s a i f = omega arith

  pub none_waits : (s : MoveStep) → wanted_in kept s ≡ want.Done → waiting_at s ≡ 0
  none_waits (step.Make shift leg m) over = absurd (no ((over_done kept (step.Make shift leg m)).1 over))
  none_waits s over = refl

-- ---- the power
module _ (kept : Kept) where
  make_on : (shift : Shift) (leg : Leg) (m : Make) → Cuts (kind_at kept (step.Make shift leg m)) → ⊥
  make_on shift Copy make.Publish p = p
  make_on shift Clear make.Publish p = p
  make_on shift Insert make.Publish p = p
  make_on shift leg make.Key p = p
  make_on shift leg make.Value p = p
  make_on shift leg make.Fingers p = p
  make_on shift leg make.FlushFingers p = p
  make_on shift leg make.FlushRecord p = p
  make_on shift leg make.FenceRecord p = p
  make_on shift leg make.FlushPublished p = p
  make_on shift leg make.FencePublished p = p

  pub on_in : (s : MoveStep) → Cuts (kind_at kept s) → ⊥
  on_in (Lock d t) p = take_on (lock_of kept (target_of d)) t p
  on_in (Fill d load) p = p
  on_in CountSpent p = p
  on_in (step.Make shift leg m) p = make_on shift leg m p
  on_in (Draw shift) p = p
  on_in (Give held end) p = give_on kept.site kept.hash kept.segment (give_next held) p
  on_in (Ended end) p = p

-- ---- what is planned
module _ (site : Ground) (kept : Kept) (before v : View) (x : Call) where
  make_planned : (shift : Shift) (leg : Leg) (m : Make) → Has x (planned_at kept shift leg m) → x ≡ call_of kept.change
  make_planned shift Insert make.FlushPublished h = one_has (call_of kept.change) x h
  make_planned shift Insert make.FencePublished h = one_has (call_of kept.change) x h
  make_planned shift leg m h = absurd h

  end_planned : (end : MoveEnd) → SuitsStep site kept (Ended end) v → Has x v.planned → ⊥
  end_planned ends.NoMove suits h = none_has v.planned x suits.0.quiet.planned h
  end_planned (ends.Replied answer place) suits h = none_has v.planned x suits.planned h
  end_planned (ends.Again why) suits h = none_has v.planned x suits.planned h
  end_planned ends.Off suits h = none_has v.planned x suits.planned h

  pub planned_in : (s : MoveStep) → SuitsStep site kept s v → EntersReply (call_of kept.change) (reply_of (outcome_at s)) before v → Has x v.planned → (x ≡ call_of kept.change) × (v.own ≡ before.own)
  planned_in (Lock d t) suits enters h = absurd (none_has v.planned x suits.0.quiet.planned h)
  planned_in (Fill d load) suits enters h = absurd (none_has v.planned x suits.0.quiet.planned h)
  planned_in CountSpent suits enters h = absurd (none_has v.planned x suits.0.quiet.planned h)
  planned_in (step.Make shift leg m) suits enters h = (make_planned shift leg m (subst (λ calls. Has x calls) suits.planned h), enters.own)
  planned_in (Draw shift) suits enters h = (one_has (call_of kept.change) x (subst (λ calls. Has x calls) suits.planned h), enters.own)
  planned_in (Give held end) suits enters h = absurd (none_has v.planned x suits.quiet.planned h)
  planned_in (Ended end) suits enters h = absurd (end_planned end suits h)
