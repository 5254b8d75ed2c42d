-- The one store that makes the insert, the lines that wait, and the ends.
use Rattle.std.proofs.Common.{◌≡◌, ℕ, ◌+◌, ◌≤◌, Bool, true, false, Some, [], refl, ap, arith}
use Rattle.std.specs.Prelude.{nat_lt, if◌then◌else◌}
use Rattle.op_core.specs.declared.want.Want.TheVariants as want
use Rattle.op_core.specs.declared.want.Ans.{Ans}
use Rattle.op_core.specs.declared.want.Ans.TheVariants.{Drawn, Passed}
use Rattle.op_core.specs.Answers.{IsAnswer}
use Rattle.map_model.specs.declared.entry.Reply.{Reply}
use Rattle.map_model.specs.declared.entry.Reply.TheVariants as reply
use Rattle.world.specs.Ground.{Ground}
use Rattle.world.specs.Views.{View}
use Rattle.world.specs.Wants.{answer_to}
use Rattle.world.specs.Pairs.{IsPublishingKind}
use Rattle.world.specs.Attempts.{HoldsOnly}
use Rattle.part.specs.Outcomes.{IsDone, replied}
use Rattle.phase.specs.declared.make.Make.{Make}
use Rattle.phase.specs.declared.make.Make.TheVariants as make
use Rattle.phase.specs.declared.make.Made.TheVariants as made
use Rattle.phase.specs.declared.held.Held.{Held}
use Rattle.phase.specs.declared.kept.Kept.{Kept}
use Rattle.phase.specs.Helds.{give_next, given}
use Rattle.phase.specs.Making.{waiting_of, most_waiting, IsPublished}
use Rattle.phase.proofs.locks.Giving.{give_stands}
use Rattle.phase.proofs.Handing.{done_is, done_then}
use Rattle.phase.proofs.Wanting.{few_waiting, no, HasFlush, HasFence, take_no_flush, give_no_flush, IsPlain, plain_take, plain_give}
use Rattle.stash_op.specs.declared.step.NoteWords.{NoteWords}
use Rattle.stash_op.specs.declared.step.Seen.{Seen}
use Rattle.phase.specs.declared.ending.Ending.{Ending}
use Rattle.phase.specs.declared.ending.Ending.TheVariants as ending
use Rattle.phase.specs.declared.note.NoteWord.{NoteWord}
use Rattle.phase.specs.declared.note.NoteWord.TheVariants.{Mark, Fingers}
use Rattle.phase.proofs.locks.Choosing.{by_both, by_step}
use Rattle.stash_op.specs.declared.step.StashEnd.{StashEnd}
use Rattle.stash_op.specs.declared.step.StashEnd.TheVariants as ends
use Rattle.stash_op.specs.declared.step.StashStep.{StashStep}
use Rattle.stash_op.specs.declared.step.StashStep.TheVariants.{Lock, Fill, Note, Draw, CountSpent, Give, Ended}
use Rattle.stash_op.specs.declared.step.StashStep.TheVariants as step
use Rattle.stash_op.specs.declared.step.Stage.{Stage}
use Rattle.stash_op.specs.Search.{place_of, note_place, noted, has_finger}
use Rattle.stash_op.specs.Steps.{go, end_of, giving, made_to, lock_of, note_wanted, wanted_in, next_in, needs_split}
use Rattle.stash_op.specs.Left.{waiting_at, HasMadeAt}
use Rattle.stash_op.specs.Fits.{mark_kind, note_kind, kind_at, SuitsStep, outcome_of, outcome_at}
use Rattle.stash_op.proofs.Over.{over_done}

-- ---- the one store
module _ (kept : Kept) (seen : Seen) where
  plain_mark : (b : Bool) (i x : ℕ) → IsPlain (mark_kind kept seen b i x)
  plain_mark true i x p = p
  plain_mark false i x p = p

  plain_note : (part : NoteWord) (n : NoteWords) → IsPlain (note_kind kept seen part n)
  plain_note Mark n p = plain_mark (has_finger seen n) (lock_of kept (note_place n.bucket) + 1) n.mark p
  plain_note Fingers n p = p

  abbrev Makes : StashStep → ℕ → Type 0
  Makes s n = IsPublishingKind (kind_at kept seen s) → (HasMadeAt s → ⊥) × HasMadeAt (next_in kept seen s (answer_to (wanted_in kept seen s) n)).step

  make_makes : (m : Make) (n : ℕ) → Makes (step.Make m) n
  make_makes make.Key n p = absurd p
  make_makes make.Value n p = absurd p
  make_makes make.Fingers n p = absurd p
  make_makes make.FlushFingers n p = absurd p
  make_makes make.FlushRecord n p = absurd p
  make_makes make.FenceRecord n p = absurd p
  make_makes make.Publish n p = ((λ was. was), tt)
  make_makes make.FlushPublished n p = absurd p
  make_makes make.FencePublished n p = absurd p

  pub makes_in : (s : StashStep) (n : ℕ) → Makes s n
  makes_in (Lock b t) n p = absurd (plain_take (lock_of kept (place_of b)) t p)
  makes_in (Fill b load) n p = absurd p
  makes_in (step.Make m) n p = make_makes m n p
  makes_in (Note part) n p = absurd (plain_note part (noted kept.hash seen) p)
  makes_in Draw n p = absurd p
  makes_in CountSpent n p = absurd p
  makes_in (Give held end) n p = absurd (plain_give kept.site kept.hash kept.segment (give_next held) p)
  makes_in (Ended end) n p = absurd p

  -- ---- and it stays made
  giving_made : (held : Held) (answer : Reply) (place : ℕ) → IsDone answer → HasMadeAt (giving held (ending.Replied answer place))
  giving_made held answer place d = by_step HasMadeAt held (Give held (ending.Replied answer place)) (Ended (end_of (ending.Replied answer place))) d d

  noted_made : (part : NoteWord) → HasMadeAt (next_in kept seen (Note part) Passed).step
  noted_made Mark = by_both (λ (s : Stage). HasMadeAt s.step) (has_finger seen (noted kept.hash seen)) (go seen (Note Fingers)) (go seen Draw) tt tt
  noted_made Fingers = tt

  make_stays : (m : Make) (a : Ans) → IsPublished m → HasMadeAt (next_in kept seen (step.Make m) a).step
  make_stays make.FlushPublished Passed d = tt
  make_stays make.FencePublished Passed d = tt
  make_stays make.FlushPublished a d = tt
  make_stays make.FencePublished a d = tt
  make_stays m a d = absurd d

  end_stays : (end : Ending) (held : Held) (a : Ans) → HasMadeAt (Give held end) → HasMadeAt (next_in kept seen (Give held end) a).step
  end_stays (ending.Replied answer place) held Passed d = giving_made (given held) answer place d
  end_stays (ending.Replied answer place) held a d = d
  end_stays (ending.Again why) held a d = absurd d

  pub stays_in : (s : StashStep) (a : Ans) → HasMadeAt s → HasMadeAt (next_in kept seen s a).step
  stays_in (step.Make m) a d = make_stays m a d
  stays_in (Note part) Passed d = noted_made part
  stays_in (Note part) a d = tt
  stays_in Draw (Drawn n) d = giving_made seen.held reply.Done n tt
  stays_in Draw a d = tt
  stays_in (Give held end) a d = end_stays end held a d
  stays_in (Ended end) a d = d
  stays_in s a d = absurd d

-- and ends as done
end_done : (end : StashEnd) → HasMadeAt (Ended end) → (place : ℕ) × (outcome_of end ≡ Some (replied reply.Done place))
end_done (ends.Replied answer place) d = (place, ap (λ r. Some (replied r place)) (done_is answer d))
end_done end d = absurd d

pub done_in : (kept : Kept) (seen : Seen) (s : StashStep) → HasMadeAt s → wanted_in kept seen s ≡ want.Done → (place : ℕ) × (outcome_at s ≡ Some (replied reply.Done place))
done_in kept seen (Ended end) d over = end_done end d
done_in kept seen (Give held end) d over = done_then end d
done_in kept seen s d over = absurd (no ((over_done kept seen s).1 over))

-- ---- ends
end_bare : (site : Ground) (kept : Kept) (seen : Seen) (v : View) (end : StashEnd) → SuitsStep site kept seen (Ended end) v → needs_split (Ended end) ≡ false → HoldsOnly [] v
end_bare site kept seen v (ends.NeedSplit segment) suits closed = absurd (let f : true ≡ false = closed in cc)
end_bare site kept seen v (ends.Replied answer place) suits closed = suits
end_bare site kept seen v (ends.Again why) suits closed = suits
end_bare site kept seen v ends.Off suits closed = suits

pub bare_in : (site : Ground) (kept : Kept) (seen : Seen) (v : View) (s : StashStep) → SuitsStep site kept seen s v → wanted_in kept seen s ≡ want.Done → needs_split s ≡ false → HoldsOnly [] v
bare_in site kept seen v (Ended end) suits over closed = end_bare site kept seen v end suits closed
bare_in site kept seen v (Give held end) suits over closed = give_stands.ends kept.site kept.hash kept.segment held v suits.locks suits.quiet over
bare_in site kept seen v s suits over closed = absurd (no ((over_done kept seen s).1 over))

-- ---- lines that wait
pub few_in : (s : StashStep) → waiting_at s ≤ most_waiting
few_in (step.Make m) = few_waiting m
few_in s = omega arith

by_line : (b : Bool) (seen : Seen) → 1 ≤ waiting_at (made_to seen (if b then made.On make.FenceRecord else made.On make.FlushRecord)).step
by_line true seen = omega arith
by_line false seen = omega arith

note_no_flush : (kept : Kept) (part : NoteWord) (n : NoteWords) → HasFlush (note_wanted kept part n) → ⊥
note_no_flush kept Mark n p = p
note_no_flush kept Fingers n p = p

module _ (kept : Kept) (seen : Seen) where
  abbrev Waits : StashStep → Ans → ℕ → Type 0
  Waits s a k = waiting_at s + k ≤ waiting_at (next_in kept seen s a).step

  make_flush : (m : Make) (a : Ans) → IsAnswer (wanted_in kept seen (step.Make m)) a → HasFlush (wanted_in kept seen (step.Make m)) → Waits (step.Make m) a 1
  make_flush make.FlushFingers Passed i f = by_line (nat_lt seen.written.slot 2) seen
  make_flush make.FlushRecord Passed i f = omega arith
  make_flush make.FlushPublished Passed i f = omega arith
  make_flush make.FlushFingers a i f = absurd i
  make_flush make.FlushRecord a i f = absurd i
  make_flush make.FlushPublished a i f = absurd i
  make_flush m a i f = absurd f

  pub flush_in : (s : StashStep) (a : Ans) → IsAnswer (wanted_in kept seen s) a → HasFlush (wanted_in kept seen s) → Waits s a 1
  flush_in (Lock b t) a i f = absurd (take_no_flush (lock_of kept (place_of b)) t f)
  flush_in (Fill b load) a i f = absurd f
  flush_in (step.Make m) a i f = make_flush m a i f
  flush_in (Note part) a i f = absurd (note_no_flush kept part (noted kept.hash seen) f)
  flush_in Draw a i f = absurd f
  flush_in CountSpent a i f = absurd f
  flush_in (Give held end) a i f = absurd (give_no_flush kept.site kept.hash kept.segment (give_next held) f)
  flush_in (Ended end) a i f = absurd f

  make_keeps : (m : Make) (a : Ans) → IsAnswer (wanted_in kept seen (step.Make m)) a → (HasFence (wanted_in kept seen (step.Make m)) → ⊥) → waiting_of m ≤ waiting_at (next_in kept seen (step.Make m) a).step
  make_keeps make.FenceRecord a i f = absurd (f tt)
  make_keeps make.FencePublished a i f = absurd (f tt)
  make_keeps make.FlushRecord Passed i f = omega arith
  make_keeps make.FlushRecord a i f = absurd i
  make_keeps m a i f = omega arith

  pub keeps_in : (s : StashStep) (a : Ans) → IsAnswer (wanted_in kept seen s) a → (HasFence (wanted_in kept seen s) → ⊥) → waiting_at s ≤ waiting_at (next_in kept seen s a).step
  keeps_in (step.Make m) a i f = make_keeps m a i f
  keeps_in s a i f = omega arith

  pub none_waits : (s : StashStep) → wanted_in kept seen s ≡ want.Done → waiting_at s ≡ 0
  none_waits (step.Make m) over = absurd (no ((over_done kept seen (step.Make m)).1 over))
  none_waits s over = refl
