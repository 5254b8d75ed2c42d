-- A CHANGE IS A PART of a call.
use Rattle.std.proofs.Common.{◌≡◌, ℕ, ◌+◌, ◌^◌, ◌≤◌, Bool, true, false, Option, None, Some, [], refl, sym, ap, subst, arith}
use Rattle.std.specs.Prelude.{nat_le, nat_lt, if◌then◌else◌}
use Rattle.op_core.specs.declared.want.Want.TheVariants as want
use Rattle.op_core.specs.declared.want.Ans.{Ans}
use Rattle.op_core.specs.declared.want.Ans.TheVariants.{Drawn, Passed}
use Rattle.op_core.specs.Answers.{IsAnswer}
use Rattle.hash_word.specs.Hash.{home_of, index_of}
use Rattle.image_layout.specs.Places.{root_word}
use Rattle.map_model.specs.declared.change.Effect.{Effect}
use Rattle.map_model.specs.declared.change.Effect.TheVariants.{Insert, Update, Remove}
use Rattle.map_model.specs.declared.entry.Reply.{Reply}
use Rattle.map_model.specs.declared.entry.Reply.TheVariants as reply
use Rattle.map_model.specs.Changes.{call_of}
use Rattle.world.specs.declared.site.Site.{Site}
use Rattle.world.specs.Ground.{Ground}
use Rattle.world.specs.Views.{View}
use Rattle.world.specs.Wants.{answer_to}
use Rattle.world.specs.Kinds.{peeks, meets_entry, meets_head, pins, finds_room}
use Rattle.world.specs.Pairs.{IsPublishingKind}
use Rattle.world.specs.Attempts.{HoldsOnly}
use Rattle.part.specs.Outcomes.{IsDone, replied}
use Rattle.phase.specs.declared.walk.Walk.{Walk}
use Rattle.phase.specs.declared.walk.Walk.TheVariants as walk
use Rattle.phase.specs.declared.back.Back.{Back}
use Rattle.phase.specs.declared.back.Back.TheVariants as back
use Rattle.phase.specs.declared.make.Make.{Make}
use Rattle.phase.specs.declared.make.Make.TheVariants as make
use Rattle.phase.specs.declared.make.Made.TheVariants as made
use Rattle.phase.specs.declared.held.Held.{Held}
use Rattle.phase.specs.Helds.{give_next, given}
use Rattle.phase.specs.Walks.{walk_wanted}
use Rattle.phase.specs.Stands.{walk_kind, back_kind}
use Rattle.phase.specs.Making.{waiting_of, most_waiting, IsPublished}
use Rattle.phase.proofs.Wanting.{no, HasFlush, HasFence, take_no_flush, give_no_flush, few_waiting, IsPlain, plain_take, plain_give}
use Rattle.phase.proofs.locks.Giving.{give_stands}
use Rattle.phase.proofs.Handing.{done_is, done_then}
use Rattle.write_op.specs.declared.search.NoteWords.{NoteWords}
use Rattle.write_op.specs.declared.step.Task.{Task}
use Rattle.write_op.specs.declared.step.Spot.{Spot}
use Rattle.write_op.specs.declared.step.Seen.{Seen}
use Rattle.phase.specs.declared.ending.Ending.{Ending}
use Rattle.phase.specs.declared.ending.Ending.TheVariants as ending
use Rattle.phase.specs.declared.note.NoteWord.{NoteWord}
use Rattle.phase.specs.declared.note.NoteWord.TheVariants.{Mark, Fingers}
use Rattle.phase.proofs.locks.Choosing.{by_both, by_step}
use Rattle.write_op.specs.declared.step.WriteEnd.{WriteEnd}
use Rattle.write_op.specs.declared.step.WriteEnd.TheVariants as ends
use Rattle.write_op.specs.declared.step.WriteStep.{WriteStep}
use Rattle.write_op.specs.declared.step.WriteStep.TheVariants.{Way, Lock, Check, Fill, Count, Draw, Unnote, CountSpent, Give, Ended}
use Rattle.write_op.specs.declared.step.WriteStep.TheVariants as step
use Rattle.write_op.specs.declared.step.Stage.{Stage}
use Rattle.write_op.specs.Search.{found, leaves_note, unnoted, has_finger}
use Rattle.write_op.specs.Steps.{go, end_of, giving, answered, made_to, lock_of, note_wanted, wanted_in, next_in, is_without_slot}
use Rattle.write_op.specs.Left.{waiting_at, HasMadeAt}
use Rattle.write_op.specs.Fits.{inserting_kind, changing_kind, deciding_kind, mark_kind, note_kind, kind_at, SuitsStep, outcome_of, outcome_at}
use Rattle.write_op.proofs.Over.{over_done}

-- ---- the one store
module _ (task : Task) (seen : Seen) where
  plain_walk : (w : Walk) → IsPlain (walk_kind task.site task.hash w)
  plain_walk walk.Power p = p
  plain_walk walk.Root p = p
  plain_walk (walk.Entry root) p = by_both IsPlain (nat_le root task.site.geometry.depth) (meets_entry root (index_of root task.hash)) (peeks root_word) (λ q. q) (λ q. q) p
  plain_walk (walk.Head root segment) p = by_both IsPlain (nat_lt segment task.site.geometry.segments) (meets_head segment task.site.version) (peeks root_word) (λ q. q) (λ q. q) p

  plain_back : (at : Back) → IsPlain (back_kind task.site task.hash seen.path (pins seen.path.segment (home_of task.hash)) at)
  plain_back back.Root p = p
  plain_back back.Entry p = p
  plain_back back.Head p = p

  plain_inserting : (there : Option Spot) → IsPlain (inserting_kind task seen there)
  plain_inserting (Some spot) p = p
  plain_inserting None p = p

  plain_changing : (there : Option Spot) → IsPlain (changing_kind task seen there)
  plain_changing (Some spot) p = p
  plain_changing None p = p

  plain_deciding : (d : Effect) → IsPlain (deciding_kind task seen d)
  plain_deciding (Insert value) = plain_inserting (found seen task.change.key)
  plain_deciding (Update value) = plain_changing (found seen task.change.key)
  plain_deciding Remove = plain_changing (found seen task.change.key)

  plain_count : (b : Bool) → IsPlain (if b then finds_room (call_of task.change) else deciding_kind task seen task.change.effect)
  plain_count true p = p
  plain_count false p = plain_deciding task.change.effect p

  plain_mark : (b : Bool) (i x : ℕ) → IsPlain (mark_kind task seen b i x)
  plain_mark true i x p = p
  plain_mark false i x p = p

  plain_note : (part : NoteWord) (n : NoteWords) → IsPlain (note_kind task seen part n)
  plain_note Mark n p = plain_mark (has_finger seen n) (lock_of task seen n.place + 1) n.mark p
  plain_note Fingers n p = p

  abbrev Makes : WriteStep → ℕ → Type 0
  Makes s n = IsPublishingKind (kind_at task seen s n) → (HasMadeAt s → ⊥) × HasMadeAt (next_in task seen s (answer_to (wanted_in task seen s) n)).step

  -- a kind that makes a change is that of the one store
  make_only : (m : Make) (n : ℕ) → IsPublishingKind (kind_at task seen (step.Make m) n) → m ≡ make.Publish
  make_only make.Publish n p = refl
  make_only make.Key n p = absurd p
  make_only make.Value n p = absurd p
  make_only make.Fingers n p = absurd p
  make_only make.FlushFingers n p = absurd p
  make_only make.FlushRecord n p = absurd p
  make_only make.FenceRecord n p = absurd p
  make_only make.FlushPublished n p = absurd p
  make_only make.FencePublished n p = absurd p

  pub only_there : (s : WriteStep) (n : ℕ) → IsPublishingKind (kind_at task seen s n) → s ≡ step.Make make.Publish
  only_there (Way w) n p = absurd (plain_walk w p)
  only_there (Lock place t) n p = absurd (plain_take (lock_of task seen place) t p)
  only_there (Check at) n p = absurd (plain_back at p)
  only_there (Fill place load) n p = absurd p
  only_there Count n p = absurd (plain_count (nat_le (2 ^ 63) n) p)
  only_there (step.Make m) n p = ap (λ (k : Make). step.Make k) (make_only m n p)
  only_there Draw n p = absurd p
  only_there (Unnote part place) n p = absurd (plain_note part (unnoted task.hash seen) p)
  only_there CountSpent n p = absurd p
  only_there (Give held end) n p = absurd (plain_give task.site task.hash seen.path.segment (give_next held) p)
  only_there (Ended end) n p = absurd p

  makes_there : (s : WriteStep) (n : ℕ) → s ≡ step.Make make.Publish → (HasMadeAt s → ⊥) × HasMadeAt (next_in task seen s (answer_to (wanted_in task seen s) n)).step
  makes_there s n e = subst (λ z. (HasMadeAt z → ⊥) × HasMadeAt (next_in task seen z (answer_to (wanted_in task seen z) n)).step) (sym e) ((λ was. was), tt)

  pub makes_in : (s : WriteStep) (n : ℕ) → Makes s n
  makes_in s n p = makes_there s n (only_there s n p)

  -- ---- and it stays made
  giving_made : (held : Held) (answer : Reply) (place : ℕ) → IsDone answer → HasMadeAt (giving held (ending.Replied answer place))
  giving_made held answer place d = by_step HasMadeAt held (Give held (ending.Replied answer place)) (Ended (end_of (ending.Replied answer place))) d d

  unnoted_made : (part : NoteWord) (place : ℕ) → HasMadeAt (next_in task seen (Unnote part place) Passed).step
  unnoted_made Mark place = by_both (λ (s : Stage). HasMadeAt s.step) (has_finger seen (unnoted task.hash seen)) (go seen (Unnote Fingers place)) (answered seen place reply.Done) tt (giving_made seen.held reply.Done place tt)
  unnoted_made Fingers place = giving_made seen.held reply.Done place tt

  make_stays : (m : Make) (a : Ans) → IsPublished m → HasMadeAt (next_in task seen (step.Make m) a).step
  make_stays make.FlushPublished Passed d = tt
  make_stays make.FencePublished Passed d = tt
  make_stays make.FlushPublished a d = tt
  make_stays make.FencePublished a d = tt
  make_stays m a d = absurd d

  end_stays : (end : Ending) (held : Held) (a : Ans) → HasMadeAt (Give held end) → HasMadeAt (next_in task seen (Give held end) a).step
  end_stays (ending.Replied answer place) held Passed d = giving_made (given held) answer place d
  end_stays (ending.Replied answer place) held a d = d
  end_stays (ending.Again why) held a d = absurd d

  pub stays_in : (s : WriteStep) (a : Ans) → HasMadeAt s → HasMadeAt (next_in task seen s a).step
  stays_in (step.Make m) a d = make_stays m a d
  stays_in Draw (Drawn n) d = by_both (λ (s : Stage). HasMadeAt s.step) (leaves_note task.change.effect seen.place) (go seen (Unnote Mark n)) (answered seen n reply.Done) tt (giving_made seen.held reply.Done n tt)
  stays_in Draw a d = tt
  stays_in (Unnote part place) Passed d = unnoted_made part place
  stays_in (Unnote part place) a d = tt
  stays_in (Give held end) a d = end_stays end held a d
  stays_in (Ended end) a d = d
  stays_in s a d = absurd d

-- and ends as done
end_done : (end : WriteEnd) → HasMadeAt (Ended end) → (place : ℕ) × (outcome_of end ≡ Some (replied reply.Done place))
end_done (ends.Replied answer place) d = (place, ap (λ r. Some (replied r place)) (done_is answer d))
end_done end d = absurd d

pub done_in : (task : Task) (seen : Seen) (s : WriteStep) → HasMadeAt s → wanted_in task seen s ≡ want.Done → (place : ℕ) × (outcome_at s ≡ Some (replied reply.Done place))
done_in task seen (Ended end) d over = end_done end d
done_in task seen (Give held end) d over = done_then end d
done_in task seen s d over = absurd (no ((over_done task seen s).1 over))

-- ---- ends
end_bare : (site : Ground) (task : Task) (seen : Seen) (v : View) (end : WriteEnd) → SuitsStep site task seen (Ended end) v → is_without_slot (Ended end) ≡ false → HoldsOnly [] v
end_bare site task seen v ends.NoSlot suits closed = absurd (let f : true ≡ false = closed in cc)
end_bare site task seen v (ends.Replied answer place) suits closed = suits
end_bare site task seen v (ends.Again why) suits closed = suits
end_bare site task seen v (ends.Stale segment version) suits closed = suits.0
end_bare site task seen v ends.Off suits closed = suits

pub bare_in : (site : Ground) (task : Task) (seen : Seen) (v : View) (s : WriteStep) → SuitsStep site task seen s v → wanted_in task seen s ≡ want.Done → is_without_slot s ≡ false → HoldsOnly [] v
bare_in site task seen v (Ended end) suits over closed = end_bare site task seen v end suits closed
bare_in site task seen v (Give held end) suits over closed = give_stands.ends task.site task.hash seen.path.segment held v suits.locks suits.quiet over
bare_in site task seen v s suits over closed = absurd (no ((over_done task seen s).1 over))

-- ---- lines that wait
pub few_in : (s : WriteStep) → waiting_at s ≤ most_waiting
few_in (step.Make m) = few_waiting m
few_in s = omega arith

by_line : (b : Bool) (seen : Seen) → 1 ≤ waiting_at (made_to seen (if b then made.On make.FenceRecord else made.On make.FlushRecord)).step
by_line true seen = omega arith
by_line false seen = omega arith

walk_no_flush : (here : Site) (hash : ℕ) (w : Walk) → HasFlush (walk_wanted here hash w) → ⊥
walk_no_flush here hash walk.Power p = p
walk_no_flush here hash walk.Root p = p
walk_no_flush here hash (walk.Entry root) p = p
walk_no_flush here hash (walk.Head root segment) p = p

note_no_flush : (task : Task) (seen : Seen) (part : NoteWord) (n : NoteWords) → HasFlush (note_wanted task seen part n) → ⊥
note_no_flush task seen Mark n p = p
note_no_flush task seen Fingers n p = p

module _ (task : Task) (seen : Seen) where
  abbrev Waits : WriteStep → Ans → ℕ → Type 0
  Waits s a k = waiting_at s + k ≤ waiting_at (next_in task seen s a).step

  make_flush : (m : Make) (a : Ans) → IsAnswer (wanted_in task seen (step.Make m)) a → HasFlush (wanted_in task seen (step.Make m)) → Waits (step.Make m) a 1
  make_flush make.FlushFingers Passed i f = by_line (nat_lt seen.written.slot 2) seen
  make_flush make.FlushRecord Passed i f = omega arith
  make_flush make.FlushPublished Passed i f = omega arith
  make_flush make.FlushFingers a i f = absurd i
  make_flush make.FlushRecord a i f = absurd i
  make_flush make.FlushPublished a i f = absurd i
  make_flush m a i f = absurd f

  pub flush_in : (s : WriteStep) (a : Ans) → IsAnswer (wanted_in task seen s) a → HasFlush (wanted_in task seen s) → Waits s a 1
  flush_in (Way w) a i f = absurd (walk_no_flush task.site task.hash w f)
  flush_in (Lock place t) a i f = absurd (take_no_flush (lock_of task seen place) t f)
  flush_in (Check at) a i f = absurd f
  flush_in (Fill place load) a i f = absurd f
  flush_in Count a i f = absurd f
  flush_in (step.Make m) a i f = make_flush m a i f
  flush_in Draw a i f = absurd f
  flush_in (Unnote part place) a i f = absurd (note_no_flush task seen part (unnoted task.hash seen) f)
  flush_in CountSpent a i f = absurd f
  flush_in (Give held end) a i f = absurd (give_no_flush task.site task.hash seen.path.segment (give_next held) f)
  flush_in (Ended end) a i f = absurd f

  make_keeps : (m : Make) (a : Ans) → IsAnswer (wanted_in task seen (step.Make m)) a → (HasFence (wanted_in task seen (step.Make m)) → ⊥) → waiting_of m ≤ waiting_at (next_in task seen (step.Make m) a).step
  make_keeps make.FenceRecord a i f = absurd (f tt)
  make_keeps make.FencePublished a i f = absurd (f tt)
  make_keeps make.FlushRecord Passed i f = omega arith
  make_keeps make.FlushRecord a i f = absurd i
  make_keeps m a i f = omega arith

  pub keeps_in : (s : WriteStep) (a : Ans) → IsAnswer (wanted_in task seen s) a → (HasFence (wanted_in task seen s) → ⊥) → waiting_at s ≤ waiting_at (next_in task seen s a).step
  keeps_in (step.Make m) a i f = make_keeps m a i f
  keeps_in s a i f = omega arith

  pub none_waits : (s : WriteStep) → wanted_in task seen s ≡ want.Done → waiting_at s ≡ 0
  none_waits (step.Make m) over = absurd (no ((over_done task seen (step.Make m)).1 over))
  none_waits s over = refl
