-- Nothing but the one store makes the change: no other event leads from a step where it is not made to one where it is.
use Rattle.std.proofs.Common.{◌≡◌, ◌⊎◌, ℕ, ◌^◌, Bool, true, false, Option, None, Some, inl, inr, refl}
use Rattle.std.specs.Prelude.{nat_le, nat_lt, if◌then◌else◌}
use Rattle.op_core.specs.declared.want.Ans.{Ans}
use Rattle.op_core.specs.declared.want.Ans.TheVariants.{Value, Passed}
use Rattle.op_core.specs.declared.why.Why.TheVariants.{Busy, Moved}
use Rattle.map_model.specs.declared.change.Effect.{Effect}
use Rattle.map_model.specs.declared.change.Effect.TheVariants.{Insert, Update, Remove}
use Rattle.map_model.specs.declared.entry.Reply.TheVariants as reply
use Rattle.phase.specs.declared.role.Role.{Role}
use Rattle.phase.specs.declared.role.Role.TheVariants.{Home, Probing, First, Second}
use Rattle.phase.specs.declared.take.Take.TheVariants.{Look}
use Rattle.phase.specs.declared.walk.Walked.{Walked}
use Rattle.phase.specs.declared.walk.Walked.TheVariants as walked
use Rattle.phase.specs.declared.take.Taken.{Taken}
use Rattle.phase.specs.declared.take.Taken.TheVariants as taking
use Rattle.phase.specs.declared.back.Backed.{Backed}
use Rattle.phase.specs.declared.back.Backed.TheVariants as backed
use Rattle.phase.specs.declared.load.Loaded.{Loaded}
use Rattle.phase.specs.declared.load.Loaded.TheVariants as loaded
use Rattle.phase.specs.declared.make.Make.{Make}
use Rattle.phase.specs.declared.make.Make.TheVariants as make
use Rattle.phase.specs.declared.make.Made.TheVariants as made
use Rattle.phase.specs.declared.held.Held.{Held}
use Rattle.phase.specs.Buckets.{with_words}
use Rattle.phase.specs.Helds.{given}
use Rattle.phase.specs.Walks.{walk_taken}
use Rattle.phase.specs.Takes.{take_taken}
use Rattle.phase.specs.Backs.{back_taken}
use Rattle.phase.specs.Loads.{load_taken}
use Rattle.write_op.specs.declared.step.Task.{Task}
use Rattle.write_op.specs.declared.step.Spot.{Spot}
use Rattle.write_op.specs.declared.step.Seen.{Seen}
use Rattle.phase.specs.declared.ending.Ending.{Ending}
use Rattle.phase.specs.declared.ending.Ending.TheVariants as ending
use Rattle.phase.proofs.locks.Choosing.{by_both, by_step}
use Rattle.write_op.specs.declared.step.WriteStep.{WriteStep}
use Rattle.write_op.specs.declared.step.WriteStep.TheVariants.{Way, Lock, Check, Fill, Count, Draw, Unnote, CountSpent, Give, Ended}
use Rattle.write_op.specs.declared.step.WriteStep.TheVariants as step
use Rattle.write_op.specs.declared.step.Stage.{Stage}
use Rattle.write_op.specs.Search.{found, room_in}
use Rattle.write_op.specs.Steps.{end_of, giving, answered, walked_to, locked, locked_to, backed_to, visit_second, visit_first, with_visits, filled, filled_to, inserting, changing, decided, counted, made_to, lock_of, next_in}
use Rattle.write_op.specs.Left.{HasMadeAt}
use Rattle.write_op.specs.Causes.{MadeOnlySo}

abbrev Unmade : WriteStep → Type 0
Unmade s = HasMadeAt s → ⊥

-- ---- locks back
-- the end of locks that are given back is was where their giving is
end_made : (held : Held) (end : Ending) → HasMadeAt (Ended (end_of end)) → HasMadeAt (Give held end)
end_made held (ending.Replied answer place) was = was
end_made held (ending.Again why) was = absurd was

given_made : (held : Held) (end : Ending) → HasMadeAt (giving held end) → HasMadeAt (Give held end)
given_made held end = by_step (λ (s : WriteStep). HasMadeAt s → HasMadeAt (Give held end)) held (Give held end) (Ended (end_of end)) (λ was. was) (end_made held end)

giving_unmade : (held : Held) (end : Ending) → Unmade (Give held end) → Unmade (giving held end)
giving_unmade held end out was = out (given_made held end was)

module _ (task : Task) (seen : Seen) where
  -- ---- the way
  walked_unmade : (x : Walked) → Unmade (walked_to seen x).step
  walked_unmade (walked.On w) = λ was. was
  walked_unmade (walked.There path) = λ was. was
  walked_unmade walked.Off = λ was. was
  walked_unmade (walked.Amiss word value) = λ was. was
  walked_unmade (walked.Stale segment version) = λ was. was

  -- ---- locks
  locked_unmade : (place : Role) → Unmade (locked place)
  locked_unmade Home = λ was. was
  locked_unmade Probing = λ was. was
  locked_unmade place = λ was. was

  taken_unmade : (place : Role) (lock : ℕ) (x : Taken) → Unmade (locked_to seen place lock x).step
  taken_unmade place lock (taking.On take) = λ was. was
  taken_unmade place lock (taking.Held free) = locked_unmade place
  taken_unmade place lock (taking.Busy value) = giving_unmade seen.held (ending.Again (Busy lock value)) (λ was. was)
  taken_unmade place lock (taking.Moved before after) = giving_unmade seen.held (ending.Again (Moved lock before after)) (λ was. was)
  taken_unmade place lock taking.Spent = λ was. was

  backed_unmade : (x : Backed) → Unmade (backed_to seen x).step
  backed_unmade (backed.On back) = λ was. was
  backed_unmade backed.Same = λ was. was
  backed_unmade (backed.Moved word before after) = giving_unmade seen.held (ending.Again (Moved word before after)) (λ was. was)

  -- ---- buckets
  second_unmade : (s : Seen) → Unmade (visit_second s)
  second_unmade s = by_both Unmade s.second (Lock Second Look) Count (λ was. was) (λ was. was)

  first_unmade : (s : Seen) → Unmade (visit_first s)
  first_unmade s = by_both Unmade s.first (Lock First Look) (visit_second s) (λ was. was) (second_unmade s)

  all_unmade : (s : Seen) (place : Role) → Unmade (filled task.hash s place).step
  all_unmade s Home = λ was. was
  all_unmade s Probing = first_unmade (with_visits task.hash s)
  all_unmade s First = second_unmade s
  all_unmade s place = λ was. was

  filled_unmade : (place : Role) (x : Loaded) → Unmade (filled_to task.hash seen place x).step
  filled_unmade place (loaded.On load) = λ was. was
  filled_unmade place (loaded.All words) = all_unmade (record seen { buckets = with_words place words seen.buckets }) place

  -- ---- the counter
  inserting_unmade : (count : ℕ) (there room : Option Spot) → Unmade (inserting task seen count there room).step
  inserting_unmade count (Some spot) room = giving_unmade seen.held (ending.Replied reply.Exists count) (λ was. was)
  inserting_unmade count None (Some spot) = λ was. was
  inserting_unmade count None None = λ was. was

  changing_unmade : (count : ℕ) (there : Option Spot) → Unmade (changing task seen count there).step
  changing_unmade count (Some spot) = λ was. was
  changing_unmade count None = giving_unmade seen.held (ending.Replied reply.Absent count) (λ was. was)

  decided_unmade : (count : ℕ) (d : Effect) → Unmade (decided task seen count d).step
  decided_unmade count (Insert value) = inserting_unmade count (found seen task.change.key) (room_in seen.buckets)
  decided_unmade count (Update value) = changing_unmade count (found seen task.change.key)
  decided_unmade count Remove = changing_unmade count (found seen task.change.key)

  counted_unmade : (count : ℕ) → Unmade (counted task seen count).step
  counted_unmade count = by_both (λ (s : Stage). Unmade s.step) (nat_le (2 ^ 63) count) (answered seen count reply.Spent) (decided task seen count task.change.effect)
      (giving_unmade seen.held (ending.Replied reply.Spent count) (λ was. was)) (decided_unmade count task.change.effect)

  -- ---- the stores
  abbrev Before : WriteStep → Type 0
  Before s = HasMadeAt s ⊎ (s ≡ step.Make make.Publish)

  line_unmade : (b : Bool) → Unmade (made_to seen (if b then made.On make.FenceRecord else made.On make.FlushRecord)).step
  line_unmade true = λ was. was
  line_unmade false = λ was. was

  make_before : (m : Make) (a : Ans) → HasMadeAt (next_in task seen (step.Make m) a).step → Before (step.Make m)
  make_before make.Publish a was = inr refl
  make_before make.FlushPublished a was = inl tt
  make_before make.FencePublished a was = inl tt
  make_before make.FlushFingers Passed was = absurd (line_unmade (nat_lt seen.written.slot 2) was)
  make_before m Passed was = absurd was
  make_before m a was = absurd was

  -- THE STEP BEFORE one where the change is was
  pub only_made : (s : WriteStep) (a : Ans) → HasMadeAt (next_in task seen s a).step → Before s
  only_made (Way w) (Value n) was = absurd (walked_unmade (walk_taken task.site task.hash w n) was)
  only_made (Lock place take) a was = absurd (taken_unmade place (lock_of task seen place) (take_taken take a) was)
  only_made (Check back) (Value n) was = absurd (backed_unmade (back_taken task.site task.hash seen.path back n) was)
  only_made (Fill place load) (Value n) was = absurd (filled_unmade place (load_taken load n) was)
  only_made Count (Value n) was = absurd (counted_unmade n was)
  only_made (step.Make m) a was = make_before m a was
  only_made Draw a was = inl tt
  only_made (Unnote part place) a was = inl tt
  only_made CountSpent (Value n) was = absurd (giving_unmade seen.held (ending.Replied reply.Spent n) (λ again. again) was)
  only_made (Give held end) Passed was = inl (given_made (given held) end was)
  only_made s a was = inl was

pub made_only_so : MadeOnlySo
made_only_so op a was = only_made op.task op.stage.seen op.stage.step a was
