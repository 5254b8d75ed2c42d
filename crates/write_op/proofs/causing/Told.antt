-- What is to be shown of an outcome, at each step that may decide one; the other steps decide none.
use Rattle.std.proofs.Common.{◌≡◌, ℕ, ◌^◌, Bool, true, false, Option, None, Some, refl, sym, ◌∙◌, subst}
use Rattle.std.specs.Prelude.{nat_le, if◌then◌else◌}
use Rattle.std.proofs.lemmas.Option.{none-some, same_Some}
use Rattle.op_core.specs.declared.want.Ans.{Ans}
use Rattle.op_core.specs.declared.want.Ans.TheVariants.{Value, Drawn, Passed}
use Rattle.op_core.specs.declared.why.Why.TheVariants.{Busy, Moved}
use Rattle.map_model.specs.declared.change.Effect.{Effect}
use Rattle.map_model.specs.declared.change.Effect.TheVariants.{Insert, Update, Remove}
use Rattle.map_model.specs.declared.entry.Reply.TheVariants as reply
use Rattle.map_model.specs.Changes.{doing, call_of}
use Rattle.map_model.specs.Legal.{IsInsert}
use Rattle.part.specs.Outcomes.{Outcome, replied, again, stale, off}
use Rattle.phase.specs.declared.role.Role.{Role}
use Rattle.phase.specs.declared.role.Role.TheVariants.{Home, Probing, First, Second}
use Rattle.phase.specs.declared.walk.Walk.{Walk}
use Rattle.phase.specs.declared.walk.Walked.{Walked}
use Rattle.phase.specs.declared.walk.Walked.TheVariants as walked
use Rattle.phase.specs.declared.take.Take.{Take}
use Rattle.phase.specs.declared.take.Take.TheVariants.{Look}
use Rattle.phase.specs.declared.take.Taken.{Taken}
use Rattle.phase.specs.declared.take.Taken.TheVariants as taking
use Rattle.phase.specs.declared.back.Back.{Back}
use Rattle.phase.specs.declared.back.Backed.{Backed}
use Rattle.phase.specs.declared.back.Backed.TheVariants as backed
use Rattle.phase.specs.declared.load.Loaded.{Loaded}
use Rattle.phase.specs.declared.load.Loaded.TheVariants as loaded
use Rattle.phase.specs.declared.make.Made.{Made}
use Rattle.phase.specs.declared.make.Made.TheVariants as made
use Rattle.phase.specs.declared.held.Held.{Held}
use Rattle.phase.specs.Buckets.{with_words}
use Rattle.phase.specs.Walks.{walk_taken}
use Rattle.phase.specs.Takes.{take_taken}
use Rattle.phase.specs.Backs.{back_taken}
use Rattle.phase.specs.Loads.{load_taken}
use Rattle.phase.specs.Makes.{make_taken}
use Rattle.write_op.specs.declared.step.Task.{Task}
use Rattle.write_op.specs.declared.step.Spot.{Spot}
use Rattle.write_op.specs.declared.step.Seen.{Seen}
use Rattle.phase.specs.declared.ending.Ending.{Ending}
use Rattle.phase.specs.declared.ending.Ending.TheVariants as ending
use Rattle.write_op.specs.declared.step.WriteEnd.TheVariants as ends
use Rattle.phase.specs.declared.note.NoteWord.TheVariants.{Mark}
use Rattle.phase.specs.Endings.{outcome_then}
use Rattle.phase.proofs.locks.Choosing.{by_both}
use Rattle.write_op.specs.declared.step.WriteStep.{WriteStep}
use Rattle.write_op.specs.declared.step.WriteStep.TheVariants.{Way, Lock, Check, Fill, Count, Draw, Unnote, CountSpent, Give, Ended}
use Rattle.write_op.specs.declared.step.WriteStep.TheVariants as step
use Rattle.write_op.specs.declared.step.Stage.{Stage}
use Rattle.write_op.specs.Search.{found, room_in, leaves_note}
use Rattle.write_op.specs.Steps.{go, giving, answered, amiss, walked_to, locked, locked_to, backed_to, visit_second, visit_first, with_visits, filled, filled_to, inserting, changing, decided, counted, made_to, drawn_to, lock_of, next_in}
use Rattle.write_op.specs.Fits.{outcome_at}
use Rattle.write_op.proofs.keeping.Entering.{giving_outcome}

module _ (P : Outcome → Type 0) where
  -- it is so of the outcome that is decided there, if one is
  abbrev pub Told : WriteStep → Type 0
  Told s = (outcome : Outcome) → outcome_at s ≡ Some outcome → P outcome

  pub both : (b : Bool) (s t : Stage) → (b ≡ true → Told s.step) → (b ≡ false → Told t.step) → Told (if b then s else t).step
  both true s t p q = p refl
  both false s t p q = q refl

  pub so : (s : WriteStep) (outcome : Outcome) → outcome_at s ≡ Some outcome → P outcome → Told s
  so s outcome is p told some = subst P (same_Some outcome told (sym is ∙ some)) p

  pub gives : (held : Held) (end : Ending) (outcome : Outcome) → Some (outcome_then end) ≡ Some outcome → P outcome → Told (giving held end)
  gives held end outcome is p = so (giving held end) outcome (giving_outcome held end ∙ is) p

  module _ (task : Task) (seen : Seen) where
    -- ---- the way
    pub walked_told : (x : Walked)
        → (x ≡ walked.Off → P off)
        → ((word value : ℕ) → x ≡ walked.Amiss word value → P (again (Moved word value value)))
        → ((segment byte : ℕ) → x ≡ walked.Stale segment byte → P (stale segment byte))
        → Told (walked_to seen x).step
    walked_told (walked.On next) cut ill late = λ outcome some. absurd (none-some outcome some)
    walked_told (walked.There path) cut ill late = λ outcome some. absurd (none-some outcome some)
    walked_told walked.Off cut ill late = so (Ended ends.Off) off refl (cut refl)
    walked_told (walked.Amiss word value) cut ill late = so (amiss word value) (again (Moved word value value)) refl (ill word value refl)
    walked_told (walked.Stale segment byte) cut ill late = so (Ended (ends.Stale segment byte)) (stale segment byte) refl (late segment byte refl)

    -- ---- a lock
    locked_open : (place : Role) → Told (locked place)
    locked_open Home = λ outcome some. absurd (none-some outcome some)
    locked_open Probing = λ outcome some. absurd (none-some outcome some)
    locked_open place = λ outcome some. absurd (none-some outcome some)

    pub locked_told : (place : Role) (lock : ℕ) (x : Taken) → ((value : ℕ) → x ≡ taking.Busy value → P (again (Busy lock value)))
        → ((before after : ℕ) → x ≡ taking.Moved before after → P (again (Moved lock before after))) → Told (locked_to seen place lock x).step
    locked_told place lock (taking.On next) busy moved = λ outcome some. absurd (none-some outcome some)
    locked_told place lock (taking.Held free) busy moved = locked_open place
    locked_told place lock (taking.Busy value) busy moved = gives seen.held (ending.Again (Busy lock value)) (again (Busy lock value)) refl (busy value refl)
    locked_told place lock (taking.Moved before after) busy moved = gives seen.held (ending.Again (Moved lock before after)) (again (Moved lock before after)) refl (moved before after refl)
    locked_told place lock taking.Spent busy moved = λ outcome some. absurd (none-some outcome some)

    -- ---- the way again
    pub backed_told : (x : Backed) → ((word before after : ℕ) → x ≡ backed.Moved word before after → P (again (Moved word before after))) → Told (backed_to seen x).step
    backed_told (backed.On next) moved = λ outcome some. absurd (none-some outcome some)
    backed_told backed.Same moved = λ outcome some. absurd (none-some outcome some)
    backed_told (backed.Moved word before after) moved = gives seen.held (ending.Again (Moved word before after)) (again (Moved word before after)) refl (moved word before after refl)

    -- ---- buckets
    second_open : (s : Seen) → Told (visit_second s)
    second_open s = by_both Told s.second (Lock Second Look) Count (λ outcome some. absurd (none-some outcome some)) (λ outcome some. absurd (none-some outcome some))

    first_open : (s : Seen) → Told (visit_first s)
    first_open s = by_both Told s.first (Lock First Look) (visit_second s) (λ outcome some. absurd (none-some outcome some)) (second_open s)

    all_open : (s : Seen) (place : Role) → Told (filled task.hash s place).step
    all_open s Home = λ outcome some. absurd (none-some outcome some)
    all_open s Probing = first_open (with_visits task.hash s)
    all_open s First = second_open s
    all_open s place = λ outcome some. absurd (none-some outcome some)

    pub filled_told : (place : Role) (x : Loaded) → Told (filled_to task.hash seen place x).step
    filled_told place (loaded.On load) = λ outcome some. absurd (none-some outcome some)
    filled_told place (loaded.All words) = all_open (record seen { buckets = with_words place words seen.buckets }) place

    -- ---- the counter
    module _ (count : ℕ) (there : (spot : Spot) → IsInsert (call_of task.change) → found seen task.change.key ≡ Some spot → P (replied reply.Exists count))
        (nowhere : (IsInsert (call_of task.change) → ⊥) → found seen task.change.key ≡ None → P (replied reply.Absent count)) where
      inserting_told : IsInsert (call_of task.change) → (key room : Option Spot) → found seen task.change.key ≡ key → Told (inserting task seen count key room).step
      inserting_told insert (Some spot) room is = gives seen.held (ending.Replied reply.Exists count) (replied reply.Exists count) refl (there spot insert is)
      inserting_told insert None (Some spot) is = λ outcome some. absurd (none-some outcome some)
      inserting_told insert None None is = λ outcome some. absurd (none-some outcome some)

      changing_told : (IsInsert (call_of task.change) → ⊥) → (key : Option Spot) → found seen task.change.key ≡ key → Told (changing task seen count key).step
      changing_told other (Some spot) is = λ outcome some. absurd (none-some outcome some)
      changing_told other None is = gives seen.held (ending.Replied reply.Absent count) (replied reply.Absent count) refl (nowhere other is)

      decided_told : (d : Effect) → task.change.effect ≡ d → Told (decided task seen count d).step
      decided_told (Insert value) e = inserting_told (subst (λ (z : Effect). IsInsert (doing task.change.key z)) (sym e) tt) (found seen task.change.key) (room_in seen.buckets) refl
      decided_told (Update value) e = changing_told (λ insert. subst (λ (z : Effect). IsInsert (doing task.change.key z)) e insert) (found seen task.change.key) refl
      decided_told Remove e = changing_told (λ insert. subst (λ (z : Effect). IsInsert (doing task.change.key z)) e insert) (found seen task.change.key) refl

      pub counted_told : (nat_le (2 ^ 63) count ≡ true → P (replied reply.Spent count)) → Told (counted task seen count).step
      counted_told spent = both (nat_le (2 ^ 63) count) (answered seen count reply.Spent) (decided task seen count task.change.effect)
          (λ t. gives seen.held (ending.Replied reply.Spent count) (replied reply.Spent count) refl (spent t)) (λ f. decided_told task.change.effect refl)

    -- ---- stores, the draw, and the note
    pub made_told : (x : Made) → Told (made_to seen x).step
    made_told (made.On m) = λ outcome some. absurd (none-some outcome some)
    made_told made.Settled = λ outcome some. absurd (none-some outcome some)

    pub drawn_told : (n : ℕ) → P (replied reply.Done n) → Told (drawn_to task seen n).step
    drawn_told n p = both (leaves_note task.change.effect seen.place) (go seen (Unnote Mark n)) (answered seen n reply.Done)
        (λ t. so (Unnote Mark n) (replied reply.Done n) refl p) (λ f. gives seen.held (ending.Replied reply.Done n) (replied reply.Done n) refl p)

    -- ---- WHICH EVENTS DECIDE, whatever they are answered
    pub next_told : (s : WriteStep) (a : Ans) → outcome_at s ≡ None
        → ((w : Walk) (n : ℕ) → s ≡ Way w → a ≡ Value n → Told (walked_to seen (walk_taken task.site task.hash w n)).step)
        → ((place : Role) (take : Take) → s ≡ Lock place take → Told (locked_to seen place (lock_of task seen place) (take_taken take a)).step)
        → ((back : Back) (n : ℕ) → s ≡ Check back → a ≡ Value n → Told (backed_to seen (back_taken task.site task.hash seen.path back n)).step)
        → ((n : ℕ) → s ≡ Count → a ≡ Value n → Told (counted task seen n).step)
        → ((n : ℕ) → s ≡ Draw → a ≡ Drawn n → P (replied reply.Done n))
        → ((n : ℕ) → s ≡ CountSpent → a ≡ Value n → P (replied reply.Spent n))
        → Told (next_in task seen s a).step
    next_told (Way w) (Value n) none way lock check count draw spent = way w n refl refl
    next_told (Lock place take) a none way lock check count draw spent = lock place take refl
    next_told (Check back) (Value n) none way lock check count draw spent = check back n refl refl
    next_told (Fill place load) (Value n) none way lock check count draw spent = filled_told place (load_taken load n)
    next_told Count (Value n) none way lock check count draw spent = count n refl refl
    next_told (step.Make m) Passed none way lock check count draw spent = made_told (make_taken seen.written.slot m)
    next_told Draw (Drawn n) none way lock check count draw spent = drawn_told n (draw n refl refl)
    next_told (Unnote part place) a none way lock check count draw spent = absurd (none-some (replied reply.Done place) (sym none))
    next_told CountSpent (Value n) none way lock check count draw spent =
        gives seen.held (ending.Replied reply.Spent n) (replied reply.Spent n) refl (spent n refl refl)
    next_told (Give held end) a none way lock check count draw spent = absurd (none-some (outcome_then end) (sym none))
    next_told s a none way lock check count draw spent = λ outcome some. absurd (none-some outcome (sym none ∙ some))
