-- Whatever values its events find, what a change keeps was loaded: by which locks it holds at each of its steps.
use Rattle.std.proofs.Common.{◌≡◌, ℕ, ◌^◌, ◌≤◌, Bool, true, false, Option, None, Some, List, [], ◌∷◌, refl, sym, subst, arith}
use Rattle.std.specs.Prelude.{⊤, nat_le, if◌then◌else◌}
use Rattle.op_core.specs.declared.want.Ans.{Ans}
use Rattle.op_core.specs.declared.want.Ans.TheVariants.{Value, Drawn, Passed}
use Rattle.op_core.specs.declared.why.Why.TheVariants.{Busy, Moved}
use Rattle.map_model.specs.declared.change.Effect.{Effect}
use Rattle.map_model.specs.declared.change.Effect.TheVariants.{Insert, Update, Remove}
use Rattle.map_model.specs.declared.entry.Reply.TheVariants as reply
use Rattle.world.specs.Wants.{answer_to}
use Rattle.part.specs.Doings.{Doings, with_event_of, nothing_done}
use Rattle.phase.specs.declared.role.Role.{Role}
use Rattle.phase.specs.declared.role.Role.TheVariants.{Home, Probing, First, Second, Next, Previous}
use Rattle.phase.specs.declared.walk.Walked.{Walked}
use Rattle.phase.specs.declared.walk.Walked.TheVariants as walked
use Rattle.phase.specs.declared.take.Take.{Take}
use Rattle.phase.specs.declared.take.Take.TheVariants.{Look}
use Rattle.phase.specs.declared.take.Taken.{Taken}
use Rattle.phase.specs.declared.take.Taken.TheVariants as taking
use Rattle.phase.specs.declared.back.Backed.{Backed}
use Rattle.phase.specs.declared.back.Backed.TheVariants as backed
use Rattle.phase.specs.declared.load.Loaded.{Loaded}
use Rattle.phase.specs.declared.load.Loaded.TheVariants as loaded
use Rattle.phase.specs.declared.make.Made.{Made}
use Rattle.phase.specs.declared.make.Made.TheVariants as made
use Rattle.phase.specs.declared.held.Held.{Held}
use Rattle.phase.specs.Asked.{index, looked_by}
use Rattle.phase.specs.Helds.{none_held, free_of, given}
use Rattle.phase.specs.Buckets.{with_words}
use Rattle.phase.specs.Walks.{walk_taken}
use Rattle.phase.specs.Takes.{take_taken}
use Rattle.phase.specs.Backs.{back_taken}
use Rattle.phase.specs.Loads.{load_taken}
use Rattle.phase.specs.Makes.{make_taken}
use Rattle.phase.proofs.asking.Asked.{never, few, near_asked, none_before, upto_up}
use Rattle.phase.proofs.locks.Giving.{none_free}
use Rattle.write_op.specs.declared.step.Task.{Task}
use Rattle.write_op.specs.declared.step.Spot.{Spot}
use Rattle.write_op.specs.declared.step.Seen.{Seen}
use Rattle.phase.specs.declared.ending.Ending.{Ending}
use Rattle.phase.specs.declared.ending.Ending.TheVariants as ending
use Rattle.phase.specs.declared.note.NoteWord.{NoteWord}
use Rattle.phase.specs.declared.note.NoteWord.TheVariants.{Mark, Fingers}
use Rattle.phase.proofs.locks.Choosing.{by_both, by_step}
use Rattle.write_op.specs.declared.step.WriteStep.{WriteStep}
use Rattle.write_op.specs.declared.step.WriteStep.TheVariants.{Way, Lock, Check, Fill, Count, Draw, Unnote, CountSpent, Give, Ended}
use Rattle.write_op.specs.declared.step.WriteStep.TheVariants as step
use Rattle.write_op.specs.declared.step.Stage.{Stage}
use Rattle.write_op.specs.declared.op.WriteOp.{WriteOp}
use Rattle.write_op.specs.Search.{found, room_in, leaves_note, unnoted, has_finger}
use Rattle.write_op.specs.Steps.{go, end_of, giving, answered, walked_to, locked_to, lock_of, backed_to, visit_second, with_visits, filled, filled_to, inserting, changing, decided, made_to, unnoted_to, begun, next_in, wanted, taken}
use Rattle.write_op.specs.Fits.{is_asked, HoldsUpto}
use Rattle.write_op.specs.AnyMemory.{after_all, did_all, HasLoadedKept, KeepsLoads}
use Rattle.write_op.proofs.finding.Places.{holds_more, holds_less, held_asked}
use Rattle.write_op.proofs.causing.Recalling.{recalls_next}

-- the locks that are held are those before the one that is taken, and before the words that are loaded
abbrev pub HoldsIn : Seen → WriteStep → Type 0
HoldsIn seen (Way w) = seen.held ≡ none_held
HoldsIn seen (Lock place take) = HoldsUpto seen (index place) × (is_asked seen place ≡ true)
HoldsIn seen (Check back) = HoldsUpto seen 2
HoldsIn seen (Fill place load) = HoldsUpto seen (looked_by place)
HoldsIn seen Count = HoldsUpto seen 4
HoldsIn seen more = ⊤

abbrev Holds : Stage → Type 0
Holds s = HoldsIn s.seen s.step

giving_holds : (seen : Seen) (held : Held) (end : Ending) → HoldsIn seen (giving held end)
giving_holds seen held end = by_step (HoldsIn seen) held (Give held end) (Ended (end_of end)) tt tt

none_holds : (seen : Seen) → seen.held ≡ none_held → HoldsUpto seen 0
none_holds seen none = record {
  these = λ place u. absurd (none_before seen.first seen.second place u);
  others = λ place out. subst (λ (h : Held). free_of h place ≡ None) (sym none) (none_free place);
}

module _ (task : Task) (seen : Seen) where
  walked_holds : seen.held ≡ none_held → (x : Walked) → Holds (walked_to seen x)
  walked_holds none (walked.On w) = none
  walked_holds none (walked.There path) = (record { these = (none_holds seen none).these; others = (none_holds seen none).others }, refl)
  walked_holds none walked.Off = tt
  walked_holds none (walked.Amiss word value) = tt
  walked_holds none (walked.Stale segment version) = tt

  held_holds : (place : Role) (free : ℕ) (lock : ℕ) → HoldsUpto seen (index place) → is_asked seen place ≡ true → Holds (locked_to seen place lock (taking.Held free))
  held_holds Home free lock h asked = (holds_more seen Home free refl h, refl)
  held_holds Probing free lock h asked = holds_more seen Probing free refl h
  held_holds First free lock h asked = holds_more seen First free asked h
  held_holds Second free lock h asked = holds_more seen Second free asked h
  held_holds Next free lock h asked = never (sym asked)
  held_holds Previous free lock h asked = never (sym asked)

  taken_holds : (place : Role) (lock : ℕ) (x : Taken) → HoldsUpto seen (index place) → is_asked seen place ≡ true → Holds (locked_to seen place lock x)
  taken_holds place lock (taking.On take) h asked = (h, asked)
  taken_holds place lock (taking.Held free) h asked = held_holds place free lock h asked
  taken_holds place lock (taking.Busy value) h asked = giving_holds seen seen.held (ending.Again (Busy lock value))
  taken_holds place lock (taking.Moved before after) h asked = giving_holds seen seen.held (ending.Again (Moved lock before after))
  taken_holds place lock taking.Spent h asked = tt

  backed_holds : (x : Backed) → HoldsUpto seen 2 → Holds (backed_to seen x)
  backed_holds (backed.On back) h = h
  backed_holds backed.Same h = h
  backed_holds (backed.Moved word before after) h = giving_holds seen seen.held (ending.Again (Moved word before after))

  second_holds : (s : Seen) → HoldsUpto s 3 → (b : Bool) → s.second ≡ b → HoldsIn s (if b then Lock Second Look else Count)
  second_holds s h true e = (h, e)
  second_holds s h false e = holds_less s Second e h

  first_holds : (s : Seen) → HoldsUpto s 2 → (b : Bool) → s.first ≡ b → HoldsIn s (if b then Lock First Look else visit_second s)
  first_holds s h true e = (h, e)
  first_holds s h false e = second_holds s (holds_less s First e h) s.second refl

  visits_holds : (s : Seen) → HoldsUpto s 2 → HoldsUpto (with_visits task.hash s) 2
  visits_holds s h = record {
    these = λ p u. h.these p (record { low = u.low; asked = near_asked s.first s.second p u.low });
    others = λ p out. h.others p (λ u. out (record { low = u.low; asked = near_asked (with_visits task.hash s).first (with_visits task.hash s).second p u.low }));
  }

  -- a third bucket is none of those that are asked for
  fewer_holds : (s : Seen) (m : ℕ) → 4 ≤ m → HoldsUpto s m → HoldsUpto s 4
  fewer_holds s m least h = record {
    these = λ p u. h.these p (upto_up s.first s.second 4 m p least u);
    others = λ p out. h.others p (λ u. out (record { low = few s.first s.second p u.asked; asked = u.asked }));
  }

  all_holds : (s : Seen) (place : Role) → HoldsUpto s (looked_by place) → Holds (filled task.hash s place)
  all_holds s Home h = h
  all_holds s Probing h = first_holds (with_visits task.hash s) (visits_holds s h) (with_visits task.hash s).first refl
  all_holds s First h = second_holds s h s.second refl
  all_holds s Second h = h
  all_holds s Next h = fewer_holds s 5 (omega arith) h
  all_holds s Previous h = fewer_holds s 6 (omega arith) h

  filled_holds : (place : Role) (x : Loaded) → HoldsUpto seen (looked_by place) → Holds (filled_to task.hash seen place x)
  filled_holds place (loaded.On load) h = h
  filled_holds place (loaded.All words) h = all_holds (record seen { buckets = with_words place words seen.buckets }) place (record { these = h.these; others = h.others })

  inserting_holds : (count : ℕ) (there room : Option Spot) → Holds (inserting task seen count there room)
  inserting_holds count (Some spot) room = giving_holds seen seen.held _
  inserting_holds count None (Some spot) = tt
  inserting_holds count None None = tt

  changing_holds : (count : ℕ) (there : Option Spot) → Holds (changing task seen count there)
  changing_holds count (Some spot) = tt
  changing_holds count None = giving_holds seen seen.held _

  decided_holds : (count : ℕ) (d : Effect) → Holds (decided task seen count d)
  decided_holds count (Insert value) = inserting_holds count (found seen task.change.key) (room_in seen.buckets)
  decided_holds count (Update value) = changing_holds count (found seen task.change.key)
  decided_holds count Remove = changing_holds count (found seen task.change.key)

  made_holds : (x : Made) → Holds (made_to seen x)
  made_holds (made.On m) = tt
  made_holds made.Settled = tt

  unnoted_holds : (part : NoteWord) (place : ℕ) → Holds (unnoted_to task seen part place)
  unnoted_holds Mark place = by_both Holds (has_finger seen (unnoted task.hash seen)) (go seen (Unnote Fingers place)) (answered seen place reply.Done) tt (giving_holds seen seen.held _)
  unnoted_holds Fingers place = giving_holds seen seen.held _

  -- by any answer
  next_holds : (s : WriteStep) (a : Ans) → HoldsIn seen s → Holds (next_in task seen s a)
  next_holds (Way w) (Value n) h = walked_holds h (walk_taken task.site task.hash w n)
  next_holds (Lock place take) a h = taken_holds place (lock_of task seen place) (take_taken take a) h.0 h.1
  next_holds (Check back) (Value n) h = backed_holds (back_taken task.site task.hash seen.path back n) h
  next_holds (Fill place load) (Value n) h = filled_holds place (load_taken load n) h
  next_holds Count (Value n) h = by_both Holds (nat_le (2 ^ 63) n) (answered seen n reply.Spent) (decided task seen n task.change.effect) (giving_holds seen seen.held _) (decided_holds n task.change.effect)
  next_holds (step.Make m) Passed h = made_holds (make_taken seen.written.slot m)
  next_holds Draw (Drawn n) h = by_both Holds (leaves_note task.change.effect seen.place) (go seen (Unnote Mark n)) (answered seen n reply.Done) tt (giving_holds seen seen.held _)
  next_holds (Unnote part place) Passed h = unnoted_holds part place
  next_holds CountSpent (Value n) h = giving_holds seen seen.held _
  next_holds (Give held end) Passed h = giving_holds seen (given held) end
  next_holds s a h = h

  -- the lock that is taken is not held
  pub out : (s : WriteStep) → HoldsIn seen s → (place : Role) (take : Take) → s ≡ Lock place take → free_of seen.held place ≡ None
  out s h place take e =
      let at : HoldsIn seen (Lock place take) = subst (λ z. HoldsIn seen z) e h in
      at.0.others place (λ u. let low = u.low in omega (arith, low))

-- ---- one event after another
keeps_from : (op : WriteOp) (did : Doings) (found : List ℕ) → HoldsIn op.stage.seen op.stage.step → HasLoadedKept op did → HasLoadedKept (after_all op found) (did_all op found did)
keeps_from op did [] h r = r
keeps_from op did (n ∷ rest) h r =
    keeps_from (taken op (answer_to (wanted op) n)) (with_event_of (wanted op) (answer_to (wanted op) n) did) rest
    (next_holds op.task op.stage.seen op.stage.step (answer_to (wanted op) n) h)
    (recalls_next op.task op.stage.seen op.stage.step n did r (out op.task op.stage.seen op.stage.step h)
    (λ e place held. held_asked op.stage.seen (subst (λ z. HoldsIn op.stage.seen z) e h) place held))

pub keeps_loads : KeepsLoads
keeps_loads change here found = keeps_from (begun change here) nothing_done found refl (tt, refl)

pub holds_from : (op : WriteOp) (found : List ℕ) → HoldsIn op.stage.seen op.stage.step → HoldsIn (after_all op found).stage.seen (after_all op found).stage.step
holds_from op [] h = h
holds_from op (n ∷ rest) h = holds_from (taken op (answer_to (wanted op) n)) rest (next_holds op.task op.stage.seen op.stage.step (answer_to (wanted op) n) h)

-- its task stays
pub same_task : (op : WriteOp) (found : List ℕ) → (after_all op found).task ≡ op.task
same_task op [] = refl
same_task op (n ∷ rest) = same_task (taken op (answer_to (wanted op) n)) rest
