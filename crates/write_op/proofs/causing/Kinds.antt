-- Whatever words its events find, each event of a change is of its kind: a lock is tried with a free value that has a next one, and
-- locks go back that were taken so.
use Rattle.std.proofs.Common.{◌≡◌, ◌≢◌, ℕ, ◌+◌, ◌-◌, ◌%◌, ◌^◌, ◌<◌, Bool, true, false, Option, None, Some, List, [], ◌∷◌, inl, inr, refl, sym, ap, ◌∙◌, subst, arith}
use Rattle.std.specs.Prelude.{⊤, ◌==◌, nat_le, if◌then◌else◌}
use Rattle.std.proofs.lemmas.Bool.{eqb-false}
use Rattle.std.proofs.lemmas.Option.{none-some, same_Some}
use Rattle.op_core.specs.declared.want.Want.TheVariants as want
use Rattle.op_core.specs.declared.want.Ans.{Ans}
use Rattle.op_core.specs.declared.want.Ans.TheVariants.{Value, Won, Lost, Drawn, Passed}
use Rattle.op_core.specs.declared.why.Why.TheVariants.{Busy, Moved}
use Rattle.image_layout.specs.Places.{Shape}
use Rattle.map_model.specs.declared.change.Effect.{Effect}
use Rattle.map_model.specs.declared.change.Effect.TheVariants.{Insert, Update, Remove}
use Rattle.map_model.specs.declared.entry.Reply.TheVariants as reply
use Rattle.world.specs.declared.site.Site.{Site}
use Rattle.world.specs.Views.{Has}
use Rattle.world.specs.Wants.{answer_to}
use Rattle.world.specs.Kinds.{wanted as wanted_by}
use Rattle.part.specs.Doings.{Doings, nothing_done}
use Rattle.phase.specs.declared.role.Role.{Role}
use Rattle.phase.specs.declared.role.Role.TheVariants.{Home, Probing, First, Second}
use Rattle.phase.specs.declared.walk.Walked.{Walked}
use Rattle.phase.specs.declared.walk.Walked.TheVariants as walked
use Rattle.phase.specs.declared.take.Take.{Take}
use Rattle.phase.specs.declared.take.Take.TheVariants.{Look, Try}
use Rattle.phase.specs.declared.take.Taken.{Taken}
use Rattle.phase.specs.declared.take.Taken.TheVariants as taking
use Rattle.phase.specs.declared.back.Back.{Back}
use Rattle.phase.specs.declared.back.Backed.{Backed}
use Rattle.phase.specs.declared.back.Backed.TheVariants as backed
use Rattle.phase.specs.declared.load.Loaded.{Loaded}
use Rattle.phase.specs.declared.load.Loaded.TheVariants as loaded
use Rattle.phase.specs.declared.make.Made.{Made}
use Rattle.phase.specs.declared.make.Made.TheVariants as made
use Rattle.phase.specs.declared.held.Held.{Held}
use Rattle.phase.specs.Places.{lock_word}
use Rattle.phase.specs.Helds.{none_held, with_held, free_of, give_next, give_wanted_of, given_of, given}
use Rattle.phase.specs.Buckets.{with_words}
use Rattle.phase.specs.Walks.{walk_taken}
use Rattle.phase.specs.Takes.{take_wanted, take_taken}
use Rattle.phase.specs.Backs.{back_taken}
use Rattle.phase.specs.Loads.{load_taken}
use Rattle.phase.specs.Makes.{make_taken}
use Rattle.phase.specs.Taking.{MayBeTaken, IsTaking}
use Rattle.phase.specs.Giving.{give_kind_of}
use Rattle.phase.proofs.asking.Asked.{cases_place}
use Rattle.phase.proofs.locks.Giving.{none_free, held_this, held_other, free_less, next_free}
use Rattle.write_op.specs.declared.step.Task.{Task}
use Rattle.write_op.specs.declared.step.Spot.{Spot}
use Rattle.write_op.specs.declared.step.Seen.{Seen}
use Rattle.phase.specs.declared.ending.Ending.{Ending}
use Rattle.phase.specs.declared.ending.Ending.TheVariants as ending
use Rattle.phase.specs.declared.note.NoteWord.{NoteWord}
use Rattle.phase.specs.declared.note.NoteWord.TheVariants.{Mark, Fingers}
use Rattle.phase.proofs.locks.Choosing.{by_both, by_step}
use Rattle.write_op.specs.declared.step.WriteStep.{WriteStep}
use Rattle.write_op.specs.declared.step.WriteStep.TheVariants.{Way, Lock, Check, Fill, Count, Draw, Unnote, CountSpent, Give, Ended}
use Rattle.write_op.specs.declared.step.WriteStep.TheVariants as step
use Rattle.write_op.specs.declared.step.Stage.{Stage}
use Rattle.write_op.specs.declared.op.WriteOp.{WriteOp}
use Rattle.write_op.specs.Search.{found, room_in, leaves_note, unnoted, has_finger}
use Rattle.write_op.specs.Steps.{go, end_of, giving, answered, walked_to, locked_to, lock_of, backed_to, visit_second, visit_first, with_visits, filled, filled_to, inserting, changing, decided, made_to, unnoted_to, begun, wanted_in, next_in, wanted, taken}
use Rattle.write_op.specs.Fits.{kind_of}
use Rattle.write_op.specs.ChangePart.{RemembersIn}
use Rattle.write_op.specs.AnyMemory.{after_all, did_all, EventsHaveKinds, TriesFree}
use Rattle.write_op.proofs.parts.Fitting.{wants_by}
use Rattle.write_op.proofs.causing.Anywhere.{keeps_loads}

-- ---- free values
-- each lock that is held was taken with a free value that has a next one
abbrev MayGive : Held → Type 0
MayGive held = (place : Role) (value : ℕ) → free_of held place ≡ Some value → MayBeTaken value

none_give : MayGive none_held
none_give place value e = absurd (none-some _ (sym (none_free place) ∙ e))

more_give : (held : Held) (p : Role) (free : ℕ) → MayBeTaken free → MayGive held → MayGive (with_held p free held)
more_give held p free may g place value e = elim (cases_place place p) [
  | inl same ↦ subst MayBeTaken (same_Some free value (sym (held_this held free p) ∙ subst (λ (z : Role). free_of (with_held p free held) z ≡ Some value) same e)) may
  | inr other ↦ g place value (sym (held_other held free p place other) ∙ e)
]

less_by : (held : Held) (next : Option (Role × ℕ)) → MayGive held → MayGive (given_of next held)
less_by held (Some next) g place value e = g place value (free_less held next.0 place value e).0
less_by held None g place value e = g place value e

less_give : (held : Held) → MayGive held → MayGive (given held)
less_give held g = less_by held (give_next held) g

-- so each goes back by a store of its kind
gives_by : (shape : Shape) (here : Site) (hash segment : ℕ) (held : Held) → MayGive held → (next : Option (Role × ℕ)) → give_next held ≡ next → give_wanted_of here hash segment next ≢ want.Done
    → give_wanted_of here hash segment next ≡ wanted_by shape (give_kind_of here hash segment next)
gives_by shape here hash segment held g (Some next) e asks =
    let may = g next.0 next.1 (next_free held next e) in
    let low = may.1 in
    let small : (next.1 + 2) % 2 ^ 64 ≡ next.1 + 2 = omega (arith, low) in
    ap (λ x. want.Store (lock_word here hash segment next.0) x) small
gives_by shape here hash segment held g None e asks = absurd (asks refl)

-- ---- a lock
abbrev TakenWell : Taken → Type 0
TakenWell (taking.On take) = IsTaking take
TakenWell (taking.Held free) = MayBeTaken free
TakenWell more = ⊤

looked_well : (n : ℕ) → n < 2 ^ 64 → (odd spent : Bool) → (n % 2 == 1) ≡ odd → (n == 2 ^ 64 - 2) ≡ spent
    → TakenWell (if odd then taking.Busy n else if spent then taking.Spent else taking.On (Try n))
looked_well n small true spent p q = tt
looked_well n small false true p q = tt
looked_well n small false false p q =
    let even = eqb-false (n % 2) 1 p in
    let other = eqb-false n (2 ^ 64 - 2) q in
    (omega (arith, even), omega (arith, even, other, small))

lost_well : (free n : ℕ) (odd : Bool) → TakenWell (if odd then taking.Busy n else taking.Moved free n)
lost_well free n true = tt
lost_well free n false = tt

try_well : (free n : ℕ) → MayBeTaken free → (won : Bool) → TakenWell (take_taken (Try free) (if won then Won else Lost n))
try_well free n may true = may
try_well free n may false = lost_well free n (n % 2 == 1)

take_well : (lock : ℕ) (t : Take) (n : ℕ) → n < 2 ^ 64 → IsTaking t → TakenWell (take_taken t (answer_to (take_wanted lock t) n))
take_well lock Look n small is = looked_well n small (n % 2 == 1) (n == 2 ^ 64 - 2) refl refl
take_well lock (Try free) n small is = try_well free n is (n == free)

-- ---- in each step
abbrev TakesIn : Seen → WriteStep → Type 0
TakesIn seen (Lock place take) = MayGive seen.held × IsTaking take
TakesIn seen (Give held end) = MayGive held
TakesIn seen (Ended end) = ⊤
TakesIn seen more = MayGive seen.held

abbrev Takes : Stage → Type 0
Takes s = TakesIn s.seen s.step

giving_takes : (seen : Seen) (held : Held) (end : Ending) → MayGive held → TakesIn seen (giving held end)
giving_takes seen held end g = by_step (TakesIn seen) held (Give held end) (Ended (end_of end)) g tt

module _ (task : Task) (seen : Seen) (g : MayGive seen.held) where
  walked_takes : (x : Walked) → Takes (walked_to seen x)
  walked_takes (walked.On w) = g
  walked_takes (walked.There path) = (g, tt)
  walked_takes walked.Off = tt
  walked_takes (walked.Amiss word value) = tt
  walked_takes (walked.Stale segment version) = tt

  held_takes : (place : Role) (lock free : ℕ) → MayBeTaken free → Takes (locked_to seen place lock (taking.Held free))
  held_takes Home lock free may = (more_give seen.held Home free may g, tt)
  held_takes Probing lock free may = more_give seen.held Probing free may g
  held_takes place lock free may = more_give seen.held place free may g

  taken_takes : (place : Role) (lock : ℕ) (x : Taken) → TakenWell x → Takes (locked_to seen place lock x)
  taken_takes place lock (taking.On take) well = (g, well)
  taken_takes place lock (taking.Held free) well = held_takes place lock free well
  taken_takes place lock (taking.Busy value) well = giving_takes seen seen.held (ending.Again (Busy lock value)) g
  taken_takes place lock (taking.Moved before after) well = giving_takes seen seen.held (ending.Again (Moved lock before after)) g
  taken_takes place lock taking.Spent well = g

  backed_takes : (x : Backed) → Takes (backed_to seen x)
  backed_takes (backed.On back) = g
  backed_takes backed.Same = g
  backed_takes (backed.Moved word before after) = giving_takes seen seen.held (ending.Again (Moved word before after)) g

  second_takes : (s : Seen) → MayGive s.held → TakesIn s (visit_second s)
  second_takes s h = by_both (TakesIn s) s.second (Lock Second Look) Count (h, tt) h

  first_takes : (s : Seen) → MayGive s.held → TakesIn s (visit_first s)
  first_takes s h = by_both (TakesIn s) s.first (Lock First Look) (visit_second s) (h, tt) (second_takes s h)

  all_takes : (s : Seen) → MayGive s.held → (place : Role) → Takes (filled task.hash s place)
  all_takes s h Home = h
  all_takes s h Probing = first_takes (with_visits task.hash s) h
  all_takes s h First = second_takes s h
  all_takes s h place = h

  filled_takes : (place : Role) (x : Loaded) → Takes (filled_to task.hash seen place x)
  filled_takes place (loaded.On load) = g
  filled_takes place (loaded.All words) = all_takes (record seen { buckets = with_words place words seen.buckets }) g place

  inserting_takes : (count : ℕ) (there room : Option Spot) → Takes (inserting task seen count there room)
  inserting_takes count (Some spot) room = giving_takes seen seen.held _ g
  inserting_takes count None (Some spot) = g
  inserting_takes count None None = tt

  changing_takes : (count : ℕ) (there : Option Spot) → Takes (changing task seen count there)
  changing_takes count (Some spot) = g
  changing_takes count None = giving_takes seen seen.held _ g

  decided_takes : (count : ℕ) (d : Effect) → Takes (decided task seen count d)
  decided_takes count (Insert value) = inserting_takes count (found seen task.change.key) (room_in seen.buckets)
  decided_takes count (Update value) = changing_takes count (found seen task.change.key)
  decided_takes count Remove = changing_takes count (found seen task.change.key)

  made_takes : (x : Made) → Takes (made_to seen x)
  made_takes (made.On m) = g
  made_takes made.Settled = g

  unnoted_takes : (part : NoteWord) (place : ℕ) → Takes (unnoted_to task seen part place)
  unnoted_takes Mark place = by_both Takes (has_finger seen (unnoted task.hash seen)) (go seen (Unnote Fingers place)) (answered seen place reply.Done) g (giving_takes seen seen.held _ g)
  unnoted_takes Fingers place = giving_takes seen seen.held _ g

module _ (task : Task) (seen : Seen) where
  -- an answer to another step than a lock's, whatever it is
  other_takes : (s : WriteStep) (a : Ans) → ((place : Role) (take : Take) → s ≡ Lock place take → TakenWell (take_taken take a)) → TakesIn seen s → Takes (next_in task seen s a)
  other_takes (Way w) (Value n) well h = walked_takes task seen h (walk_taken task.site task.hash w n)
  other_takes (Lock place take) a well h = taken_takes task seen h.0 place (lock_of task seen place) (take_taken take a) (well place take refl)
  other_takes (Check back) (Value n) well h = backed_takes task seen h (back_taken task.site task.hash seen.path back n)
  other_takes (Fill place load) (Value n) well h = filled_takes task seen h place (load_taken load n)
  other_takes Count (Value n) well h =
      by_both Takes (nat_le (2 ^ 63) n) (answered seen n reply.Spent) (decided task seen n task.change.effect) (giving_takes seen seen.held _ h) (decided_takes task seen h n task.change.effect)
  other_takes (step.Make m) Passed well h = made_takes task seen h (make_taken seen.written.slot m)
  other_takes Draw (Drawn n) well h = by_both Takes (leaves_note task.change.effect seen.place) (go seen (Unnote Mark n)) (answered seen n reply.Done) h (giving_takes seen seen.held _ h)
  other_takes (Unnote part place) Passed well h = unnoted_takes task seen h part place
  other_takes CountSpent (Value n) well h = giving_takes seen seen.held _ h
  other_takes (Give held end) Passed well h = giving_takes seen (given held) end (less_give held h)
  other_takes s a well h = h

  next_takes : (s : WriteStep) (n : ℕ) → n < 2 ^ 64 → TakesIn seen s → Takes (next_in task seen s (answer_to (wanted_in task seen s) n))
  next_takes s n small h = other_takes s (answer_to (wanted_in task seen s) n) (λ place take e.
      let at : TakesIn seen (Lock place take) = subst (λ z. TakesIn seen z) e h in
      subst (λ z. TakenWell (take_taken take (answer_to (wanted_in task seen z) n))) (sym e) (take_well (lock_of task seen place) take n small at.1)) h

-- ---- one event after another
takes_from : (op : WriteOp) (found : List ℕ) → ((m : ℕ) → Has m found → m < 2 ^ 64) → TakesIn op.stage.seen op.stage.step → TakesIn (after_all op found).stage.seen (after_all op found).stage.step
takes_from op [] words h = h
takes_from op (n ∷ rest) words h =
    takes_from (taken op (answer_to (wanted op) n)) rest (λ m has. words m (inr has)) (next_takes op.task op.stage.seen op.stage.step n (words n (inl refl)) h)

has_kind : (op : WriteOp) (n : ℕ) → TakesIn op.stage.seen op.stage.step → ((back : Back) → op.stage.step ≡ Check back → op.stage.seen.path.segment < op.task.site.geometry.segments)
    → wanted op ≢ want.Done → wanted op ≡ wanted_by op.task.site.geometry (kind_of op n)
has_kind op n h within asks = wants_by op.task.site.geometry op.task op.stage.seen refl op.stage.step n
    (λ place take e. let at : TakesIn op.stage.seen (Lock place take) = subst (λ z. TakesIn op.stage.seen z) e h in at.1)
    within
    (λ held end e some. let at : TakesIn op.stage.seen (Give held end) = subst (λ z. TakesIn op.stage.seen z) e h in
    gives_by op.task.site.geometry op.task.site op.task.hash op.stage.seen.path.segment held at (give_next held) refl some) asks

pub events_have_kinds : EventsHaveKinds
events_have_kinds change here found n words asks =
    let op : WriteOp = after_all (begun change here) found in
    let did : Doings = did_all (begun change here) found nothing_done in
    has_kind op n (takes_from (begun change here) found words none_give)
    (λ back e. let kept : RemembersIn op.task op.stage.seen did (Check back) = subst (λ z. RemembersIn op.task op.stage.seen did z) e (keeps_loads change here found) in kept.0.0.2) asks

-- a lock is tried with a free value
pub tries_free : TriesFree
tries_free change here found words place free e =
    let op : WriteOp = after_all (begun change here) found in
    let at : TakesIn op.stage.seen (Lock place (Try free)) = subst (λ z. TakesIn op.stage.seen z) e (takes_from (begun change here) found words none_give) in
    at.1
