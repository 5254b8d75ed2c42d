-- The record that a change stores lies in its bucket, whatever values its events find, so each word that it asks for is one of the image.
use Rattle.std.proofs.Common.{◌≡◌, ℕ, ◌^◌, ◌<◌, Option, Some, None, List, [], ◌∷◌, refl, sym, subst, arith, slice_index}
use Rattle.std.specs.Prelude.{⊤, nat_le}
use Rattle.op_core.specs.declared.want.Ans.{Ans}
use Rattle.op_core.specs.declared.want.Ans.TheVariants.{Value, Passed, Drawn}
use Rattle.bucket_meta.specs.Bucket.{record_slots}
use Rattle.bucket_meta.proofs.Found.{free_at, found_with}
use Rattle.image_layout.specs.Places.{IsShape}
use Rattle.image_layout.specs.Volatile.{all_words_of}
use Rattle.sound_image.proofs.Hashes.{key_hash-fits}
use Rattle.map_model.specs.declared.change.Effect.{Effect}
use Rattle.map_model.specs.declared.change.Effect.TheVariants.{Insert, Update, Remove}
use Rattle.map_model.specs.declared.entry.Reply.TheVariants as reply
use Rattle.world.specs.Wants.{answer_to, word_of}
use Rattle.phase.specs.declared.role.Role.{Role}
use Rattle.phase.specs.declared.role.Role.TheVariants.{Home, Probing, First, Second}
use Rattle.phase.specs.declared.take.Take.TheVariants.{Look}
use Rattle.phase.specs.declared.take.Taken.{Taken}
use Rattle.phase.specs.declared.take.Taken.TheVariants as taking
use Rattle.phase.specs.declared.walk.Walked.{Walked}
use Rattle.phase.specs.declared.walk.Walked.TheVariants as walked
use Rattle.phase.specs.declared.back.Backed.{Backed}
use Rattle.phase.specs.declared.back.Backed.TheVariants as backed
use Rattle.phase.specs.declared.load.Loaded.{Loaded}
use Rattle.phase.specs.declared.load.Loaded.TheVariants as loaded
use Rattle.phase.specs.declared.make.Made.{Made}
use Rattle.phase.specs.declared.make.Made.TheVariants as made
use Rattle.phase.specs.declared.held.Held.{Held}
use Rattle.phase.specs.Walks.{walk_taken}
use Rattle.phase.specs.Takes.{take_taken}
use Rattle.phase.specs.Backs.{back_taken}
use Rattle.phase.specs.Loads.{load_taken}
use Rattle.phase.specs.Makes.{make_taken}
use Rattle.phase.specs.Helds.{given}
use Rattle.phase.specs.Buckets.{with_words, words_in}
use Rattle.write_op.specs.declared.step.Task.{Task}
use Rattle.write_op.specs.declared.step.Spot.{Spot}
use Rattle.write_op.specs.declared.step.Seen.{Seen}
use Rattle.phase.specs.declared.ending.Ending.{Ending}
use Rattle.phase.specs.declared.note.NoteWord.{NoteWord}
use Rattle.phase.specs.declared.note.NoteWord.TheVariants.{Mark, Fingers}
use Rattle.phase.proofs.locks.Choosing.{by_both, by_step}
use Rattle.write_op.specs.declared.step.WriteStep.{WriteStep}
use Rattle.write_op.specs.declared.step.WriteStep.TheVariants.{Way, Lock, Check, Fill, Count, Draw, Unnote, CountSpent, Give, Ended}
use Rattle.write_op.specs.declared.step.WriteStep.TheVariants as step
use Rattle.write_op.specs.declared.step.Stage.{Stage}
use Rattle.write_op.specs.declared.op.WriteOp.{WriteOp}
use Rattle.write_op.specs.Search.{found, room_in, published_word, leaves_note, unnoted, has_finger}
use Rattle.write_op.specs.Steps.{go, end_of, giving, answered, walked_to, locked, locked_to, lock_of, backed_to, visit_second, visit_first, with_visits, filled, filled_to, inserting, changing, decided, made_to, unnoted_to, begun, wanted, next_in, taken}
use Rattle.write_op.specs.AnyMemory.{after_all, AsksInside}
use Rattle.write_op.proofs.finding.Searching.{found_some}
use Rattle.write_op.proofs.finding.Rooms.{room_some}
use Rattle.phase.proofs.asking.Events.{IsInBucket}
use Rattle.write_op.proofs.parts.Putting.{within_in}
use Rattle.write_op.proofs.causing.Anywhere.{same_task}

-- ---- in each step
abbrev StoresIn : Seen → WriteStep → Type 0
StoresIn seen (step.Make m) = IsInBucket seen.written
StoresIn seen more = ⊤

abbrev Stores : Stage → Type 0
Stores s = StoresIn s.seen s.step

giving_stores : (seen : Seen) (held : Held) (end : Ending) → StoresIn seen (giving held end)
giving_stores seen held end = by_step (StoresIn seen) held (Give held end) (Ended (end_of end)) tt tt

published_low : (d : Effect) (slot : ℕ) → slot < record_slots → published_word d slot < 32
published_low (Insert value) slot low = omega arith
published_low (Update value) slot low = omega (arith, low)
published_low Remove slot low = omega arith

module _ (task : Task) (seen : Seen) where
  walked_stores : (x : Walked) → Stores (walked_to seen x)
  walked_stores (walked.On w) = tt
  walked_stores (walked.There path) = tt
  walked_stores walked.Off = tt
  walked_stores (walked.Amiss word value) = tt
  walked_stores (walked.Stale segment version) = tt

  held_stores : (s : Seen) (place : Role) → StoresIn s (locked place)
  held_stores s Home = tt
  held_stores s Probing = tt
  held_stores s place = tt

  taken_stores : (place : Role) (lock : ℕ) (x : Taken) → Stores (locked_to seen place lock x)
  taken_stores place lock (taking.On take) = tt
  taken_stores place lock (taking.Held free) = held_stores (locked_to seen place lock (taking.Held free)).seen place
  taken_stores place lock (taking.Busy value) = giving_stores seen seen.held _
  taken_stores place lock (taking.Moved before after) = giving_stores seen seen.held _
  taken_stores place lock taking.Spent = tt

  backed_stores : (x : Backed) → Stores (backed_to seen x)
  backed_stores (backed.On at) = tt
  backed_stores backed.Same = tt
  backed_stores (backed.Moved word before after) = giving_stores seen seen.held _

  second_stores : (s : Seen) → StoresIn s (visit_second s)
  second_stores s = by_both (StoresIn s) s.second (Lock Second Look) Count tt tt

  first_stores : (s : Seen) → StoresIn s (visit_first s)
  first_stores s = by_both (StoresIn s) s.first (Lock First Look) (visit_second s) tt (second_stores s)

  all_stores : (s : Seen) (place : Role) → Stores (filled task.hash s place)
  all_stores s Home = tt
  all_stores s Probing = first_stores (with_visits task.hash s)
  all_stores s First = second_stores s
  all_stores s place = tt

  filled_stores : (place : Role) (x : Loaded) → Stores (filled_to task.hash seen place x)
  filled_stores place (loaded.On load) = tt
  filled_stores place (loaded.All words) = all_stores (record seen { buckets = with_words place words seen.buckets }) place

  -- where a record is stored from now on, its slot was found
  inserting_stores : (count : ℕ) (there room : Option Spot) → room_in seen.buckets ≡ room → Stores (inserting task seen count there room)
  inserting_stores count (Some spot) room is = giving_stores seen seen.held _
  inserting_stores count None (Some spot) is =
      let low : spot.slot < record_slots = (free_at (slice_index (words_in seen.buckets spot.place) 1) spot.slot (room_some seen.buckets spot is).slot).1 in
      record { slot = low; published = published_low task.change.effect spot.slot low }
  inserting_stores count None None is = tt

  changing_stores : (count : ℕ) (there : Option Spot) → found seen task.change.key ≡ there → Stores (changing task seen count there)
  changing_stores count (Some spot) is =
      let low : spot.slot < record_slots = (found_with (words_in seen.buckets spot.place) task.change.key spot.slot (found_some seen task.change.key spot is).slot).1 in
      record { slot = low; published = published_low task.change.effect spot.slot low }
  changing_stores count None is = giving_stores seen seen.held _

  decided_stores : (count : ℕ) (d : Effect) → Stores (decided task seen count d)
  decided_stores count (Insert value) = inserting_stores count (found seen task.change.key) (room_in seen.buckets) refl
  decided_stores count (Update value) = changing_stores count (found seen task.change.key) refl
  decided_stores count Remove = changing_stores count (found seen task.change.key) refl

  made_stores : IsInBucket seen.written → (x : Made) → Stores (made_to seen x)
  made_stores b (made.On m) = b
  made_stores b made.Settled = tt

  unnoted_stores : (part : NoteWord) (place : ℕ) → Stores (unnoted_to task seen part place)
  unnoted_stores Mark place = by_both Stores (has_finger seen (unnoted task.hash seen)) (go seen (Unnote Fingers place)) (answered seen place reply.Done) tt (giving_stores seen seen.held _)
  unnoted_stores Fingers place = giving_stores seen seen.held _

  -- by any answer
  next_stores : (s : WriteStep) (a : Ans) → StoresIn seen s → Stores (next_in task seen s a)
  next_stores (Way w) (Value n) b = walked_stores (walk_taken task.site task.hash w n)
  next_stores (Lock place take) a b = taken_stores place (lock_of task seen place) (take_taken take a)
  next_stores (Check at) (Value n) b = backed_stores (back_taken task.site task.hash seen.path at n)
  next_stores (Fill place load) (Value n) b = filled_stores place (load_taken load n)
  next_stores Count (Value n) b = by_both Stores (nat_le (2 ^ 63) n) (answered seen n reply.Spent) (decided task seen n task.change.effect) (giving_stores seen seen.held _) (decided_stores n task.change.effect)
  next_stores (step.Make m) Passed b = made_stores b (make_taken seen.written.slot m)
  next_stores Draw (Drawn n) b = by_both Stores (leaves_note task.change.effect seen.place) (go seen (Unnote Mark n)) (answered seen n reply.Done) tt (giving_stores seen seen.held _)
  next_stores (Unnote part place) Passed b = unnoted_stores part place
  next_stores CountSpent (Value n) b = giving_stores seen seen.held _
  next_stores (Give held end) Passed b = giving_stores seen (given held) end
  next_stores s a b = b

-- ---- one event after another
stores_from : (op : WriteOp) (values : List ℕ) → StoresIn op.stage.seen op.stage.step → StoresIn (after_all op values).stage.seen (after_all op values).stage.step
stores_from op [] b = b
stores_from op (n ∷ rest) b = stores_from (taken op (answer_to (wanted op) n)) rest (next_stores op.task op.stage.seen op.stage.step (answer_to (wanted op) n) b)

pub asks_inside : AsksInside
asks_inside change here values shape key =
    let first : WriteOp = begun change here in
    let op : WriteOp = after_all first values in
    let same : op.task ≡ first.task = same_task first values in
    subst (λ (t : Task). word_of t.site.geometry (wanted op) < all_words_of t.site.geometry) same
    (within_in op.task op.stage.seen (subst (λ (t : Task). IsShape t.site.geometry) (sym same) shape) (subst (λ (t : Task). t.hash < 2 ^ 64) (sym same) (key_hash-fits here.geometry change.key key))
    op.stage.step (λ m e. subst (λ z. StoresIn op.stage.seen z) e (stores_from first values tt)))
