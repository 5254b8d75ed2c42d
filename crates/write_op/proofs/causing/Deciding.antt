-- Each outcome of a change has its cause, by the event that decides it; and who is told that a lock is taken does not hold it.
use Rattle.std.proofs.Common.{◌≡◌, ℕ, ◌+◌, ◌-◌, ◌^◌, ◌<◌, ◌≤◌, true, inl, inr, refl, ap, subst, arith, slice_index}
use Rattle.std.specs.Prelude.{⊤, if◌then◌else◌}
use Rattle.std.proofs.lemmas.Bool.{lt-ltb, leb-true}
use Rattle.std.proofs.lemmas.Option.{none-some}
use Rattle.op_core.specs.declared.want.Want.{Want}
use Rattle.op_core.specs.declared.want.Want.TheVariants as want
use Rattle.op_core.specs.declared.want.Ans.{Ans}
use Rattle.op_core.specs.declared.want.Ans.TheVariants.{Passed}
use Rattle.op_core.specs.declared.why.Why.TheVariants.{Busy}
use Rattle.trace.specs.Events.{Words}
use Rattle.image_layout.specs.Places.{Shape, root_word, bucket_at, homes}
use Rattle.image_layout.specs.Volatile.{counter_word}
use Rattle.sound_image.specs.Records.{key_hash}
use Rattle.map_model.specs.declared.call.Call.{Call}
use Rattle.map_model.specs.declared.entry.Reply.TheVariants as reply
use Rattle.map_model.specs.Map.{key_of}
use Rattle.world.specs.Views.{View, Has, HasLock}
use Rattle.part.specs.Doings.{Doings}
use Rattle.part.specs.Outcomes.{Outcome, replied, again}
use Rattle.part.specs.Causes.{NeedsBucket, IsNamed, IsOwnLock, HasCause}
use Rattle.phase.specs.declared.role.Role.{Role}
use Rattle.phase.specs.declared.role.Role.TheVariants.{Home, Probing, First, Second, Next, Previous}
use Rattle.phase.specs.declared.walk.Walk.{Walk}
use Rattle.phase.specs.declared.walk.Walked.{Walked}
use Rattle.phase.specs.declared.walk.Walked.TheVariants as walked
use Rattle.phase.specs.declared.take.Take.{Take}
use Rattle.phase.specs.declared.take.Taken.{Taken}
use Rattle.phase.specs.declared.back.Back.{Back}
use Rattle.phase.specs.declared.back.Backed.{Backed}
use Rattle.phase.specs.declared.load.Loaded.{Loaded}
use Rattle.phase.specs.declared.make.Make.{Make}
use Rattle.phase.specs.Places.{bucket_of_role}
use Rattle.phase.specs.Asked.{index}
use Rattle.phase.specs.Buckets.{words_in}
use Rattle.phase.specs.Walks.{walk_wanted}
use Rattle.phase.specs.Takes.{take_wanted}
use Rattle.phase.specs.Backs.{back_word}
use Rattle.phase.specs.Makes.{make_taken}
use Rattle.phase.specs.Causes.{WasFound, HasWalkCause, HasBackCause}
use Rattle.phase.specs.Taking.{HasTakeCause}
use Rattle.phase.proofs.asking.Causing.{found_named}
use Rattle.phase.proofs.asking.Asked.{near_asked, upto_up}
use Rattle.phase.proofs.asking.Needing.{must_visit_by, visit_needed}
use Rattle.write_op.specs.declared.step.Task.{Task}
use Rattle.write_op.specs.declared.step.Seen.{Seen}
use Rattle.phase.specs.declared.ending.Ending.TheVariants as ending
use Rattle.write_op.specs.declared.step.WriteStep.{WriteStep}
use Rattle.write_op.specs.declared.step.WriteStep.TheVariants.{Way, Lock, Check, Fill, Count, Draw, Unnote, CountSpent, Give, Ended}
use Rattle.write_op.specs.declared.step.WriteStep.TheVariants as step
use Rattle.write_op.specs.Search.{visits}
use Rattle.write_op.specs.ChangePart.{LoadedUpto, AsksFor}
use Rattle.write_op.specs.Steps.{answered, walked_to, locked_to, backed_to, filled_to, counted, drawn_to, lock_of, next_in}
use Rattle.write_op.proofs.causing.Told.{Told, gives, walked_told, locked_told, backed_told, filled_told, counted_told, made_told, drawn_told}

module _ (task : Task) (words : Words) (did : Doings) (call : Call) (hash_is : task.hash ≡ key_hash task.site.geometry (key_of call)) (v : View) where
  abbrev g : Shape
  g = task.site.geometry

  -- a lock that is told busy is not held
  abbrev Frees : Outcome → Type 0
  Frees (again (Busy word value)) = HasLock v.held word → ⊥
  Frees outcome = ⊤

  abbrev pub Caused : Want → Outcome → Type 0
  Caused event outcome = HasCause g words did call event task.site outcome × Frees outcome

  -- if an outcome is decided there, it has its cause
  abbrev pub CausedIf : Want → WriteStep → Type 0
  CausedIf event s = Told (Caused event) s

  -- ---- the way
  module _ (seen : Seen) where
    pub walked_caused : (w : Walk) (x : Walked) → ((word value : ℕ) → x ≡ walked.Amiss word value → ⊥) → HasWalkCause task.site task.hash words did call w x
        → CausedIf (walk_wanted task.site task.hash w) (walked_to seen x).step
    walked_caused w x good cause = walked_told (Caused (walk_wanted task.site task.hash w)) task seen x
        (λ is. (subst (HasWalkCause task.site task.hash words did call w) is cause, tt))
        (λ word value is. absurd (good word value is))
        (λ segment byte is. (subst (HasWalkCause task.site task.hash words did call w) is cause, tt))

    -- ---- a lock
    pub locked_caused : (place : Role) (take : Take) (x : Taken) → (HasLock v.held (lock_of task seen place) → ⊥) → HasTakeCause g words did call (lock_of task seen place) take x
        → CausedIf (take_wanted (lock_of task seen place) take) (locked_to seen place (lock_of task seen place) x).step
    locked_caused place take x free cause =
        let lock : ℕ = lock_of task seen place in
        locked_told (Caused (take_wanted lock take)) task seen place lock x
        (λ value is. (subst (HasTakeCause g words did call lock take) is cause, free))
        (λ first after is. let found = subst (HasTakeCause g words did call lock take) is cause in ((found.0, inl found.1), tt))

    -- ---- the way again
    pub backed_caused : (at : Back) (x : Backed) → HasBackCause task.site task.hash words did call seen.path at x → CausedIf (want.Load (back_word task.site task.hash seen.path at)) (backed_to seen x).step
    backed_caused at x cause = backed_told (Caused (want.Load (back_word task.site task.hash seen.path at))) task seen x
        (λ word first after is. (subst (HasBackCause task.site task.hash words did call seen.path at) is cause, tt))

  module _ (event : Want) (seen : Seen) where
    pub filled_open : (place : Role) (x : Loaded) → CausedIf event (filled_to task.hash seen place x).step
    filled_open place x = filled_told (Caused event) task seen place x

    -- ---- the counter
    pub counted_caused : (count : ℕ) → count ≡ words (counter_word g) → CausedIf event (counted task seen count).step
    counted_caused count is = counted_told (Caused event) task seen count (λ spot insert there. (tt, tt)) (λ other none. (tt, tt))
        (λ t. (inl (subst (λ n. 2 ^ 63 ≤ n) is (leb-true (2 ^ 63) count t)), tt))

    -- ---- stores, the draw, and the note
    pub make_open : (m : Make) (a : Ans) → CausedIf event (next_in task seen (step.Make m) a).step
    make_open m Passed = made_told (Caused event) task seen (make_taken seen.written.slot m)
    make_open m a = λ outcome some. absurd (none-some outcome some)

    pub drawn_caused : (n : ℕ) → CausedIf event (drawn_to task seen n).step
    drawn_caused n = drawn_told (Caused event) task seen n (tt, tt)

  -- ---- the locks are those of the call's key
  module _ (seen : Seen) (path : WasFound task.site task.hash did.loads seen.path) (within : seen.path.segment < g.segments) where
    lock_is : (place : Role) → lock_of task seen place ≡ bucket_at g seen.path.segment (bucket_of_role task.hash place)
    lock_is place = ap (λ b. if b then bucket_at g seen.path.segment (bucket_of_role task.hash place) else root_word) (lt-ltb seen.path.segment g.segments within)

    -- each that is asked for is needed
    loaded : (place : Role) → LoadedUpto task seen did 2 → index place < 2 → (j : ℕ) → 1 ≤ j → j < 32
        → Has (lock_of task seen place + j, slice_index (words_in seen.buckets place) j) did.loads
    loaded place two near j from low = two place (record { low = near; asked = near_asked seen.first seen.second place near }) j from low

    visited : (n : ℕ) → n < 2 → visits task.hash seen.buckets n ≡ true → LoadedUpto task seen did 2 → NeedsBucket g task.hash did.loads seen.path.segment call (homes + n)
    visited n low noted two = visit_needed g task.hash did.loads seen.path.segment within call n low
        (must_visit_by g task.hash did.loads seen.path.segment within n (slice_index seen.buckets.home 1) (slice_index seen.buckets.home 3)
        (slice_index seen.buckets.probing 1) (slice_index seen.buckets.probing 3)
        (loaded Home two (omega arith) 1 (omega arith) (omega arith)) (loaded Home two (omega arith) 3 (omega arith) (omega arith))
        (loaded Probing two (omega arith) 1 (omega arith) (omega arith)) (loaded Probing two (omega arith) 3 (omega arith) (omega arith)) noted)

    needed : (place : Role) → AsksFor task seen did place → NeedsBucket g task.hash did.loads seen.path.segment call (bucket_of_role task.hash place)
    needed Home a = inl refl
    needed Probing a = inr (inl refl)
    needed First a = visited 0 (omega arith) a.reason.0 a.before
    needed Second a = visited 1 (omega arith) a.reason (λ q u. a.before q (upto_up seen.first seen.second 2 3 q (omega arith) u))
    needed Next a = absurd a.reason
    needed Previous a = absurd a.reason

    pub own_lock : (place : Role) → AsksFor task seen did place → IsOwnLock g words did call (lock_of task seen place)
    own_lock place asks = (
      seen.path.segment,
      subst (λ m. IsNamed g m did.loads seen.path.segment) hash_is (found_named task.site task.hash did.loads seen.path path),
      within,
      bucket_of_role task.hash place,
      subst (λ m. NeedsBucket g m did.loads seen.path.segment call (bucket_of_role task.hash place)) hash_is (needed place asks),
      lock_is place,
    )

    pub spent_caused : (event : Want) (n : ℕ) (place : Role) → AsksFor task seen did place → Has (lock_of task seen place, 2 ^ 64 - 2) did.loads → CausedIf event (answered seen n reply.Spent).step
    spent_caused event n place asks last = gives (Caused event) seen.held (ending.Replied reply.Spent n) (replied reply.Spent n) refl (inr (lock_of task seen place, own_lock place asks, last), tt)
