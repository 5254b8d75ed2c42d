-- Where the event of a get decides its outcome, the cause is there, whatever words there are; but for a value that no table has at a
-- first look on the way.
use Rattle.std.proofs.Common.{◌≡◌, ◌≢◌, ◌⊎◌, ℕ, ◌%◌, inl, inr, Bool, true, false, Option, None, Some, [], refl, sym, ◌∙◌, subst, arith}
use Rattle.std.specs.Prelude.{◌==◌, if◌then◌else◌}
use Rattle.std.proofs.lemmas.Bool.{eqb-true, eqb-false, false≢true}
use Rattle.std.proofs.lemmas.Option.{none-some, same_Some}
use Rattle.op_core.specs.declared.want.Want.{Want}
use Rattle.op_core.specs.declared.want.Want.TheVariants as want
use Rattle.op_core.specs.declared.why.Why.TheVariants.{Busy, Moved}
use Rattle.trace.specs.Events.{Words}
use Rattle.image_layout.specs.Places.{Shape}
use Rattle.sound_image.specs.Records.{key_hash}
use Rattle.map_model.specs.declared.call.Call.{Call}
use Rattle.map_model.specs.Map.{key_of}
use Rattle.world.specs.Views.{Has}
use Rattle.world.specs.Wants.{word_of}
use Rattle.part.specs.Doings.{Doings}
use Rattle.part.specs.Outcomes.{Outcome, again, stale, off}
use Rattle.part.specs.Causes.{NeedsBucket, IsNamed, HasAgainCause, HasCause}
use Rattle.phase.specs.declared.walk.Walk.{Walk}
use Rattle.phase.specs.declared.walk.Walked.{Walked}
use Rattle.phase.specs.declared.walk.Walked.TheVariants as walked
use Rattle.phase.specs.declared.back.Back.{Back}
use Rattle.phase.specs.declared.back.Backed.{Backed}
use Rattle.phase.specs.declared.back.Backed.TheVariants as backed
use Rattle.phase.specs.Walks.{walk_wanted, walk_taken}
use Rattle.phase.specs.Backs.{back_word, back_taken}
use Rattle.phase.specs.Loads.{load_taken}
use Rattle.phase.specs.Causes.{WasFound, HasWalkCause, HasBackCause}
use Rattle.phase.proofs.asking.Causing.{found_named, walk_caused, back_caused}
use Rattle.phase.specs.declared.role.Role.{Role}
use Rattle.phase.specs.declared.role.Role.TheVariants.{Home, Probing, First, Second}
use Rattle.read_op.specs.declared.step.Seen.{Seen}
use Rattle.read_op.specs.declared.step.ReadEnd.TheVariants as ends
use Rattle.read_op.specs.declared.step.ReadStep.{ReadStep}
use Rattle.read_op.specs.declared.step.ReadStep.TheVariants.{Way, Look, Fill, Count, Check, Relook, Ended}
use Rattle.read_op.specs.declared.step.Task.{Task}
use Rattle.phase.specs.Places.{bucket_of_role}
use Rattle.read_op.specs.Places.{free_at}
use Rattle.read_op.specs.Steps.{wanted_in, next_in, walked_to, with_free, looked, filled, backed_to, relook_first, relook_second, relook_next, busy, moved, end_of, lock_of}
use Rattle.read_op.specs.Fits.{is_asked}
use Rattle.read_op.specs.GetPart.{outcome_of, outcome_in, RemembersSeen, RemembersIn}
use Rattle.phase.specs.Asked.{index}
use Rattle.phase.proofs.asking.Asked.{few}
use Rattle.phase.proofs.asking.Needing.{visit_needed}
use Rattle.read_op.proofs.Places.{lock_is}
use Rattle.read_op.proofs.Opening.{IsOpen, looked_open, filled_open, open_undecided}

-- ---- for a get of this key, in this image, whose attempt did this
module _ (task : Task) (words : Words) (did : Doings) (call : Call) (hash_is : task.hash ≡ key_hash task.site.geometry (key_of call)) (none : did.changed ≡ [])
    (Amissed : Outcome → Type 0) where
  abbrev g : Shape
  g = task.site.geometry

  abbrev Caused : Want → Outcome → Type 0
  Caused event outcome = HasCause g words did call event task.site outcome

  -- if an outcome is decided there, it has its cause, or is told of a value that no table has on the way
  abbrev CausedIf : Want → ReadStep → Type 0
  CausedIf event s = (outcome : Outcome) → outcome_in s ≡ Some outcome → Caused event outcome ⊎ Amissed outcome

  both_caused : (event : Want) (b : Bool) (s t : ReadStep) → (b ≡ true → CausedIf event s) → (b ≡ false → CausedIf event t) → CausedIf event (if b then s else t)
  both_caused event true s t p q = p refl
  both_caused event false s t p q = q refl

  open_caused : (event : Want) (s : ReadStep) → IsOpen s → CausedIf event s
  open_caused event s goes outcome some = absurd (none-some outcome (sym (open_undecided s goes) ∙ some))

  so : (event : Want) (outcome : Outcome) → Caused event outcome → (told : Outcome) → Some outcome ≡ Some told → Caused event told ⊎ Amissed told
  so event outcome cause told some = inl (subst (Caused event) (same_Some outcome told some) cause)

  not_own : (word : ℕ) → Has word did.changed → ⊥
  not_own word has = subst (λ cs. Has word cs) none has

  -- ---- the way
  walked_caused : (w : Walk) (x : Walked) → ((word seen : ℕ) → x ≡ walked.Amiss word seen → Amissed (again (Moved word seen seen))) → HasWalkCause task.site task.hash words did call w x
      → CausedIf (walk_wanted task.site task.hash w) (walked_to x)
  walked_caused w (walked.On next) good cause told some = absurd (none-some told some)
  walked_caused w (walked.There path) good cause told some = absurd (none-some told some)
  walked_caused w walked.Off good cause told some = so (walk_wanted task.site task.hash w) off cause told some
  walked_caused w (walked.Amiss word seen) good cause told some = inr (subst Amissed (same_Some (again (Moved word seen seen)) told some) (good word seen refl))
  walked_caused w (walked.Stale segment byte) good cause told some = so (walk_wanted task.site task.hash w) (stale segment byte) cause told some

  -- ---- the way again
  backed_caused : (s : Seen) (placed : ℕ) (at : Back) (x : Backed) → HasBackCause task.site task.hash words did call s.path at x
      → CausedIf (want.Load (back_word task.site task.hash s.path at)) (backed_to s placed x)
  backed_caused s placed at (backed.On next) cause told some = absurd (none-some told some)
  backed_caused s placed at backed.Same cause told some = absurd (none-some told some)
  backed_caused s placed at (backed.Moved word before after) cause told some =
      so (want.Load (back_word task.site task.hash s.path at)) (again (Moved word before after)) cause told some

  -- ---- a lock word
  -- each that is asked for is needed
  needed : (s : Seen) (k : ℕ) → RemembersSeen task did.loads s k → (p : Role) → is_asked s p ≡ true → NeedsBucket g task.hash did.loads s.path.segment call (bucket_of_role task.hash p)
  needed s k r Home asked = inl refl
  needed s k r Probing asked = inr (inl refl)
  needed s k r First asked = visit_needed g task.hash did.loads s.path.segment r.path.0.2 call 0 (omega arith) (r.first asked)
  needed s k r Second asked = visit_needed g task.hash did.loads s.path.segment r.path.0.2 call 1 (omega arith) (r.second asked)
  needed s k r p asked = absurd (false≢true asked)

  module _ (s : Seen) (p : Role) (n : ℕ) (found : n ≡ words (lock_of task s p)) (k : ℕ) (seen : RemembersSeen task did.loads s k) (asked : is_asked s p ≡ true) where
    path : WasFound task.site task.hash did.loads s.path
    path = seen.path

    named : IsNamed g (key_hash g (key_of call)) did.loads s.path.segment
    named = subst (λ m. IsNamed g m did.loads s.path.segment) hash_is (found_named task.site task.hash did.loads s.path path)

    of_key : NeedsBucket g (key_hash g (key_of call)) did.loads s.path.segment call (bucket_of_role task.hash p)
    of_key = subst (λ m. NeedsBucket g m did.loads s.path.segment call (bucket_of_role task.hash p)) hash_is (needed s k seen p asked)

    busy_cause : n % 2 ≡ 1 → HasAgainCause g words did call (want.Load (lock_of task s p)) task.site.version (Busy (lock_of task s p) n)
    busy_cause odd = (
      (refl, sym found),
      record {
        own = (s.path.segment, named, path.0.2, bucket_of_role task.hash p, of_key, lock_is task s p path.0.2);
        newest = sym found;
        odd = odd;
        by_others = not_own (lock_of task s p);
      },
    )

    moved_cause : n % 2 ≢ 1 → n ≢ free_at s.free p → Has (lock_of task s p, free_at s.free p) did.loads × (free_at s.free p % 2 ≡ 0)
        → HasAgainCause g words did call (want.Load (lock_of task s p)) task.site.version (Moved (lock_of task s p) (free_at s.free p) n)
    moved_cause even other was = (
      (refl, sym found),
      inl (record {
        watched = inr ((s.path.segment, named, bucket_of_role task.hash p, of_key, refl), was.1, omega (arith, even));
        loaded = was.0;
        newest = sym found;
        differ = λ same. other (sym same);
        by_others = not_own (lock_of task s p);
      }),
    )

    busy_told : n % 2 ≡ 1 → CausedIf (want.Load (lock_of task s p)) (busy (lock_of task s p) n)
    busy_told odd = so (want.Load (lock_of task s p)) (again (Busy (lock_of task s p) n)) (busy_cause odd)

    moved_told : n % 2 ≢ 1 → n ≢ free_at s.free p → Has (lock_of task s p, free_at s.free p) did.loads × (free_at s.free p % 2 ≡ 0)
        → CausedIf (want.Load (lock_of task s p)) (moved (lock_of task s p) (free_at s.free p) n)
    moved_told even other was = so (want.Load (lock_of task s p)) (again (Moved (lock_of task s p) (free_at s.free p) n)) (moved_cause even other was)

  -- ---- an answer
  end_caused : (event : Want) (a : Option ℕ) (placed : ℕ) → CausedIf event (Ended (end_of a placed))
  end_caused event (Some x) placed told some = so event (outcome_of (ends.Found x placed)) tt told some
  end_caused event None placed told some = so event (outcome_of (ends.Absent placed)) tt told some

  second_caused : (event : Want) (s : Seen) (placed : ℕ) → CausedIf event (relook_second s placed)
  second_caused event s placed =
      both_caused event s.second (Relook s placed Second) (Ended (end_of s.value placed)) (λ t. open_caused event (Relook s placed Second) tt) (λ f. end_caused event s.value placed)

  first_caused : (event : Want) (s : Seen) (placed : ℕ) → CausedIf event (relook_first s placed)
  first_caused event s placed =
      both_caused event s.first (Relook s placed First) (relook_second s placed) (λ t. open_caused event (Relook s placed First) tt) (λ f. second_caused event s placed)

  next_caused : (event : Want) (s : Seen) (placed : ℕ) (p : Role) → CausedIf event (relook_next s placed p)
  next_caused event s placed Home = open_caused event (Relook s placed Probing) tt
  next_caused event s placed Probing = first_caused event s placed
  next_caused event s placed First = second_caused event s placed
  next_caused event s placed p = end_caused event s.value placed

  -- ---- the event
  pub step_caused : (s : ReadStep) (n : ℕ) → n ≡ words (word_of g (wanted_in task s)) → RemembersIn task did.loads s → wanted_in task s ≢ want.Done
      → ((w : Walk) → s ≡ Way w → (word seen : ℕ) → walk_taken task.site task.hash w n ≡ walked.Amiss word seen → Amissed (again (Moved word seen seen)))
      → CausedIf (wanted_in task s) (next_in task s n)
  step_caused (Way w) n found r asks good =
      walked_caused w (walk_taken task.site task.hash w n) (good w refl) (walk_caused task.site task.hash words did call hash_is w r n found)
  step_caused (Look s p) n found r asks good =
      both_caused (want.Load (lock_of task s p)) (n % 2 == 0) (looked (with_free s p n) p) (busy (lock_of task s p) n)
      (λ t. open_caused (want.Load (lock_of task s p)) (looked (with_free s p n) p) (looked_open (with_free s p n) p))
      (λ f. busy_told s p n found (index p) r.0 r.1 (let other = eqb-false (n % 2) 0 f in omega (arith, other)))
  step_caused (Fill s p load) n found r asks good =
      let next : ReadStep = filled task.key task.hash s p (load_taken load n) in
      open_caused (wanted_in task (Fill s p load)) next (filled_open task.key task.hash s p (load_taken load n))
  step_caused (Count s) n found r asks good = open_caused (wanted_in task (Count s)) (next_in task (Count s) n) tt
  step_caused (Check s placed back) n found r asks good =
      backed_caused s placed back (back_taken task.site task.hash s.path back n)
      (back_caused task.site task.hash words did call hash_is s.path r.seen.path (λ at. not_own (back_word task.site task.hash s.path at)) back n found)
  step_caused (Relook s placed p) n found r asks good =
      let event : Want = want.Load (lock_of task s p) in
      let seen = r.0.seen in
      both_caused event (n % 2 == 1) (busy (lock_of task s p) n) (if n == free_at s.free p then relook_next s placed p else moved (lock_of task s p) (free_at s.free p) n)
      (λ t. busy_told s p n found 4 seen r.1 (eqb-true (n % 2) 1 t))
      (λ f. both_caused event (n == free_at s.free p) (relook_next s placed p) (moved (lock_of task s p) (free_at s.free p) n)
      (λ t. next_caused event s placed p)
      (λ g. moved_told s p n found 4 seen r.1 (eqb-false (n % 2) 1 f) (eqb-false n (free_at s.free p) g)
      (r.0.seen.free p (record { low = few s.first s.second p r.1; asked = r.1 }))))
  step_caused (Ended end) n found r asks good = absurd (asks refl)
