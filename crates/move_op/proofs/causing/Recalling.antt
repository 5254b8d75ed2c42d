-- What a displacement keeps was loaded, at each of its steps, and before its stores it changed its locks alone.
use Rattle.std.proofs.Common.{◌≡◌, ◌≢◌, ℕ, ◌+◌, ◌-◌, ◌%◌, ◌^◌, ◌<◌, ◌≤◌, Bool, true, false, Option, None, Some, List, [], ◌∷◌, ◌++◌, inl, inr, refl, sym, ap, ◌∙◌, subst, slice_index}
use Rattle.std.specs.Prelude.{⊤, ◌==◌, if◌then◌else◌}
use Rattle.std.proofs.lemmas.Option.{none-some}
use Rattle.op_core.specs.declared.want.Want.TheVariants as want
use Rattle.op_core.specs.declared.want.Ans.{Ans}
use Rattle.op_core.specs.declared.want.Ans.TheVariants.{Value, Won, Lost, Passed}
use Rattle.world.specs.Ground.{Ground}
use Rattle.world.specs.Views.{Has}
use Rattle.world.specs.Wants.{answer_to}
use Rattle.part.specs.Doings.{Doings, with_event_of}
use Rattle.phase.specs.declared.role.Role.{Role}
use Rattle.phase.specs.declared.role.Role.TheVariants.{Home, Probing, Next}
use Rattle.phase.specs.declared.take.Take.{Take}
use Rattle.phase.specs.declared.take.Take.TheVariants.{Look, Try}
use Rattle.phase.specs.declared.take.Taken.{Taken}
use Rattle.phase.specs.declared.take.Taken.TheVariants as taking
use Rattle.phase.specs.declared.load.Load.{Load}
use Rattle.phase.specs.declared.load.Loaded.{Loaded}
use Rattle.phase.specs.declared.load.Loaded.TheVariants as loaded
use Rattle.phase.specs.declared.make.Make.{Make}
use Rattle.phase.specs.declared.make.Made.{Made}
use Rattle.phase.specs.declared.make.Made.TheVariants as made
use Rattle.phase.specs.declared.held.Held.{Held}
use Rattle.phase.specs.declared.kept.Kept.{Kept}
use Rattle.phase.specs.Places.{is_third}
use Rattle.phase.specs.Takes.{take_wanted, take_looked, take_lost}
use Rattle.phase.specs.Loads.{load_taken}
use Rattle.phase.specs.Makes.{make_taken}
use Rattle.phase.specs.Helds.{with_held, free_of, given}
use Rattle.phase.specs.Buckets.{with_words, words_in}
use Rattle.phase.specs.Stands.{HasLoaded}
use Rattle.phase.specs.Taking.{RemembersTaken}
use Rattle.phase.specs.Giving.{IsHeld}
use Rattle.phase.specs.Causes.{WasFound}
use Rattle.phase.specs.Keeps.{IsFull, WasLoaded, ChangedLocks, LoadedFull, RemembersRoom}
use Rattle.phase.proofs.asking.Asked.{cases_place}
use Rattle.phase.proofs.Wording.{words_other}
use Rattle.phase.proofs.asking.Causing.{has_more, found_more}
use Rattle.phase.proofs.Loading.{load_begins, load_stands}
use Rattle.phase.proofs.locks.Taking.{take_remembers}
use Rattle.phase.proofs.locks.Giving.{held_this, held_other}
use Rattle.phase.proofs.locks.Choosing.{by_step}
use Rattle.phase.specs.declared.ending.Ending.{Ending}
use Rattle.phase.specs.declared.ending.Ending.TheVariants as ending
use Rattle.move_op.specs.declared.step.Direction.{Direction}
use Rattle.move_op.specs.declared.step.Direction.TheVariants.{Forward, Backward}
use Rattle.move_op.specs.declared.step.Shift.{Shift}
use Rattle.move_op.specs.declared.step.Leg.{Leg}
use Rattle.move_op.specs.declared.step.Leg.TheVariants.{Copy, Clear, Insert}
use Rattle.move_op.specs.declared.step.MoveStep.{MoveStep}
use Rattle.move_op.specs.declared.step.MoveStep.TheVariants.{Lock, Fill, CountSpent, Draw, Give, Ended}
use Rattle.move_op.specs.declared.step.MoveStep.TheVariants as step
use Rattle.move_op.specs.declared.op.MoveOp.{MoveOp}
use Rattle.move_op.specs.Shifts.{target_of, shift_in, record_of}
use Rattle.move_op.specs.Steps.{end_of, giving, locked_to, chosen, filled_to, made_to, lock_of, wanted_in, next_in}
use Rattle.move_op.specs.MovePart.{HasTried, RemembersAt}
use Rattle.move_op.proofs.shifting.Staying.{none_forward, none_backward}
use Rattle.move_op.proofs.keeping.Going.{other_number}

-- ---- what is remembered
module _ (site : Ground) where
  abbrev pub Recalls : MoveOp → Doings → Type 0
  Recalls op did = RemembersAt site op.kept did op.step

  -- with more that was loaded
  module _ (kept : Kept) (d e : Doings) (more : List (ℕ × ℕ)) (is : e.loads ≡ more ++ d.loads) where
    loaded_more : (place : Role) → WasLoaded kept d.loads place → WasLoaded kept e.loads place
    loaded_more place r j from low = subst (λ l. Has (lock_of kept place + j, slice_index (words_in kept.buckets place) j) l) (sym is) (has_more more d.loads _ (r j from low))

    room_more : RemembersRoom site kept d.loads → RemembersRoom site kept e.loads
    room_more r = record {
      path = r.path;
      there = r.there;
      found = subst (λ l. WasFound kept.site kept.hash l r.path) (sym is) (found_more kept.site kept.hash more d.loads r.path r.found);
      head = r.head;
      buckets = λ place held own. loaded_more place (r.buckets place held own);
      home = (loaded_more Home r.home.0, r.home.1);
      probing = (loaded_more Probing r.probing.0, r.probing.1);
    }

    tried_more : (direction : Direction) → HasTried site kept d direction → HasTried site kept e direction
    tried_more Forward r = tt
    tried_more Backward r = (loaded_more Next r.0, r.1)

  -- with the lock of a third bucket more
  room_held : (kept : Kept) (direction : Direction) (free : ℕ) (loads : List (ℕ × ℕ)) → RemembersRoom site kept loads
      → RemembersRoom site (record kept { held = with_held (target_of direction) free kept.held }) loads
  room_held kept direction free loads r = record {
    path = r.path;
    there = r.there;
    found = r.found;
    head = r.head;
    buckets = λ place held own. r.buckets place (held.0, sym (held_other kept.held free (target_of direction) place (other_number direction place own)) ∙ held.1) own;
    home = r.home;
    probing = r.probing;
  }

  tried_held : (kept : Kept) (held : Held) (d : Doings) (direction : Direction) → HasTried site kept d direction → HasTried site (record kept { held = held }) d direction
  tried_held kept held d Forward r = tt
  tried_held kept held d Backward r = r

  -- with the words of a third bucket put in
  full_put : (kept : Kept) (direction : Direction) (words : List ℕ) (loads : List (ℕ × ℕ)) (place : Role) → is_third place ≡ false → LoadedFull kept loads place
      → LoadedFull (record kept { buckets = with_words (target_of direction) words kept.buckets }) loads place
  full_put kept direction words loads place own f =
      subst (λ (ws : List ℕ). ((j : ℕ) → 1 ≤ j → j < 32 → Has (lock_of kept place + j, slice_index ws j) loads) × IsFull ws)
      (sym (words_other kept.buckets words (target_of direction) place (other_number direction place own))) f

  room_put : (kept : Kept) (direction : Direction) (words : List ℕ) (loads : List (ℕ × ℕ)) → RemembersRoom site kept loads
      → RemembersRoom site (record kept { buckets = with_words (target_of direction) words kept.buckets }) loads
  room_put kept direction words loads r = record {
    path = r.path;
    there = r.there;
    found = r.found;
    head = r.head;
    buckets = λ place held own j from low.
        subst (λ (ws : List ℕ). Has (lock_of kept place + j, slice_index ws j) loads)
        (sym (words_other kept.buckets words (target_of direction) place (other_number direction place own))) (r.buckets place held own j from low);
    home = full_put kept direction words loads Home refl r.home;
    probing = full_put kept direction words loads Probing refl r.probing;
  }

  -- ---- locks back
  end_recalls : (kept : Kept) (d : Doings) (end : Ending) → RemembersAt site kept d (Ended (end_of end))
  end_recalls kept d (ending.Replied answer place) = tt
  end_recalls kept d (ending.Again why) = tt

  giving_recalls : (kept : Kept) (d : Doings) (held : Held) (end : Ending) → RemembersAt site kept d (giving held end)
  giving_recalls kept d held end = by_step (RemembersAt site kept d) held (Give held end) (Ended (end_of end)) tt (end_recalls kept d end)

  -- ---- a lock
  module _ (kept : Kept) (direction : Direction) (d : Doings) (room : RemembersRoom site kept d.loads) (tried : HasTried site kept d direction) where
    -- by what was made of it
    abbrev Changed : Taken → Type 0
    Changed (taking.On take) = ChangedLocks kept d.changed
    Changed (taking.Held free) = ChangedLocks (record kept { held = with_held (target_of direction) free kept.held }) d.changed
    Changed more = ⊤

    locked_recalls : (x : Taken) → RemembersTaken (lock_of kept (target_of direction)) d.loads x → Changed x → Recalls (locked_to kept direction (lock_of kept (target_of direction)) x) d
    locked_recalls (taking.On take) r changed = (room, changed, r, tried)
    locked_recalls (taking.Held free) r changed = (room_held kept direction free d.loads room, changed, load_begins _ _, tried_held kept (with_held (target_of direction) free kept.held) d direction tried)
    locked_recalls (taking.Busy value) r changed = giving_recalls kept d kept.held _
    locked_recalls (taking.Moved first after) r changed = giving_recalls kept d kept.held _
    locked_recalls taking.Spent r changed = (room, (direction, tried, r))

  -- which words were changed then
  module _ (kept : Kept) (direction : Direction) (d : Doings) (out : free_of kept.held (target_of direction) ≡ None) (changed : ChangedLocks kept d.changed) where
    abbrev lock : ℕ
    lock = lock_of kept (target_of direction)

    still_held : (p : Role) (free : ℕ) → IsHeld kept.held p → IsHeld (with_held (target_of direction) free kept.held) p
    still_held p free (value, is) = elim (cases_place p (target_of direction)) [
      | inl e ↦ absurd (none-some _ (sym out ∙ ap (free_of kept.held) (sym e) ∙ is))
      | inr n ↦ (value, held_other kept.held free (target_of direction) p n ∙ is)
    ]

    won : (free : ℕ) (e : Doings) → e.changed ≡ lock ∷ d.changed → ChangedLocks (record kept { held = with_held (target_of direction) free kept.held }) e.changed
    won free e is word has = elim (subst (λ (l : List ℕ). Has word l) is has) [
      | inl same ↦ (target_of direction, (free, held_this kept.held free (target_of direction)), same)
      | inr old ↦ let was = changed word old in (was.0, still_held was.0 free was.1, was.2)
    ]

    look_changed : (n : ℕ) (e : Doings) → e.changed ≡ d.changed → (odd spent : Bool)
        → (room : RemembersRoom site kept e.loads) (tried : HasTried site kept e direction) → Changed kept direction e room tried (if odd then taking.Busy n else if spent then taking.Spent else taking.On (Try n))
    look_changed n e is true spent room tried = tt
    look_changed n e is false true room tried = tt
    look_changed n e is false false room tried = λ word has. changed word (subst (λ (l : List ℕ). Has word l) is has)

    lost_changed : (free n : ℕ) (e : Doings) (odd : Bool) (room : RemembersRoom site kept e.loads) (tried : HasTried site kept e direction)
        → Changed kept direction e room tried (if odd then taking.Busy n else taking.Moved free n)
    lost_changed free n e true room tried = tt
    lost_changed free n e false room tried = tt

  -- ---- a bucket
  -- behind its last word
  chosen_recalls : (kept : Kept) (d : Doings) (direction : Direction) → RemembersRoom site kept d.loads → ChangedLocks kept d.changed → HasTried site kept d direction → WasLoaded kept d.loads (target_of direction)
      → (o : Option Shift) → shift_in kept direction ≡ o → RemembersAt site kept d (chosen direction o)
  chosen_recalls kept d direction room changed tried has (Some shift) is = tt
  chosen_recalls kept d Forward room changed tried has None is = (room, changed, tt, (has, none_forward kept is))
  chosen_recalls kept d Backward room changed tried has None is =
      (room, changed, record { next = tried.0; previous = has; moves = record { forward = tried.1; backward = none_backward kept is } })

  put_tried : (kept : Kept) (direction : Direction) (words : List ℕ) (d : Doings) → HasTried site kept d direction → HasTried site (record kept { buckets = with_words (target_of direction) words kept.buckets }) d direction
  put_tried kept Forward words d r = tt
  put_tried kept Backward words d r = r

  put_loaded : (kept : Kept) (direction : Direction) (words : List ℕ) (loads : List (ℕ × ℕ)) → HasLoaded (lock_of kept (target_of direction)) loads (loaded.All words)
      → WasLoaded (record kept { buckets = with_words (target_of direction) words kept.buckets }) loads (target_of direction)
  put_loaded kept Forward words loads has = has
  put_loaded kept Backward words loads has = has

  fill_recalls : (kept : Kept) (direction : Direction) (d : Doings) → RemembersRoom site kept d.loads → ChangedLocks kept d.changed → HasTried site kept d direction
      → (x : Loaded) → HasLoaded (lock_of kept (target_of direction)) d.loads x → Recalls (filled_to kept direction x) d
  fill_recalls kept direction d room changed tried (loaded.On load) has = (room, changed, has, tried)
  fill_recalls kept direction d room changed tried (loaded.All words) has =
      let put : Kept = record kept { buckets = with_words (target_of direction) words kept.buckets } in
      chosen_recalls put d direction (room_put kept direction words d.loads room) changed (put_tried kept direction words d tried) (put_loaded kept direction words d.loads has) (shift_in put direction) refl

  -- ---- stores
  made_recalls : (kept : Kept) (d : Doings) (shift : Shift) (leg : Leg) (x : Made) → RemembersAt site kept d (made_to shift leg x)
  made_recalls kept d shift leg (made.On m) = tt
  made_recalls kept d shift Copy made.Settled = tt
  made_recalls kept d shift Clear made.Settled = tt
  made_recalls kept d shift Insert made.Settled = tt

  make_recalls : (kept : Kept) (d : Doings) (shift : Shift) (leg : Leg) (m : Make) (a : Ans) → Recalls (next_in kept (step.Make shift leg m) a) d
  make_recalls kept d shift leg m Passed = made_recalls kept d shift leg (make_taken (record_of shift leg).slot m)
  make_recalls kept d shift leg m a = tt

  give_recalls : (kept : Kept) (d : Doings) (held : Held) (end : Ending) (a : Ans) → Recalls (next_in kept (Give held end) a) d
  give_recalls kept d held end Passed = giving_recalls kept d (given held) end
  give_recalls kept d held end a = tt

  -- ---- an event
  module _ (kept : Kept) where
    abbrev After : MoveStep → ℕ → Doings → Doings
    After s n d = with_event_of (wanted_in kept s) (answer_to (wanted_in kept s) n) d

    abbrev pub RecallsNext : MoveStep → ℕ → Doings → Type 0
    RecallsNext s n d = Recalls (next_in kept s (answer_to (wanted_in kept s) n)) (After s n d)

    look_next : (direction : Direction) (n : ℕ) (d : Doings) → free_of kept.held (target_of direction) ≡ None → RemembersAt site kept d (Lock direction Look) → RecallsNext (Lock direction Look) n d
    look_next direction n d out r =
        let lock : ℕ = lock_of kept (target_of direction) in
        let e : Doings = record { loads = (lock, n) ∷ d.loads; changed = d.changed } in
        let room = room_more kept d e ((lock, n) ∷ []) refl r.0 in
        let tried = tried_more kept d e ((lock, n) ∷ []) refl direction r.3 in
        locked_recalls kept direction e room tried (take_looked n) (take_remembers lock d.loads Look (Value n) tt) (look_changed kept direction d out r.1 n e refl (n % 2 == 1) (n == 2 ^ 64 - 2) room tried)

    try_by : (direction : Direction) (free n : ℕ) (d : Doings) → free_of kept.held (target_of direction) ≡ None → RemembersAt site kept d (Lock direction (Try free)) → (b : Bool)
        → Recalls (next_in kept (Lock direction (Try free)) (if b then Won else Lost n)) (with_event_of (take_wanted (lock_of kept (target_of direction)) (Try free)) (if b then Won else Lost n) d)
    try_by direction free n d out r true =
        let e : Doings = record { loads = d.loads; changed = lock_of kept (target_of direction) ∷ d.changed } in
        let room = room_more kept d e [] refl r.0 in
        let tried = tried_more kept d e [] refl direction r.3 in
        locked_recalls kept direction e room tried (taking.Held free) r.2 (won kept direction d out r.1 free e refl)
    try_by direction free n d out r false =
        let e : Doings = record { loads = d.loads; changed = d.changed } in
        let room = room_more kept d e [] refl r.0 in
        let tried = tried_more kept d e [] refl direction r.3 in
        locked_recalls kept direction e room tried (take_lost free n) (take_remembers (lock_of kept (target_of direction)) d.loads (Try free) (Lost n) r.2) (lost_changed kept direction d out r.1 free n e (n % 2 == 1) room tried)

    fill_next : (direction : Direction) (load : Load) (n : ℕ) (d : Doings) → RemembersAt site kept d (Fill direction load) → RecallsNext (Fill direction load) n d
    fill_next direction load n d r =
        let x : ℕ × ℕ = (lock_of kept (target_of direction) + load.next % 32, n) in
        let e : Doings = record { loads = x ∷ d.loads; changed = d.changed } in
        fill_recalls kept direction e (room_more kept d e (x ∷ []) refl r.0) r.1 (tried_more kept d e (x ∷ []) refl direction r.3) (load_taken load n) (load_stands (lock_of kept (target_of direction)) d.loads load n r.2)

    -- WHAT IS REMEMBERED at each step is kept by its event
    pub recalls_next : (s : MoveStep) (n : ℕ) (d : Doings) → RemembersAt site kept d s → wanted_in kept s ≢ want.Done
        → ((direction : Direction) (take : Take) → s ≡ Lock direction take → free_of kept.held (target_of direction) ≡ None) → RecallsNext s n d
    recalls_next (Lock direction Look) n d r asks out = look_next direction n d (out direction Look refl) r
    recalls_next (Lock direction (Try free)) n d r asks out = try_by direction free n d (out direction (Try free) refl) r (n == free)
    recalls_next (Fill direction load) n d r asks out = fill_next direction load n d r
    recalls_next CountSpent n d r asks out = giving_recalls kept (After CountSpent n d) kept.held _
    recalls_next (step.Make shift leg m) n d r asks out = make_recalls kept _ shift leg m _
    recalls_next (Draw shift) n d r asks out = giving_recalls kept (After (Draw shift) n d) kept.held _
    recalls_next (Give held end) n d r asks out = give_recalls kept _ held end _
    recalls_next (Ended end) n d r asks out = absurd (asks refl)
