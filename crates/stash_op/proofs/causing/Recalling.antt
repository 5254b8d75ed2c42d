-- What is kept was loaded, at each step, and up to the stores the attempt changed its locks alone.
use Rattle.std.proofs.Common.{◌≡◌, ◌≢◌, ℕ, ◌+◌, ◌-◌, ◌%◌, ◌^◌, ◌<◌, ◌≤◌, Bool, true, false, Option, None, Some, List, [], ◌∷◌, ◌++◌, inl, inr, refl, sym, ap, ◌∙◌, subst, slice_index}
use Rattle.std.specs.Prelude.{◌==◌, if◌then◌else◌}
use Rattle.std.proofs.lemmas.Option.{none-some}
use Rattle.op_core.specs.declared.want.Want.TheVariants as want
use Rattle.op_core.specs.declared.want.Ans.{Ans}
use Rattle.op_core.specs.declared.want.Ans.TheVariants.{Value, Won, Lost, Passed}
use Rattle.world.specs.Ground.{Ground}
use Rattle.world.specs.Views.{Has}
use Rattle.world.specs.Wants.{answer_to}
use Rattle.part.specs.Doings.{Doings, with_event_of}
use Rattle.phase.specs.declared.role.Role.{Role}
use Rattle.phase.specs.declared.role.Role.TheVariants as place
use Rattle.phase.specs.declared.take.Take.{Take}
use Rattle.phase.specs.declared.take.Take.TheVariants.{Look, Try}
use Rattle.phase.specs.declared.take.Taken.TheVariants as taking
use Rattle.phase.specs.declared.load.Load.{Load}
use Rattle.phase.specs.declared.load.Loaded.{Loaded}
use Rattle.phase.specs.declared.load.Loaded.TheVariants as loaded
use Rattle.phase.specs.declared.make.Make.{Make}
use Rattle.phase.specs.declared.make.Made.{Made}
use Rattle.phase.specs.declared.make.Made.TheVariants as made
use Rattle.phase.specs.declared.held.Held.{Held}
use Rattle.phase.specs.declared.kept.Kept.{Kept}
use Rattle.phase.specs.Places.{is_third, lock_word}
use Rattle.phase.specs.Takes.{take_wanted}
use Rattle.phase.specs.Loads.{load_taken}
use Rattle.phase.specs.Makes.{make_taken}
use Rattle.phase.specs.Helds.{with_held, without_held, free_of, given}
use Rattle.phase.specs.Buckets.{words_in}
use Rattle.phase.specs.Stands.{HasLoaded as HasLoadedWords}
use Rattle.phase.specs.Taking.{RemembersTaken}
use Rattle.phase.specs.Giving.{IsHeld}
use Rattle.phase.specs.Keeps.{WasLoaded, ChangedLocks, LoadedFull, RemembersRoom}
use Rattle.phase.specs.Third.{NothingToMove}
use Rattle.phase.specs.Causes.{WasFound}
use Rattle.phase.proofs.asking.Asked.{one_place, cases_place}
use Rattle.phase.proofs.Wording.{words_this, words_other}
use Rattle.phase.proofs.asking.Causing.{has_more, found_more}
use Rattle.phase.proofs.Loading.{load_begins, load_stands}
use Rattle.phase.proofs.locks.Giving.{held_this, held_other, gone_other, free_less}
use Rattle.phase.proofs.locks.Taking.{take_remembers}
use Rattle.stash_op.specs.declared.step.StashBucket.{StashBucket}
use Rattle.stash_op.specs.declared.step.StashBucket.TheVariants.{First, Second}
use Rattle.stash_op.specs.declared.step.Seen.{Seen}
use Rattle.phase.specs.declared.ending.Ending.{Ending}
use Rattle.phase.specs.declared.ending.Ending.TheVariants as ending
use Rattle.phase.specs.declared.note.NoteWord.{NoteWord}
use Rattle.phase.specs.declared.note.NoteWord.TheVariants.{Mark, Fingers}
use Rattle.phase.proofs.locks.Choosing.{by_both, by_step}
use Rattle.stash_op.specs.declared.step.StashEnd.TheVariants as ends
use Rattle.stash_op.specs.declared.step.StashStep.{StashStep}
use Rattle.stash_op.specs.declared.step.StashStep.TheVariants.{Lock, Fill, Note, Draw, CountSpent, Give, Ended}
use Rattle.stash_op.specs.declared.step.StashStep.TheVariants as step
use Rattle.stash_op.specs.declared.step.Stage.{Stage}
use Rattle.stash_op.specs.Search.{place_of, free_slot, noted, has_finger}
use Rattle.stash_op.specs.Steps.{go, end_of, giving, in_second, at_second, in_first, at_first, searched, put_in, filled_to, with_lock, locked_to, made_to, noted_to, lock_of, wanted_in, next_in, nothing, kept_in}
use Rattle.stash_op.proofs.Over.{full}
use Rattle.stash_op.specs.StashPart.{RemembersKept, HasPassed, RemembersIn, BeginsRemembering, HandsOnRemembering}

-- ---- with more that was loaded
module _ (kept : Kept) (loads more all : List (ℕ × ℕ)) (is : all ≡ more ++ loads) where
  loaded_more : (p : Role) → WasLoaded kept loads p → WasLoaded kept all p
  loaded_more p r j from low = subst (λ (l : List (ℕ × ℕ)). Has (lock_word kept.site kept.hash kept.segment p + j, slice_index (words_in kept.buckets p) j) l) (sym is) (has_more more loads (lock_word kept.site kept.hash kept.segment p + j, slice_index (words_in kept.buckets p) j) (r j from low))

  room_more : (site : Ground) → RemembersRoom site kept loads → RemembersRoom site kept all
  room_more site r = record {
    path = r.path;
    there = r.there;
    found = subst (λ (l : List (ℕ × ℕ)). WasFound kept.site kept.hash l r.path) (sym is) (found_more kept.site kept.hash more loads r.path r.found);
    head = r.head;
    buckets = λ p held own. loaded_more p (r.buckets p held own);
    home = (loaded_more place.Home r.home.0, r.home.1);
    probing = (loaded_more place.Probing r.probing.0, r.probing.1);
  }

  nothing_more : NothingToMove kept loads → NothingToMove kept all
  nothing_more r = record { next = loaded_more place.Next r.next; previous = loaded_more place.Previous r.previous; moves = r.moves }

module _ (site : Ground) (kept : Kept) where
  -- what a stage remembers
  abbrev pub Recalls : Stage → Doings → Type 0
  Recalls stage d = RemembersIn site kept stage.seen d stage.step

  module _ (seen : Seen) (d e : Doings) (more : List (ℕ × ℕ)) (is : e.loads ≡ more ++ d.loads) where
    kept_more : (held : Held) → e.changed ≡ d.changed → RemembersKept site kept seen d held → RemembersKept site kept seen e held
    kept_more held same r = record {
      room = room_more (kept_in kept (record seen { held = held })) d.loads more e.loads is site r.room;
      nothing = nothing_more (kept_in kept seen) d.loads more e.loads is r.nothing;
      changed = λ word has. r.changed word (subst (λ (l : List ℕ). Has word l) same has);
    }

    passed_more : (b : StashBucket) → HasPassed site kept seen d b → HasPassed site kept seen e b
    passed_more First p = tt
    passed_more Second p = (loaded_more (kept_in kept seen) d.loads more e.loads is place.First p.0, p.1)

  -- ---- locks back
  end_recalls : (seen : Seen) (d : Doings) (end : Ending) → RemembersIn site kept seen d (Ended (end_of end))
  end_recalls seen d (ending.Replied answer place) = tt
  end_recalls seen d (ending.Again why) = tt

  giving_recalls : (seen : Seen) (d : Doings) (held : Held) (end : Ending) → RemembersIn site kept seen d (giving held end)
  giving_recalls seen d held end = by_step (RemembersIn site kept seen d) held (Give held end) (Ended (end_of end)) tt (end_recalls seen d end)

  -- ---- a free slot
  module _ (seen : Seen) (d : Doings) (r : RemembersKept site kept seen d seen.held) where
    second_recalls : (slot : Option ℕ) → Recalls (in_second kept seen slot) d
    second_recalls (Some slot) = tt
    second_recalls None = r

    at_second_recalls : HasPassed site kept seen d Second → (lock : Option ℕ) → Recalls (at_second kept seen lock) d
    at_second_recalls passed (Some free) = second_recalls (free_slot seen.buckets Second)
    at_second_recalls passed None = (r, tt, passed)

    first_recalls : WasLoaded (kept_in kept seen) d.loads place.First → (slot : Option ℕ) → free_slot seen.buckets First ≡ slot → Recalls (in_first kept seen slot) d
    first_recalls was (Some slot) is = tt
    first_recalls was None is = at_second_recalls (was, is) seen.held.second

    at_first_recalls : (lock : Option ℕ) → seen.held.first ≡ lock → Recalls (at_first kept seen lock) d
    at_first_recalls (Some free) is = first_recalls (r.room.buckets place.First (free, is) refl) (free_slot seen.buckets First) refl
    at_first_recalls None is = (r, tt, tt)

  -- ---- a lock
  module _ (seen : Seen) (b : StashBucket) (d : Doings) (out : free_of seen.held (place_of b) ≡ None) (r : RemembersKept site kept seen d seen.held) (passed : HasPassed site kept seen d b) where
    abbrev lock : ℕ
    lock = lock_of kept (place_of b)

    still_held : (p : Role) (free : ℕ) → IsHeld seen.held p → IsHeld (with_held (place_of b) free seen.held) p
    still_held p free (value, is) = (
      value,
      held_other seen.held free (place_of b) p (λ e. none-some _ (sym out ∙ ap (free_of seen.held) (sym (one_place p (place_of b) e)) ∙ is)) ∙ is,
    )

    won : (free : ℕ) → ChangedLocks (kept_in kept (with_lock seen b free)) (lock ∷ d.changed)
    won free word has = elim has [
      | inl same ↦ (place_of b, (free, held_this seen.held free (place_of b)), same)
      | inr old ↦ let was = r.changed word old in (was.0, still_held was.0 free was.1, was.2)
    ]

    -- without that lock those are held that were
    was_held : (free : ℕ) (p : Role) → IsHeld (without_held (place_of b) (with_held (place_of b) free seen.held)) p → IsHeld seen.held p
    was_held free p (value, is) =
        let less = free_less (with_held (place_of b) free seen.held) (place_of b) p value is in
        (value, sym (held_other seen.held free (place_of b) p less.1) ∙ less.0)

    held_recalls : (free : ℕ) → Recalls (locked_to seen b lock (taking.Held free)) (record { loads = d.loads; changed = lock ∷ d.changed })
    held_recalls free = (
      record {
        room = record {
          path = r.room.path;
          there = r.room.there;
          found = r.room.found;
          head = r.room.head;
          buckets = λ p held own. r.room.buckets p (was_held free p held) own;
          home = r.room.home;
          probing = r.room.probing;
        };
        nothing = record { next = r.nothing.next; previous = r.nothing.previous; moves = r.nothing.moves };
        changed = won free;
      },
      load_begins _ _,
    )

    -- after a look, or a lock that was lost
    look_recalls : (n : ℕ) (odd spent : Bool) → RemembersTaken lock d.loads (if odd then taking.Busy n else if spent then taking.Spent else taking.On (Try n))
        → Recalls (locked_to seen b lock (if odd then taking.Busy n else if spent then taking.Spent else taking.On (Try n))) d
    look_recalls n true spent t = giving_recalls seen d seen.held _
    look_recalls n false true t = (r, (b, passed, t))
    look_recalls n false false t = (r, t, passed)

    lost_recalls : (free n : ℕ) (odd : Bool) → Recalls (locked_to seen b lock (if odd then taking.Busy n else taking.Moved free n)) d
    lost_recalls free n true = giving_recalls seen d seen.held _
    lost_recalls free n false = giving_recalls seen d seen.held _

  -- ---- a stash bucket
  -- its words are put in, which were loaded, beside those of the others
  module _ (seen : Seen) (d : Doings) (ws : List ℕ) (b : StashBucket) (r : RemembersKept site kept seen d (without_held (place_of b) seen.held))
      (all : (j : ℕ) → 1 ≤ j → j < 32 → Has (lock_of kept (place_of b) + j, slice_index ws j) d.loads) where
    put_bucket : (p : Role) → IsHeld seen.held p → is_third p ≡ false → WasLoaded (kept_in kept (put_in seen b ws)) d.loads p
    put_bucket p (value, is) own = elim (cases_place p (place_of b)) [
      | inl same ↦
          subst (λ (z : Role). WasLoaded (kept_in kept (put_in seen b ws)) d.loads z) (sym same)
          (subst (λ (l : List ℕ). (j : ℕ) → 1 ≤ j → j < 32 → Has (lock_of kept (place_of b) + j, slice_index l j) d.loads) (sym (words_this seen.buckets ws (place_of b))) all)
      | inr apart ↦
          subst (λ (l : List ℕ). (j : ℕ) → 1 ≤ j → j < 32 → Has (lock_of kept p + j, slice_index l j) d.loads) (sym (words_other seen.buckets ws (place_of b) p apart))
          (r.room.buckets p (value, gone_other seen.held (place_of b) p apart ∙ is) own)
    ]

    put_near : (c : StashBucket) → LoadedFull (kept_in kept (put_in seen c ws)) d.loads place.Home × LoadedFull (kept_in kept (put_in seen c ws)) d.loads place.Probing
    put_near First = (r.room.home, r.room.probing)
    put_near Second = (r.room.home, r.room.probing)

    put_nothing : (c : StashBucket) → NothingToMove (kept_in kept (put_in seen c ws)) d.loads
    put_nothing First = record { next = r.nothing.next; previous = r.nothing.previous; moves = r.nothing.moves }
    put_nothing Second = record { next = r.nothing.next; previous = r.nothing.previous; moves = r.nothing.moves }

    put_kept : RemembersKept site kept (put_in seen b ws) d seen.held
    put_kept = record {
      room = record { path = r.room.path; there = r.room.there; found = r.room.found; head = r.room.head; buckets = put_bucket; home = (put_near b).0; probing = (put_near b).1 };
      nothing = put_nothing b;
      changed = r.changed;
    }

    searched_by : (c : StashBucket) → RemembersKept site kept (put_in seen c ws) d seen.held → ((j : ℕ) → 1 ≤ j → j < 32 → Has (lock_of kept (place_of c) + j, slice_index ws j) d.loads)
        → Recalls (searched kept (put_in seen c ws) c) d
    searched_by First k was = first_recalls (put_in seen First ws) d k was (free_slot (put_in seen First ws).buckets First) refl
    searched_by Second k was = second_recalls (put_in seen Second ws) d k (free_slot (put_in seen Second ws).buckets Second)

    searched_recalls : Recalls (searched kept (put_in seen b ws) b) d
    searched_recalls = searched_by b put_kept all

  fill_recalls : (seen : Seen) (b : StashBucket) (d : Doings) → RemembersKept site kept seen d (without_held (place_of b) seen.held) → (x : Loaded)
      → HasLoadedWords (lock_of kept (place_of b)) d.loads x → Recalls (filled_to kept seen b x) d
  fill_recalls seen b d r (loaded.On next) has = (r, has)
  fill_recalls seen b d r (loaded.All ws) has = searched_recalls seen d ws b r has

  -- ---- stores, the note, and locks back
  module _ (seen : Seen) (d : Doings) where
    made_recalls : (x : Made) → Recalls (made_to seen x) d
    made_recalls (made.On m) = tt
    made_recalls made.Settled = tt

    make_recalls : (m : Make) (a : Ans) → Recalls (next_in kept seen (step.Make m) a) d
    make_recalls m Passed = made_recalls (make_taken seen.written.slot m)
    make_recalls m a = tt

    noted_recalls : (part : NoteWord) → Recalls (noted_to kept.hash seen part) d
    noted_recalls Mark = by_both (λ (s : Stage). Recalls s d) (has_finger seen (noted kept.hash seen)) (go seen (Note Fingers)) (go seen Draw) tt tt
    noted_recalls Fingers = tt

    note_recalls : (part : NoteWord) (a : Ans) → Recalls (next_in kept seen (Note part) a) d
    note_recalls part Passed = noted_recalls part
    note_recalls part a = tt

    give_recalls : (held : Held) (end : Ending) (a : Ans) → Recalls (next_in kept seen (Give held end) a) d
    give_recalls held end Passed = giving_recalls seen d (given held) end
    give_recalls held end a = tt

  -- ---- an event
  abbrev After : Seen → StashStep → ℕ → Doings → Doings
  After seen s n d = with_event_of (wanted_in kept seen s) (answer_to (wanted_in kept seen s) n) d

  abbrev pub RecallsNext : Seen → StashStep → ℕ → Doings → Type 0
  RecallsNext seen s n d = Recalls (next_in kept seen s (answer_to (wanted_in kept seen s) n)) (After seen s n d)

  look_next : (seen : Seen) (b : StashBucket) (n : ℕ) (d : Doings) → free_of seen.held (place_of b) ≡ None → RemembersIn site kept seen d (Lock b Look) → RecallsNext seen (Lock b Look) n d
  look_next seen b n d out r =
      let lock : ℕ = lock_of kept (place_of b) in
      let e : Doings = record { loads = (lock, n) ∷ d.loads; changed = d.changed } in
      let more : List (ℕ × ℕ) = (lock, n) ∷ [] in
      look_recalls seen b e out (kept_more seen d e more refl seen.held refl r.0) (passed_more seen d e more refl b r.2) n (n % 2 == 1) (n == 2 ^ 64 - 2) (take_remembers lock d.loads Look (Value n) tt)

  try_by : (seen : Seen) (b : StashBucket) (free n : ℕ) (d : Doings) → free_of seen.held (place_of b) ≡ None → RemembersIn site kept seen d (Lock b (Try free)) → (t : Bool)
      → Recalls (next_in kept seen (Lock b (Try free)) (if t then Won else Lost n)) (with_event_of (take_wanted (lock_of kept (place_of b)) (Try free)) (if t then Won else Lost n) d)
  try_by seen b free n d out r true = held_recalls seen b d out r.0 r.2 free
  try_by seen b free n d out r false = lost_recalls seen b d out r.0 r.2 free n (n % 2 == 1)

  fill_next : (seen : Seen) (b : StashBucket) (load : Load) (n : ℕ) (d : Doings) → RemembersIn site kept seen d (Fill b load) → RecallsNext seen (Fill b load) n d
  fill_next seen b load n d r =
      let x : ℕ × ℕ = (lock_of kept (place_of b) + load.next % 32, n) in
      let e : Doings = record { loads = x ∷ d.loads; changed = d.changed } in
      fill_recalls seen b e (kept_more seen d e (x ∷ []) refl (without_held (place_of b) seen.held) refl r.0) (load_taken load n) (load_stands (lock_of kept (place_of b)) d.loads load n r.1)

  -- WHAT IS REMEMBERED at each step is kept by its event
  pub recalls_next : (seen : Seen) (s : StashStep) (n : ℕ) (d : Doings) → RemembersIn site kept seen d s → wanted_in kept seen s ≢ want.Done
      → ((b : StashBucket) (take : Take) → s ≡ Lock b take → free_of seen.held (place_of b) ≡ None) → RecallsNext seen s n d
  recalls_next seen (Lock b Look) n d r asks out = look_next seen b n d (out b Look refl) r
  recalls_next seen (Lock b (Try free)) n d r asks out = try_by seen b free n d (out b (Try free) refl) r (n == free)
  recalls_next seen (Fill b load) n d r asks out = fill_next seen b load n d r
  recalls_next seen (step.Make m) n d r asks out = make_recalls seen _ m _
  recalls_next seen (Note part) n d r asks out = note_recalls seen _ part _
  recalls_next seen Draw n d r asks out = giving_recalls seen (After seen Draw n d) seen.held _
  recalls_next seen CountSpent n d r asks out = giving_recalls seen (After seen CountSpent n d) seen.held _
  recalls_next seen (Give held end) n d r asks out = give_recalls seen _ held end _
  recalls_next seen (Ended end) n d r asks out = absurd (asks refl)

-- ---- where it begins, and where it hands on
pub begins_remembering : BeginsRemembering
begins_remembering site kept did room none changed = at_first_recalls site kept (nothing kept) did (record {
  room = record { path = room.path; there = room.there; found = room.found; head = room.head; buckets = room.buckets; home = room.home; probing = room.probing };
  nothing = record { next = none.next; previous = none.previous; moves = none.moves };
  changed = changed;
}) kept.held.first refl

pub hands_on_remembering : HandsOnRemembering
hands_on_remembering site op did is r =
    let e = full op.stage.step is in
    let all : RemembersIn site op.kept op.stage.seen did (Ended (ends.NeedSplit e.0)) = subst (λ z. RemembersIn site op.kept op.stage.seen did z) e.1 r in
    record {
      room = record { path = all.room.path; there = all.room.there; found = all.room.found; head = all.room.head; buckets = all.room.buckets; home = all.room.home; probing = all.room.probing };
      nothing = all.nothing;
      changed = all.changed;
    }
