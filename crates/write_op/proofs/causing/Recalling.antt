-- What a change keeps was loaded, at each of its steps, and before its stores it changed its locks alone.
use Rattle.std.proofs.Common.{◌≡◌, ℕ, ◌+◌, ◌-◌, ◌%◌, ◌^◌, ◌<◌, ◌≤◌, Bool, true, false, Option, None, Some, List, [], ◌∷◌, ◌++◌, inl, inr, refl, sym, ap, ◌∙◌, subst, arith, slice_index}
use Rattle.std.specs.Prelude.{⊤, ◌==◌, nat_le, if◌then◌else◌}
use Rattle.std.proofs.lemmas.Option.{none-some}
use Rattle.op_core.specs.declared.want.Ans.{Ans}
use Rattle.op_core.specs.declared.want.Ans.TheVariants.{Value, Won, Lost, Passed}
use Rattle.op_core.specs.Answers.{change_of}
use Rattle.image_layout.specs.Volatile.{counter_word}
use Rattle.map_model.specs.declared.change.Effect.{Effect}
use Rattle.map_model.specs.declared.change.Effect.TheVariants.{Insert, Update, Remove}
use Rattle.map_model.specs.declared.entry.Reply.TheVariants as reply
use Rattle.world.specs.Views.{Has}
use Rattle.world.specs.Wants.{answer_to}
use Rattle.part.specs.Doings.{Doings, with_event_of}
use Rattle.phase.specs.declared.role.Role.{Role}
use Rattle.phase.specs.declared.role.Role.TheVariants.{Home, Probing, First, Second, Next, Previous}
use Rattle.phase.specs.declared.walk.Walk.{Walk}
use Rattle.phase.specs.declared.walk.Walk.TheVariants as walk
use Rattle.phase.specs.declared.walk.Walked.{Walked}
use Rattle.phase.specs.declared.walk.Walked.TheVariants as walked
use Rattle.phase.specs.declared.take.Take.{Take}
use Rattle.phase.specs.declared.take.Take.TheVariants.{Look, Try}
use Rattle.phase.specs.declared.take.Taken.{Taken}
use Rattle.phase.specs.declared.take.Taken.TheVariants as taking
use Rattle.phase.specs.declared.back.Backed.{Backed}
use Rattle.phase.specs.declared.back.Backed.TheVariants as backed
use Rattle.phase.specs.declared.load.Load.{Load}
use Rattle.phase.specs.declared.load.Loaded.{Loaded}
use Rattle.phase.specs.declared.load.Loaded.TheVariants as loaded
use Rattle.phase.specs.declared.make.Make.{Make}
use Rattle.phase.specs.declared.make.Made.{Made}
use Rattle.phase.specs.declared.make.Made.TheVariants as made
use Rattle.phase.specs.declared.held.Held.{Held}
use Rattle.phase.specs.Walks.{walk_wanted, walk_taken}
use Rattle.phase.specs.Takes.{take_wanted, take_looked, take_lost}
use Rattle.phase.specs.Backs.{back_word, back_taken}
use Rattle.phase.specs.Loads.{load_taken}
use Rattle.phase.specs.Makes.{make_taken}
use Rattle.phase.specs.Helds.{with_held, free_of, given}
use Rattle.phase.specs.Stands.{HasLoaded as HasLoadedWords}
use Rattle.phase.specs.Taking.{RemembersTaken}
use Rattle.phase.specs.Giving.{IsHeld}
use Rattle.phase.specs.Asked.{index, loaded_by}
use Rattle.phase.specs.Keeps.{WasLoaded}
use Rattle.phase.specs.Buckets.{with_words, words_in}
use Rattle.phase.specs.Causes.{WasFound, RemembersWalked}
use Rattle.phase.proofs.asking.Asked.{one_place, none_before, near_asked, upto_more, upto_less}
use Rattle.phase.proofs.Wording.{words_this, words_other}
use Rattle.phase.proofs.locks.Giving.{held_this, held_other}
use Rattle.phase.proofs.asking.Causing.{has_more, found_more, walk_remembers}
use Rattle.phase.proofs.locks.Taking.{take_remembers}
use Rattle.phase.proofs.Loading.{load_begins, load_stands}
use Rattle.write_op.specs.declared.step.Task.{Task}
use Rattle.write_op.specs.declared.step.Spot.{Spot}
use Rattle.write_op.specs.declared.step.Seen.{Seen}
use Rattle.phase.specs.declared.ending.Ending.{Ending}
use Rattle.phase.specs.declared.ending.Ending.TheVariants as ending
use Rattle.write_op.specs.declared.step.WriteEnd.{WriteEnd}
use Rattle.write_op.specs.declared.step.WriteEnd.TheVariants as ends
use Rattle.phase.specs.declared.note.NoteWord.{NoteWord}
use Rattle.phase.specs.declared.note.NoteWord.TheVariants.{Mark, Fingers}
use Rattle.phase.proofs.locks.Choosing.{by_both, by_step}
use Rattle.write_op.specs.declared.step.WriteStep.{WriteStep}
use Rattle.write_op.specs.declared.step.WriteStep.TheVariants.{Way, Lock, Check, Fill, Count, Draw, Unnote, CountSpent, Give, Ended}
use Rattle.write_op.specs.declared.step.WriteStep.TheVariants as step
use Rattle.write_op.specs.declared.step.Stage.{Stage}
use Rattle.write_op.specs.Search.{found, room_in, visits, leaves_note, unnoted, has_finger}
use Rattle.write_op.specs.Steps.{kept_in, go, end_of, giving, answered, walked_to, locked_to, backed_to, visit_second, with_visits, filled_with, filled_to, inserting, changing, decided, made_to, drawn_to, unnoted_to, lock_of, wanted_in, next_in}
use Rattle.write_op.specs.Fits.{is_asked, Upto}
use Rattle.write_op.specs.ChangePart.{HasReason, WasThere, ChangedOwn, LoadedUpto, LoadedHeld, AsksFor, RemembersIn}
use Rattle.write_op.proofs.finding.Rooms.{room_none}
use Rattle.write_op.proofs.keeping.Stepping.{walk_answer}

walk_changes : (task : Task) (w : Walk) (a : Ans) → change_of (walk_wanted task.site task.hash w) a ≡ []
walk_changes task walk.Power a = refl
walk_changes task walk.Root a = refl
walk_changes task (walk.Entry root) a = refl
walk_changes task (walk.Head root segment) a = refl

module _ (task : Task) where
  -- what a stage remembers
  abbrev pub Recalls : Stage → Doings → Type 0
  Recalls stage d = RemembersIn task stage.seen d stage.step

  -- ---- with more that was loaded
  module _ (seen : Seen) (d e : Doings) (more : List (ℕ × ℕ)) (is : e.loads ≡ more ++ d.loads) where
    there_more : WasThere task seen d → WasThere task seen e
    there_more r = subst (λ l. WasFound task.site task.hash l seen.path) (sym is) (found_more task.site task.hash more d.loads seen.path r)

    loaded_more : (n : ℕ) → LoadedUpto task seen d n → LoadedUpto task seen e n
    loaded_more n r place u j from low =
        subst (λ l. Has (lock_of task seen place + j, slice_index (words_in seen.buckets place) j) l) (sym is) (has_more more d.loads _ (r place u j from low))

  -- nothing has to be loaded before the first
  none_loaded : (seen : Seen) (d : Doings) → LoadedUpto task seen d 0
  none_loaded seen d place u = absurd (none_before seen.first seen.second place u)

  -- ---- locks back
  end_recalls : (seen : Seen) (d : Doings) (end : Ending) → RemembersIn task seen d (Ended (end_of end))
  end_recalls seen d (ending.Replied answer place) = tt
  end_recalls seen d (ending.Again why) = tt

  giving_recalls : (seen : Seen) (d : Doings) (held : Held) (end : Ending) → RemembersIn task seen d (giving held end)
  giving_recalls seen d held end = by_step (RemembersIn task seen d) held (Give held end) (Ended (end_of end)) tt (end_recalls seen d end)

  -- ---- the way
  module _ (seen : Seen) (d : Doings) (none : d.changed ≡ []) where
    walked_recalls : (x : Walked) → RemembersWalked task.site task.hash d.loads x → Recalls (walked_to seen x) d
    walked_recalls (walked.On w) r = (r, none)
    walked_recalls (walked.There path) r = (
      r,
      (λ word has. absurd (subst (λ (l : List ℕ). Has word l) none has)),
      tt,
      record { reason = tt; before = none_loaded (record seen { path = path }) d },
    )
    walked_recalls walked.Off r = tt
    walked_recalls (walked.Amiss word value) r = tt
    walked_recalls (walked.Stale segment version) r = tt

  -- ---- a lock
  module _ (seen : Seen) (place : Role) (d : Doings) (there : WasThere task seen d) (asks : AsksFor task seen d place) where
    -- by what was made of it
    abbrev Changed : Taken → Type 0
    Changed (taking.On take) = ChangedOwn task seen d
    Changed (taking.Held free) = ChangedOwn task (record seen { held = with_held place free seen.held }) d
    Changed more = ⊤

    held_recalls : (p : Role) (free : ℕ) → ChangedOwn task (record seen { held = with_held p free seen.held }) d → AsksFor task seen d p
        → Recalls (locked_to seen p (lock_of task seen p) (taking.Held free)) d
    held_recalls Home free changed a = (there, changed, tt, record { reason = tt; before = a.before })
    held_recalls Probing free changed a = (there, changed)
    held_recalls First free changed a = (there, changed, a.before, load_begins _ _, a.reason)
    held_recalls Second free changed a = (there, changed, a.before, load_begins _ _, a.reason)
    held_recalls Next free changed a = absurd a.reason
    held_recalls Previous free changed a = absurd a.reason

    locked_recalls : (x : Taken) → RemembersTaken (lock_of task seen place) d.loads x → Changed x → Recalls (locked_to seen place (lock_of task seen place) x) d
    locked_recalls (taking.On take) r changed = (there, changed, r, asks)
    locked_recalls (taking.Held free) r changed = held_recalls place free changed asks
    locked_recalls (taking.Busy value) r changed = giving_recalls seen d seen.held _
    locked_recalls (taking.Moved first after) r changed = giving_recalls seen d seen.held _
    locked_recalls taking.Spent r changed = (there, (place, asks, r))

  -- which words were changed then
  module _ (seen : Seen) (place : Role) (d : Doings) (out : free_of seen.held place ≡ None) (changed : ChangedOwn task seen d) where
    abbrev lock : ℕ
    lock = lock_of task seen place

    still_held : (p : Role) (free : ℕ) → IsHeld seen.held p → IsHeld (with_held place free seen.held) p
    still_held p free (value, is) = (
      value,
      held_other seen.held free place p (λ e. none-some _ (sym out ∙ ap (free_of seen.held) (sym (one_place p place e)) ∙ is)) ∙ is,
    )

    won : (free : ℕ) (e : Doings) → e.changed ≡ lock ∷ d.changed → ChangedOwn task (record seen { held = with_held place free seen.held }) e
    won free e is word has = elim (subst (λ (l : List ℕ). Has word l) is has) [
      | inl same ↦ (place, (free, held_this seen.held free place), same)
      | inr old ↦ let was = changed word old in (was.0, still_held was.0 free was.1, was.2)
    ]

    look_changed : (n : ℕ) (e : Doings) → e.changed ≡ d.changed → (odd spent : Bool) → (there : WasThere task seen e) (asks : AsksFor task seen e place)
        → Changed seen place e there asks (if odd then taking.Busy n else if spent then taking.Spent else taking.On (Try n))
    look_changed n e is true spent there asks = tt
    look_changed n e is false true there asks = tt
    look_changed n e is false false there asks = λ word has. changed word (subst (λ (l : List ℕ). Has word l) is has)

    lost_changed : (free n : ℕ) (e : Doings) (odd : Bool) (there : WasThere task seen e) (asks : AsksFor task seen e place)
        → Changed seen place e there asks (if odd then taking.Busy n else taking.Moved free n)
    lost_changed free n e true there asks = tt
    lost_changed free n e false there asks = tt

  -- ---- the way again
  backed_recalls : (seen : Seen) (d : Doings) → WasThere task seen d → ChangedOwn task seen d → (x : Backed) → Recalls (backed_to seen x) d
  backed_recalls seen d there changed (backed.On back) = (there, changed)
  backed_recalls seen d there changed backed.Same = (there, changed, none_loaded seen d, load_begins _ _, tt)
  backed_recalls seen d there changed (backed.Moved word before after) = giving_recalls seen d seen.held _

  -- ---- buckets
  module _ (d : Doings) (seen : Seen) (there : WasThere task seen d) (changed : ChangedOwn task seen d) where
    -- where one is not asked for
    skip : (p : Role) → is_asked seen p ≡ false → LoadedUpto task seen d (index p) → LoadedUpto task seen d (index p + 1)
    skip p out loaded q u = loaded q (upto_less seen.first seen.second p q out u)

    second_recalls : LoadedUpto task seen d 3 → seen.second ≡ visits task.hash seen.buckets 1 → (b : Bool) → seen.second ≡ b
        → RemembersIn task seen d (if b then Lock Second Look else Count)
    second_recalls loaded by_notes true e = (there, changed, tt, record { reason = sym by_notes ∙ e; before = loaded })
    second_recalls loaded by_notes false e = (there, changed, skip Second e loaded)

    first_recalls : LoadedUpto task seen d 2 → seen.first ≡ visits task.hash seen.buckets 0 → seen.second ≡ visits task.hash seen.buckets 1 → (b : Bool) → seen.first ≡ b
        → RemembersIn task seen d (if b then Lock First Look else visit_second seen)
    first_recalls loaded by_notes second true e = (there, changed, tt, record { reason = (sym by_notes ∙ e, second); before = loaded })
    first_recalls loaded by_notes second false e = second_recalls (skip First e loaded) second seen.second refl

  -- with its words put in
  module _ (d : Doings) (seen : Seen) (place : Role) (words : List ℕ) where
    abbrev put : Seen
    put = record seen { buckets = with_words place words seen.buckets }

    put_loaded : LoadedUpto task seen d (index place) → HasLoadedWords (lock_of task seen place) d.loads (loaded.All words) → LoadedUpto task put d (index place + 1)
    put_loaded loaded all p u = elim (upto_more seen.first seen.second place p u) [
      | inl same ↦
          subst (λ (z : Role). WasLoaded (kept_in task put) d.loads z) (sym same)
          (subst (λ (ws : List ℕ). (j : ℕ) → 1 ≤ j → j < 32 → Has (lock_of task seen place + j, slice_index ws j) d.loads) (sym (words_this seen.buckets words place)) all)
      | inr before ↦ subst (λ (ws : List ℕ). (j : ℕ) → 1 ≤ j → j < 32 → Has (lock_of task seen p + j, slice_index ws j) d.loads)
          (sym (words_other seen.buckets words place p (λ e. let low = before.low in omega (arith, low, e)))) (loaded p before)
    ]

  all_recalls : (d : Doings) (seen : Seen) (place : Role) (words : List ℕ) → WasThere task seen d → ChangedOwn task seen d → LoadedUpto task seen d (index place)
      → HasReason task seen place → HasLoadedWords (lock_of task seen place) d.loads (loaded.All words) → Recalls (filled_with task.hash seen place words) d
  all_recalls d seen Home words there changed loaded reason all = (there, changed, put_loaded d seen Home words loaded all, load_begins _ _, tt)
  all_recalls d seen Probing words there changed loaded reason all =
      let put_in : Seen = record seen { buckets = with_words Probing words seen.buckets } in
      let two : LoadedUpto task put_in d 2 = put_loaded d seen Probing words loaded all in
      let next : Seen = with_visits task.hash put_in in
      first_recalls d next there changed (λ q u. two q (record { low = u.low; asked = near_asked seen.first seen.second q u.low })) refl refl next.first refl
  all_recalls d seen First words there changed loaded reason all =
      second_recalls d (record seen { buckets = with_words First words seen.buckets }) there changed (put_loaded d seen First words loaded all) reason.1 seen.second refl
  all_recalls d seen Second words there changed loaded reason all = (there, changed, put_loaded d seen Second words loaded all)
  all_recalls d seen Next words there changed loaded reason all = absurd reason
  all_recalls d seen Previous words there changed loaded reason all = absurd reason

  fill_recalls : (seen : Seen) (place : Role) (e : Doings) → WasThere task seen e → ChangedOwn task seen e → LoadedUpto task seen e (index place)
      → HasReason task seen place → (x : Loaded) → HasLoadedWords (lock_of task seen place) e.loads x → Recalls (filled_to task.hash seen place x) e
  fill_recalls seen place e there changed before reason (loaded.On next) has = (there, changed, before, has, reason)
  fill_recalls seen place e there changed before reason (loaded.All words) has = all_recalls e seen place words there changed before reason has

  -- ---- what is done
  module _ (seen : Seen) (d : Doings) where
    module _ (there : WasThere task seen d) (changed : ChangedOwn task seen d) (all : LoadedHeld task seen d) (near : LoadedUpto task seen d 4) where
      near_loaded : (place : Role) → index place < 2 → WasLoaded (kept_in task seen) d.loads place
      near_loaded place low = near place (record { low = omega (arith, low); asked = near_asked seen.first seen.second place low })

      inserting_recalls : (count : ℕ) (key room : Option Spot) → room_in seen.buckets ≡ room → Recalls (inserting task seen count key room) d
      inserting_recalls count (Some spot) room is = giving_recalls seen d seen.held _
      inserting_recalls count None (Some spot) is = tt
      inserting_recalls count None None is = (there, changed, all, (near_loaded Home (omega arith), (room_none seen.buckets is).0), (near_loaded Probing (omega arith), (room_none seen.buckets is).1))

      changing_recalls : (count : ℕ) (key : Option Spot) → Recalls (changing task seen count key) d
      changing_recalls count (Some spot) = tt
      changing_recalls count None = giving_recalls seen d seen.held _

      decided_recalls : (count : ℕ) (effect : Effect) → Recalls (decided task seen count effect) d
      decided_recalls count (Insert value) = inserting_recalls count (found seen task.change.key) (room_in seen.buckets) refl
      decided_recalls count (Update value) = changing_recalls count (found seen task.change.key)
      decided_recalls count Remove = changing_recalls count (found seen task.change.key)

    made_recalls : (x : Made) → Recalls (made_to seen x) d
    made_recalls (made.On m) = tt
    made_recalls made.Settled = tt

    make_recalls : (m : Make) (a : Ans) → Recalls (next_in task seen (step.Make m) a) d
    make_recalls m Passed = made_recalls (make_taken seen.written.slot m)
    make_recalls m a = tt

    draw_recalls : (n : ℕ) → Recalls (drawn_to task seen n) d
    draw_recalls n = by_both (λ (s : Stage). Recalls s d) (leaves_note task.change.effect seen.place) (go seen (Unnote Mark n)) (answered seen n reply.Done) tt (giving_recalls seen d seen.held _)

    unnoted_recalls : (part : NoteWord) (n : ℕ) → Recalls (unnoted_to task seen part n) d
    unnoted_recalls Mark n = by_both (λ (s : Stage). Recalls s d) (has_finger seen (unnoted task.hash seen)) (go seen (Unnote Fingers n)) (answered seen n reply.Done) tt (giving_recalls seen d seen.held _)
    unnoted_recalls Fingers n = giving_recalls seen d seen.held _

    unnote_recalls : (part : NoteWord) (place : ℕ) (a : Ans) → Recalls (next_in task seen (Unnote part place) a) d
    unnote_recalls part place Passed = unnoted_recalls part place
    unnote_recalls part place a = tt

    give_recalls : (held : Held) (end : Ending) (a : Ans) → Recalls (next_in task seen (Give held end) a) d
    give_recalls held end Passed = giving_recalls seen d (given held) end
    give_recalls held end a = tt

  -- ---- an event
  abbrev After : Seen → WriteStep → ℕ → Doings → Doings
  After seen s n d = with_event_of (wanted_in task seen s) (answer_to (wanted_in task seen s) n) d

  abbrev pub RecallsNext : Seen → WriteStep → ℕ → Doings → Type 0
  RecallsNext seen s n d = Recalls (next_in task seen s (answer_to (wanted_in task seen s) n)) (After seen s n d)

  pub way_next : (seen : Seen) (w : Walk) (n : ℕ) (d : Doings) → RemembersIn task seen d (Way w) → RecallsNext seen (Way w) n d
  way_next seen w n d r =
      subst (λ (a : Ans). Recalls (next_in task seen (Way w) a) (with_event_of (walk_wanted task.site task.hash w) a d)) (sym (walk_answer task.site task.hash w n))
      (walked_recalls seen (with_event_of (walk_wanted task.site task.hash w) (Value n) d) (ap (λ l. l ++ d.changed) (walk_changes task w (Value n)) ∙ r.1) (walk_taken task.site task.hash w n)
      (walk_remembers task.site task.hash d.loads w n r.0))

  -- with more that was loaded
  asks_more : (seen : Seen) (d e : Doings) (more : List (ℕ × ℕ)) → e.loads ≡ more ++ d.loads → (place : Role) → AsksFor task seen d place → AsksFor task seen e place
  asks_more seen d e more is place a = record { reason = a.reason; before = loaded_more seen d e more is (loaded_by place) a.before }

  look_next : (seen : Seen) (place : Role) (n : ℕ) (d : Doings) → free_of seen.held place ≡ None → RemembersIn task seen d (Lock place Look) → RecallsNext seen (Lock place Look) n d
  look_next seen place n d out r =
      let lock : ℕ = lock_of task seen place in
      let e : Doings = record { loads = (lock, n) ∷ d.loads; changed = d.changed } in
      let there = there_more seen d e ((lock, n) ∷ []) refl r.0 in
      let asks = asks_more seen d e ((lock, n) ∷ []) refl place r.3 in
      locked_recalls seen place e there asks (take_looked n) (take_remembers lock d.loads Look (Value n) tt) (look_changed seen place d out r.1 n e refl (n % 2 == 1) (n == 2 ^ 64 - 2) there asks)

  try_by : (seen : Seen) (place : Role) (free n : ℕ) (d : Doings) → free_of seen.held place ≡ None → RemembersIn task seen d (Lock place (Try free)) → (b : Bool)
      → Recalls (next_in task seen (Lock place (Try free)) (if b then Won else Lost n)) (with_event_of (take_wanted (lock_of task seen place) (Try free)) (if b then Won else Lost n) d)
  try_by seen place free n d out r true =
      let e : Doings = record { loads = d.loads; changed = lock_of task seen place ∷ d.changed } in
      let there = there_more seen d e [] refl r.0 in
      let asks = asks_more seen d e [] refl place r.3 in
      locked_recalls seen place e there asks (taking.Held free) r.2 (won seen place d out r.1 free e refl)
  try_by seen place free n d out r false =
      let e : Doings = record { loads = d.loads; changed = d.changed } in
      let there = there_more seen d e [] refl r.0 in
      let asks = asks_more seen d e [] refl place r.3 in
      locked_recalls seen place e there asks (take_lost free n) (take_remembers (lock_of task seen place) d.loads (Try free) (Lost n) r.2)
      (lost_changed seen place d out r.1 free n e (n % 2 == 1) there asks)

  fill_next : (seen : Seen) (place : Role) (load : Load) (n : ℕ) (d : Doings) → RemembersIn task seen d (Fill place load) → RecallsNext seen (Fill place load) n d
  fill_next seen place load n d r =
      let x : ℕ × ℕ = (lock_of task seen place + load.next % 32, n) in
      let e : Doings = record { loads = x ∷ d.loads; changed = d.changed } in
      fill_recalls seen place e (there_more seen d e (x ∷ []) refl r.0) r.1 (loaded_more seen d e (x ∷ []) refl (index place) r.2) r.4 (load_taken load n) (load_stands (lock_of task seen place) d.loads load n r.3)

  -- an end is one for good
  ended_recalls : (seen : Seen) (d : Doings) (end : WriteEnd) → RemembersIn task seen d (Ended end) → RemembersIn task seen (record { loads = d.loads; changed = d.changed }) (Ended end)
  ended_recalls seen d ends.NoSlot r = r
  ended_recalls seen d end r = tt

  -- WHAT IS REMEMBERED at each step is kept by its event
  pub recalls_next : (seen : Seen) (s : WriteStep) (n : ℕ) (d : Doings) → RemembersIn task seen d s
      → ((place : Role) (take : Take) → s ≡ Lock place take → free_of seen.held place ≡ None)
      → (s ≡ Count → (place : Role) → IsHeld seen.held place → Upto seen 4 place) → RecallsNext seen s n d
  recalls_next seen (Way w) n d r out asked = way_next seen w n d r
  recalls_next seen (Lock place Look) n d r out asked = look_next seen place n d (out place Look refl) r
  recalls_next seen (Lock place (Try free)) n d r out asked = try_by seen place free n d (out place (Try free) refl) r (n == free)
  recalls_next seen (Check back) n d r out asked =
      let x : ℕ × ℕ = (back_word task.site task.hash seen.path back, n) in
      let e : Doings = record { loads = x ∷ d.loads; changed = d.changed } in
      backed_recalls seen e (there_more seen d e (x ∷ []) refl r.0) r.1 (back_taken task.site task.hash seen.path back n)
  recalls_next seen (Fill place load) n d r out asked = fill_next seen place load n d r
  recalls_next seen Count n d r out asked =
      let x : ℕ × ℕ = (counter_word task.site.geometry, n) in
      let e : Doings = record { loads = x ∷ d.loads; changed = d.changed } in
      by_both (λ (s : Stage). Recalls s e) (nat_le (2 ^ 63) n) (answered seen n reply.Spent) (decided task seen n task.change.effect) (giving_recalls seen e seen.held _)
      (let four = loaded_more seen d e (x ∷ []) refl 4 r.2 in
      decided_recalls seen e (there_more seen d e (x ∷ []) refl r.0) r.1 (λ place held. four place (asked refl place held)) four n task.change.effect)
  recalls_next seen (step.Make m) n d r out asked = make_recalls seen _ m _
  recalls_next seen Draw n d r out asked = draw_recalls seen _ n
  recalls_next seen (Unnote part place) n d r out asked = unnote_recalls seen _ part place _
  recalls_next seen CountSpent n d r out asked = giving_recalls seen (After seen CountSpent n d) seen.held _
  recalls_next seen (Give held end) n d r out asked = give_recalls seen _ held end _
  recalls_next seen (Ended end) n d r out asked = ended_recalls seen d end r
