-- Each step may be taken: the stores of a shift change no pair but that of the new record, and its draw is of this insert.
use Rattle.std.proofs.Common.{◌≡◌, ◌≢◌, ℕ, ◌+◌, ◌*◌, ◌<◌, List, [], ◌∷◌, inl, inr, refl, sym, ap, ◌∙◌, subst, arith, slice_index}
use Rattle.op_core.specs.declared.want.Want.TheVariants as want
use Rattle.hash_word.specs.Hash.{home_of}
use Rattle.trace.specs.Events.{Words}
use Rattle.image_layout.specs.Places.{bucket_at, homes}
use Rattle.sound_image.specs.Records.{key_hash}
use Rattle.map_model.specs.declared.call.Call.{Call}
use Rattle.map_model.specs.declared.call.Call.TheVariants as call
use Rattle.map_model.specs.declared.change.Effect.{Effect}
use Rattle.map_model.specs.declared.change.Effect.TheVariants as effect
use Rattle.map_model.specs.declared.entry.Reply.TheVariants as reply
use Rattle.map_model.specs.Map.{key_of}
use Rattle.map_model.specs.Legal.{IsChange, IsInsert}
use Rattle.map_model.specs.Changes.{doing, call_of}
use Rattle.bucket_words.specs.Hits.{Hit}
use Rattle.world.specs.declared.site.Site.{Site}
use Rattle.world.specs.Ground.{Ground}
use Rattle.world.specs.Views.{Owed, Move, View, Has, HasLock}
use Rattle.world.specs.Kinds.{refuses, copies, clears, publishes, draws_place}
use Rattle.world.specs.Conditions.{May, FoundSpent}
use Rattle.world.specs.Holders.{KnowsBucket}
use Rattle.world.proofs.holding.Holders.{may_place}
use Rattle.world.proofs.holding.Moving.{may_move}
use Rattle.world.proofs.holding.Drawing.{may_draw}
use Rattle.phase.specs.declared.role.Role.{Role}
use Rattle.phase.specs.declared.make.Make.{Make}
use Rattle.phase.specs.declared.make.Make.TheVariants.{Key, Value, Fingers, FlushFingers, FlushRecord, FenceRecord, Publish, FlushPublished, FencePublished}
use Rattle.phase.specs.declared.kept.Kept.{Kept}
use Rattle.phase.specs.Places.{bucket_of_role}
use Rattle.phase.specs.Buckets.{words_in}
use Rattle.phase.specs.Giving.{IsLocated, IsHeld, IsQuiet, IsOfHeld}
use Rattle.phase.specs.Knows.{Knows, HasNoneLoose}
use Rattle.phase.specs.Making.{make_kind, IsNew, FitsSlot}
use Rattle.phase.specs.Finding.{HoldsBuckets}
use Rattle.phase.specs.AreWords.{AreWords}
use Rattle.phase.proofs.Handing.{key_called}
use Rattle.phase.proofs.locks.Taking.{take_fits}
use Rattle.phase.proofs.locks.Giving.{known_lock, held_has, give_stands}
use Rattle.phase.proofs.locks.Making.{make_knows}
use Rattle.phase.proofs.locks.Finding.{holders_find}
use Rattle.phase.specs.Makes.{brought}
use Rattle.phase.specs.Keeps.{IsOfCall}
use Rattle.move_op.specs.declared.step.Direction.{Direction}
use Rattle.move_op.specs.declared.step.Direction.TheVariants.{Forward, Backward}
use Rattle.move_op.specs.declared.step.Shift.{Shift}
use Rattle.move_op.specs.declared.step.Leg.{Leg}
use Rattle.move_op.specs.declared.step.Leg.TheVariants.{Copy, Clear, Insert}
use Rattle.move_op.specs.declared.step.MoveStep.{MoveStep}
use Rattle.move_op.specs.declared.step.MoveStep.TheVariants.{Lock, Fill, CountSpent, Draw, Give, Ended}
use Rattle.move_op.specs.declared.step.MoveStep.TheVariants as step
use Rattle.move_op.specs.Shifts.{source_of, target_of, home_place, shift_at, place_of, record_of}
use Rattle.move_op.specs.Steps.{lock_of, lock_at, wanted_in}
use Rattle.move_op.specs.Fits.{with_copy_ready, with_copy, with_insert_ready, with_insert, words_first, words_ready, moved, leg_kind, kind_at, CanMove, HoldsAll, IsPrepared, IsShifting, IsDrawing, SuitsStep}
use Rattle.move_op.proofs.shifting.Beside.{at_is, apart}
use Rattle.move_op.proofs.shifting.Stored.{leaves, copy_fits, copy_ready, copy_value, copy_takes, source_ready, source_stands, copy_stood, clear_frees, insert_fits, insert_ready, insert_value, insert_takes, insert_stood}
use Rattle.move_op.proofs.shifting.Nowhere.{insert_nowhere}
use Rattle.move_op.proofs.keeping.Storing.{leg_held}
use Rattle.move_op.proofs.keeping.Stepping.{fill_guard}

-- an insert is one of its key and value
insert_by : (key : ℕ) (d : Effect) → IsInsert (doing key d) → doing key d ≡ call.Insert key (brought d)
insert_by key (effect.Insert value) is = refl
insert_by key (effect.Update value) is = absurd is
insert_by key effect.Remove is = absurd is

change_by : (key : ℕ) (d : Effect) → IsChange (doing key d)
change_by key (effect.Insert value) = tt
change_by key (effect.Update value) = tt
change_by key effect.Remove = tt

-- the two buckets are home buckets
target_near : (hash : ℕ) (d : Direction) → bucket_of_role hash (target_of d) < homes
target_near hash Forward = omega arith
target_near hash Backward = omega arith

source_near : (hash : ℕ) (d : Direction) → bucket_of_role hash (source_of d) < homes
source_near hash Forward = omega arith
source_near hash Backward = omega arith

-- ---- of a record that can move
module _ (site : Ground) (kept : Kept) (d : Direction) (from to : ℕ) (can : CanMove site kept d from to) (v : View) (a : HoldsAll site kept (shift_at kept d from to) v) (all : (place : Role) → AreWords (words_in kept.buckets place)) where
  abbrev shift : Shift
  shift = shift_at kept d from to

  abbrev S : ℕ → Type 0
  S = IsOfHeld kept.site kept.hash kept.segment kept.held

  abbrev key : ℕ
  key = slice_index (words_in kept.buckets (source_of d)) (4 + 2 * from)

  abbrev b : ℕ
  b = bucket_of_role kept.hash (source_of d)

  abbrev c : ℕ
  c = bucket_of_role kept.hash (target_of d)

  l : IsLocated site kept.site kept.segment
  l = a.located

  from_held : IsHeld kept.held (source_of d)
  from_held = leg_held site kept shift v a Clear

  to_held : IsHeld kept.held (target_of d)
  to_held = a.third

  home_held : (e : Direction) → IsHeld kept.held (target_of e) → IsHeld kept.held (source_of e) → IsHeld kept.held (home_place e)
  home_held Forward target source = source
  home_held Backward target source = target

  -- the lock of the record's home
  home_lock : HasLock v.held (bucket_at site.shape kept.segment (home_of (key_hash site.shape key)))
  home_lock = subst (λ z. HasLock v.held (bucket_at site.shape kept.segment z)) can.home
      (subst (λ z. HasLock v.held z) (at_is site kept l (home_place d)) (held_has kept.site kept.hash kept.segment kept.held (home_place d) v a.locks (home_held d to_held from_held)))

  holds : (w : Words) → Knows (IsOfHeld kept.site kept.hash kept.segment kept.held) w v → HoldsBuckets site kept.site kept.hash kept.segment kept.held w kept.change.key v
  holds w knows = record { located = a.located; hashed = a.hashed; there = a.there; leads = a.leads; locks = a.locks; home = a.near.0; probing = a.near.1; knows = knows }

  bucket : (w : Words) → Knows (IsOfHeld kept.site kept.hash kept.segment kept.held) w v → HasNoneLoose v → (place : Role) → IsHeld kept.held place
      → KnowsBucket site.shape v kept.segment (bucket_of_role kept.hash place) w
  bucket w knows none place is = holders_find.bucket site kept.site kept.hash kept.segment kept.held w kept.change.key v (holds w knows) none place is

  -- the record fits the slot where it is prepared
  fits : (leg : Leg) → IsPrepared leg → (finger : ℕ) × FitsSlot site.shape (words_first kept shift leg) kept.segment (bucket_of_role kept.hash (place_of d leg)) (lock_at kept shift leg) (record_of shift leg) finger
  fits Copy p = (_, copy_fits site kept d from to l can all)
  fits Clear p = absurd p
  fits Insert p = (_, insert_fits site kept d from to l can all)

  -- ---- the stores but those by which a record counts
  other_by : (leg : Leg) (m : Make) → IsShifting site kept shift leg m v → m ≢ Publish → (finger : ℕ)
      → (IsNew m → FitsSlot site.shape (words_first kept shift leg) kept.segment (bucket_of_role kept.hash (place_of d leg)) (lock_at kept shift leg) (record_of shift leg) finger)
      → May site (make_kind (leg_kind kept shift leg) (lock_at kept shift leg) (record_of shift leg) m) v
  other_by leg m s other finger f = (make_knows (IsOfHeld kept.site kept.hash kept.segment kept.held)).may site (leg_kind kept shift leg) kept.segment (bucket_of_role kept.hash (place_of d leg)) (lock_at kept shift leg) finger (record_of shift leg)
      (words_first kept shift leg) (words_ready kept shift leg) m v f (held_has kept.site kept.hash kept.segment kept.held (place_of d leg) v a.locks (leg_held site kept shift v a leg))
      (λ i under. (place_of d leg, leg_held site kept shift v a leg, under)) s.making other

  other_may : (leg : Leg) (m : Make) → IsShifting site kept shift leg m v → m ≢ Publish → May site (make_kind (leg_kind kept shift leg) (lock_at kept shift leg) (record_of shift leg) m) v
  other_may Copy m s other = other_by Copy m s other _ (λ new. (fits Copy tt).1)
  other_may Clear m s other = other_by Clear m s other 0 (λ new. absurd (s.prepares new))
  other_may Insert m s other = other_by Insert m s other _ (λ new. (fits Insert tt).1)

  -- nothing is loose there
  none_loose : (leg : Leg) → IsShifting site kept shift leg Publish v → HasNoneLoose v
  none_loose leg s = (make_knows (IsOfHeld kept.site kept.hash kept.segment kept.held)).settled (lock_at kept shift leg) (record_of shift leg) (words_first kept shift leg) (words_ready kept shift leg) v s.making

  -- ---- the store of the copy
  copy_may : IsShifting site kept shift Copy Publish v → May site (copies (lock_of kept (target_of d) + 1) shift.copy.mark (moved kept shift)) v
  copy_may s =
      let none = none_loose Copy s in
      subst (λ z. May site (copies (z + 1) shift.copy.mark (moved kept shift)) v) (sym (at_is site kept l (target_of d)))
      ((may_move site v).copy kept.segment b from c to key shift.copy.mark (with_copy_ready kept shift) home_lock (target_near kept.hash d)
      (bucket (with_copy_ready kept shift) s.making.knows none (source_of d) from_held) (bucket (with_copy_ready kept shift) s.making.knows none (target_of d) to_held)
      (source_ready site kept d from to l can all) (copy_ready site kept d from to l can all) (copy_value site kept d from to l can all) (copy_takes site kept d from to l can all) s.moving)

  -- ---- the clearing of its source
  one_move : (m n : Move) → Has n (m ∷ []) → n ≡ m
  one_move m n has = elim has [ inl e ↦ e | inr none ↦ absurd none ]

  places_apart : c ≡ b → ⊥
  places_apart e = apart site kept l (target_of d) (source_of d) 0 0 (λ f. leaves d (sym f)) (omega arith) (omega arith)
      (ap (λ z. bucket_at site.shape kept.segment z + 0) e ∙ ap (λ z. z + 0) (sym (at_is site kept l (source_of d))))

  clear_may : IsShifting site kept shift Clear Publish v → May site (clears (lock_of kept (source_of d) + 1) shift.clearing.mark (moved kept shift)) v
  clear_may s =
      let none = none_loose Clear s in
      subst (λ z. May site (clears (z + 1) shift.clearing.mark (moved kept shift)) v) (sym (at_is site kept l (source_of d)))
      ((may_move site v).clear (moved kept shift) shift.clearing.mark (with_copy kept shift) home_lock (source_near kept.hash d)
      (bucket (with_copy kept shift) s.making.knows none (source_of d) from_held) (bucket (with_copy kept shift) s.making.knows none (target_of d) to_held)
      (source_stands site kept d from to l can all) (copy_stood site kept d from to l can all) (λ e f. places_apart e) (clear_frees site kept d from to l can all)
      (λ n has. one_move (moved kept shift) n (subst (λ (ms : List Move). Has n ms) s.moving has)))

  -- ---- the store of the new record
  insert_is : call_of kept.change ≡ call.Insert kept.change.key (brought kept.change.effect)
  insert_is = insert_by kept.change.key kept.change.effect a.insert

  insert_may : IsShifting site kept shift Insert Publish v → May site (publishes (lock_of kept (source_of d) + 1) shift.insert.mark (call_of kept.change)) v
  insert_may s =
      let none = none_loose Insert s in
      let word : Words = with_insert_ready kept shift in
      let quiet : IsQuiet v = holders_find.quiet v none s.planned s.moving a.owes in
      subst (λ (z : Call). May site (publishes (lock_of kept (source_of d) + 1) shift.insert.mark z) v) (sym insert_is)
      (subst (λ z. May site (publishes (z + 1) shift.insert.mark (call.Insert kept.change.key (brought kept.change.effect))) v) (sym (at_is site kept l (source_of d)))
      ((may_place site v).insert kept.segment b from kept.change.key (brought kept.change.effect) shift.insert.mark word
      (holders_find.none site kept.site kept.hash kept.segment kept.held word kept.change.key v (holds word s.making.knows) quiet (insert_nowhere site kept d from to l can all kept.change.key a.nowhere))
      (source_near kept.hash d) (bucket word s.making.knows none (source_of d) from_held)
      (insert_ready site kept d from to l can all a.hashed) (insert_value site kept d from to l can all) (insert_takes site kept d from to l can all a.hashed)))

  publish_may : (leg : Leg) → IsShifting site kept shift leg Publish v → May site (make_kind (leg_kind kept shift leg) (lock_at kept shift leg) (record_of shift leg) Publish) v
  publish_may Copy s = copy_may s
  publish_may Clear s = clear_may s
  publish_may Insert s = insert_may s

  make_by : (leg : Leg) (m : Make) → IsShifting site kept shift leg m v → May site (make_kind (leg_kind kept shift leg) (lock_at kept shift leg) (record_of shift leg) m) v
  make_by leg Key s = other_may leg Key s (λ e. cc)
  make_by leg Value s = other_may leg Value s (λ e. cc)
  make_by leg Fingers s = other_may leg Fingers s (λ e. cc)
  make_by leg FlushFingers s = other_may leg FlushFingers s (λ e. cc)
  make_by leg FlushRecord s = other_may leg FlushRecord s (λ e. cc)
  make_by leg FenceRecord s = other_may leg FenceRecord s (λ e. cc)
  make_by leg Publish s = publish_may leg s
  make_by leg FlushPublished s = other_may leg FlushPublished s (λ e. cc)
  make_by leg FencePublished s = other_may leg FencePublished s (λ e. cc)

  -- ---- the draw
  draw_by : IsDrawing site kept shift v → May site (draws_place (call_of kept.change)) v
  draw_by s =
      let word : Words = with_insert kept shift in
      let called : key_of (call_of kept.change) ≡ kept.change.key = key_called kept.change in
      let there : HoldsBuckets site kept.site kept.hash kept.segment kept.held word kept.change.key v = holds word s.knows in
      (may_draw site v).shown (call_of kept.change) kept.segment b from word
      (holders_find.draw site kept.site kept.hash kept.segment kept.held word (call_of kept.change) v
      (subst (λ k. HoldsBuckets site kept.site kept.hash kept.segment kept.held word k v) (sym called) there) s.settled
      (subst (λ (calls : List Call). Has (call_of kept.change) calls) (sym s.planned) (inl refl)) a.room
      (λ o has. absurd (subst (λ (owed : List Owed). Has o owed) a.owes has)))
      (bucket word s.knows s.settled (source_of d) from_held)
      (subst (λ k. Hit site.shape word kept.segment b from k) (sym called) (insert_stood site kept d from to l can all a.hashed)) s.moving
      (holders_find.kept site kept.site kept.hash kept.segment kept.held word kept.change.key v there s.settled)

-- ---- of any shift
module _ (site : Ground) (kept : Kept) (v : View) (all : (place : Role) → AreWords (words_in kept.buckets place)) where
  make_may : (shift : Shift) (leg : Leg) (m : Make) → IsShifting site kept shift leg m v → May site (kind_at kept (step.Make shift leg m)) v
  make_may shift leg m s =
      let is = s.all.shifts in
      subst (λ (z : Shift). IsShifting site kept z leg m v → May site (kind_at kept (step.Make z leg m)) v) (sym is.same) (λ t. make_by site kept shift.direction is.from is.to is.can v t.all all leg m t) s

  draw_may : (shift : Shift) → IsDrawing site kept shift v → May site (kind_at kept (Draw shift)) v
  draw_may shift s =
      let is = s.all.shifts in
      subst (λ (z : Shift). IsDrawing site kept z v → May site (kind_at kept (Draw z)) v) (sym is.same) (λ t. draw_by site kept shift.direction is.from is.to is.can v t.all all t) s

spent_may : (site : Ground) (kept : Kept) (v : View) → FoundSpent v → May site (refuses (call_of kept.change) reply.Spent) v
spent_may site kept v spent = (refl, inl (λ a. change_by kept.change.key kept.change.effect), (λ m words newest map. tt), (λ is. spent), (λ full. absurd (let e : reply.Spent ≡ reply.Full = full in cc)))

-- EACH STEP MAY BE TAKEN
module _ (site : Ground) (here : Site) (call : Call) (kept : Kept) (whose : IsOfCall here call kept) (v : View) where
  pub may_in : (s : MoveStep) → SuitsStep site kept s v → wanted_in kept s ≢ want.Done → May site (kind_at kept s) v
  may_in (Lock d t) suits asks = take_fits.may site (lock_of kept (target_of d)) t v (known_lock site kept.site kept.hash kept.segment (target_of d) v suits.0.holds.located.shape suits.0.holds.there) suits.2
  may_in (Fill d load) suits asks = fill_guard site kept v d load suits
  may_in CountSpent suits asks = spent_may site kept v suits.1
  may_in (step.Make shift leg m) suits asks = make_may site kept v whose.buckets shift leg m suits
  may_in (Draw shift) suits asks = draw_may site kept v whose.buckets shift suits
  may_in (Give held end) suits asks = give_stands.may site kept.site kept.hash kept.segment held v suits.locks suits.quiet
  may_in (Ended end) suits asks = absurd (asks refl)
