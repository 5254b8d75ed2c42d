-- The stores of the record keep the view suited, up to the draw.
use Rattle.std.proofs.Common.{◌≡◌, ℕ, ◌+◌, ◌<◌, ◌≤◌, Bool, true, false, ◌∷◌, refl, sym, ap, ◌∙◌, subst, arith}
use Rattle.std.specs.Prelude.{nat_lt, if◌then◌else◌}
use Rattle.bucket_meta.specs.Bucket.{record_slots}
use Rattle.map_model.specs.declared.change.Effect.{Effect}
use Rattle.map_model.specs.declared.change.Effect.TheVariants.{Insert, Update, Remove}
use Rattle.map_model.specs.Changes.{call_of}
use Rattle.world.specs.Ground.{Ground}
use Rattle.world.specs.Views.{View, IsGuarded}
use Rattle.world.specs.Kinds.{view_after}
use Rattle.world.specs.Attempts.{HasNoMore}
use Rattle.phase.specs.declared.make.Record.{Record}
use Rattle.phase.specs.declared.make.Make.{Make}
use Rattle.phase.specs.declared.make.Make.TheVariants.{Key, Value, Fingers, FlushFingers, FlushRecord, FenceRecord, Publish, FlushPublished, FencePublished}
use Rattle.phase.specs.declared.make.Made.TheVariants.{On}
use Rattle.phase.specs.Makes.{key_at, value_at, fingers_at, published_at, make_taken}
use Rattle.phase.specs.Stands.{IsThere}
use Rattle.phase.specs.Giving.{IsLocated, IsOfHeld, HoldsLocks}
use Rattle.phase.specs.Making.{IsStoring, make_kind, IsNew, IsMaking, HasMade}
use Rattle.phase.proofs.Handing.{none_more}
use Rattle.phase.proofs.locks.Giving.{is_lock, held_has, held_store, held_same}
use Rattle.phase.proofs.locks.Making.{make_knows}
use Rattle.phase.proofs.locks.Storing.{key_guard, value_guard, fingers_guard}
use Rattle.write_op.specs.declared.step.Task.{Task}
use Rattle.write_op.specs.declared.step.Seen.{Seen}
use Rattle.write_op.specs.declared.step.WriteStep.TheVariants as step
use Rattle.write_op.specs.Search.{leaves_note, published_word}
use Rattle.write_op.specs.Steps.{made_to, lock_of}
use Rattle.write_op.specs.Fits.{loaded, prepared, owed, publish_by, publish_kind, IsPinned, HasAll, planned_at, owed_by, owed_at, IsChanging, IsIn}
use Rattle.write_op.proofs.keeping.Going.{located}
use Rattle.write_op.proofs.finding.Chosen.{place_held, slot_low, written_is}
use Rattle.write_op.proofs.keeping.Entering.{reply_at}
use Rattle.write_op.proofs.keeping.Counting.{Goes}

-- ---- the store that makes the change
pub publishing : (task : Task) (seen : Seen) (b : Bool) → IsStoring (publish_by task seen b)
publishing task seen true = record { wants = λ shape i x. refl; leaves = λ shape i x n v. (call_of task.change ∷ v.planned, v.moving, owed task seen ∷ v.owed, refl) }
publishing task seen false = record { wants = λ shape i x. refl; leaves = λ shape i x n v. (call_of task.change ∷ v.planned, v.moving, v.owed, refl) }

published_low : (d : Effect) (slot : ℕ) → slot < record_slots → (1 ≤ published_word d slot) × (published_word d slot < 32)
published_low (Insert value) slot low = (omega arith, omega arith)
published_low (Update value) slot low = (omega arith, omega (arith, low))
published_low Remove slot low = (omega arith, omega arith)

module _ (site : Ground) (task : Task) (is : IsIn site task) (seen : Seen) (before v : View) (same : HasNoMore before v) (m : Make) (c : IsChanging site task seen m v) where
  abbrev lock : ℕ
  lock = lock_of task seen seen.place

  abbrev segment : ℕ
  segment = seen.path.segment

  at : IsLocated site task.site segment
  at = located site task is seen v.facts c.all.there

  guard : (j : ℕ) → 1 ≤ j → j < 32 → IsGuarded v.held (lock + j)
  guard j from low = (lock, held_has task.site task.hash segment seen.held seen.place v c.all.locks (place_held site task seen c.all.upto c.chosen), (omega (arith, from), omega (arith, low)))

  slot_small : seen.written.slot < record_slots
  slot_small = slot_low site task seen c.all.upto c.chosen

  published_is : seen.written.published ≡ published_word task.change.effect seen.written.slot
  published_is = ap (λ (w : Record). w.published) (written_is site task seen c.all.upto c.chosen)

  published_guard : IsGuarded v.held (published_at lock seen.written)
  published_guard =
      let low = published_low task.change.effect seen.written.slot slot_small in
      subst (λ z. IsGuarded v.held (lock + z)) (sym published_is) (guard (published_word task.change.effect seen.written.slot) low.0 low.1)

  -- what is held stays
  all_with : (u : View) → HoldsLocks task.site task.hash segment seen.held u → u.facts ≡ v.facts → u.pinned ≡ v.pinned → u.moving ≡ v.moving → HasAll site task seen u
  all_with u locks facts headers moving = record {
    there = subst (IsThere site segment) (sym facts) c.all.there;
    pinned = subst (IsPinned site task.hash seen.path) (sym headers) c.all.pinned;
    locks = locks;
    upto = c.all.upto;
    visits = c.all.visits;
    still = moving ∙ c.all.still;
  }

  abbrev S : ℕ → Type 0
  S = IsOfHeld task.site task.hash segment seen.held

  -- the next of them
  next_goes : (u : View) (next : Make) → (IsNew next → IsNew m) → HoldsLocks task.site task.hash segment seen.held u → u.facts ≡ v.facts → u.pinned ≡ v.pinned → u.moving ≡ v.moving
      → IsMaking lock seen.written S (loaded task seen) (prepared task seen) next u
      → u.room ≡ v.room → u.planned ≡ planned_at site task seen next → u.owed ≡ owed_at site task seen next → u.own ≡ v.own → u.seen ≡ v.seen
      → Goes site task before (made_to seen (On next)) u
  next_goes u next new locks facts headers moving making room plans owes own sees = (
    record {
      all = all_with u locks facts headers moving;
      chosen = c.chosen;
      inserts = λ x. c.inserts (new x);
      making = making;
      room = subst (λ z. 0 < z) (sym room) c.room;
      planned = plans;
      owes = owes;
    },
    none_more (call_of task.change) before v (reply_at (step.Make next)) u refl same own sees,
  )

-- ---- each of them
module _ (site : Ground) (task : Task) (is : IsIn site task) (seen : Seen) (before v : View) (same : HasNoMore before v) (n : ℕ) where
  abbrev after : Make → View
  after m = view_after site.shape (make_kind (publish_kind task seen) (lock_of task seen seen.place) seen.written m) n v

  -- what is known then
  has_made : (m : Make) → IsChanging site task seen m v
      → HasMade (lock_of task seen seen.place) seen.written (IsOfHeld task.site task.hash seen.path.segment seen.held) (loaded task seen) (prepared task seen) (make_taken seen.written.slot m) (after m)
  has_made m c = (make_knows (IsOfHeld task.site task.hash seen.path.segment seen.held)).stands site.shape (publish_kind task seen) (publishing task seen (leaves_note task.change.effect seen.place)) (lock_of task seen seen.place) seen.written
      (is_lock site task.site task.hash seen.path.segment (located site task is seen v.facts c.all.there) seen.place)
      (loaded task seen) (prepared task seen) m v n c.making

  line_by : (c : IsChanging site task seen FlushFingers v) (b : Bool)
      → HasMade (lock_of task seen seen.place) seen.written (IsOfHeld task.site task.hash seen.path.segment seen.held) (loaded task seen) (prepared task seen) (if b then On FenceRecord else On FlushRecord) (after FlushFingers)
      → Goes site task before (made_to seen (if b then On FenceRecord else On FlushRecord)) (after FlushFingers)
  line_by c true making = next_goes site task is seen before v same FlushFingers c (after FlushFingers) FenceRecord (λ x. tt) (held_same task.site task.hash seen.path.segment seen.held v (after FlushFingers) refl refl refl c.all.locks) refl refl refl making refl c.planned c.owes refl refl
  line_by c false making = next_goes site task is seen before v same FlushFingers c (after FlushFingers) FlushRecord (λ x. tt) (held_same task.site task.hash seen.path.segment seen.held v (after FlushFingers) refl refl refl c.all.locks) refl refl refl making refl c.planned c.owes refl refl

  -- the one store, with what it plans and owes
  abbrev stored_by : Bool → View
  stored_by b = view_after site.shape (publish_by task seen b (published_at (lock_of task seen seen.place) seen.written) seen.written.mark) n v

  publish_by_goes : (c : IsChanging site task seen Publish v) (b : Bool) → leaves_note task.change.effect seen.place ≡ b
      → IsMaking (lock_of task seen seen.place) seen.written (IsOfHeld task.site task.hash seen.path.segment seen.held) (loaded task seen) (prepared task seen) FlushPublished (stored_by b)
      → Goes site task before (made_to seen (On FlushPublished)) (stored_by b)
  publish_by_goes c true e making = next_goes site task is seen before v same Publish c (stored_by true) FlushPublished (λ x. absurd x)
      (held_store task.site task.hash seen.path.segment site.shape seen.held v (published_at (lock_of task seen seen.place) seen.written) n seen.written.mark (call_of task.change ∷ v.planned) v.moving (owed task seen ∷ v.owed)
      c.all.locks (published_guard site task is seen before v same Publish c))
      refl refl refl making refl (ap (λ calls. call_of task.change ∷ calls) c.planned) (ap (λ os. owed task seen ∷ os) c.owes ∙ sym (ap (owed_by site task seen) e)) refl refl
  publish_by_goes c false e making = next_goes site task is seen before v same Publish c (stored_by false) FlushPublished (λ x. absurd x)
      (held_store task.site task.hash seen.path.segment site.shape seen.held v (published_at (lock_of task seen seen.place) seen.written) n seen.written.mark (call_of task.change ∷ v.planned) v.moving v.owed
      c.all.locks (published_guard site task is seen before v same Publish c))
      refl refl refl making refl (ap (λ calls. call_of task.change ∷ calls) c.planned) (c.owes ∙ sym (ap (owed_by site task seen) e)) refl refl

  pub make_goes : (m : Make) → IsChanging site task seen m v → Goes site task before (made_to seen (make_taken seen.written.slot m)) (after m)
  make_goes Key c = next_goes site task is seen before v same Key c (after Key) Value (λ x. tt)
      (held_store task.site task.hash seen.path.segment site.shape seen.held v (key_at (lock_of task seen seen.place) seen.written) n seen.written.key v.planned v.moving v.owed
      c.all.locks (key_guard v.held (lock_of task seen seen.place) seen.written (guard site task is seen before v same Key c) (slot_small site task is seen before v same Key c)))
      refl refl refl (has_made Key c) refl c.planned c.owes refl refl
  make_goes Value c = next_goes site task is seen before v same Value c (after Value) Fingers (λ x. tt)
      (held_store task.site task.hash seen.path.segment site.shape seen.held v (value_at (lock_of task seen seen.place) seen.written) n seen.written.value v.planned v.moving v.owed
      c.all.locks (value_guard v.held (lock_of task seen seen.place) seen.written (guard site task is seen before v same Value c) (slot_small site task is seen before v same Value c)))
      refl refl refl (has_made Value c) refl c.planned c.owes refl refl
  make_goes Fingers c = next_goes site task is seen before v same Fingers c (after Fingers) FlushFingers (λ x. tt)
      (held_store task.site task.hash seen.path.segment site.shape seen.held v (fingers_at (lock_of task seen seen.place) seen.written) n seen.written.fingers v.planned v.moving v.owed
      c.all.locks (fingers_guard v.held (lock_of task seen seen.place) seen.written (guard site task is seen before v same Fingers c) (slot_small site task is seen before v same Fingers c)))
      refl refl refl (has_made Fingers c) refl c.planned c.owes refl refl
  make_goes FlushFingers c = line_by c (nat_lt seen.written.slot 2) (has_made FlushFingers c)
  make_goes FlushRecord c = next_goes site task is seen before v same FlushRecord c (after FlushRecord) FenceRecord (λ x. tt) (held_same task.site task.hash seen.path.segment seen.held v (after FlushRecord) refl refl refl c.all.locks) refl refl refl (has_made FlushRecord c) refl c.planned c.owes refl refl
  make_goes FenceRecord c = next_goes site task is seen before v same FenceRecord c (after FenceRecord) Publish (λ x. tt) (held_same task.site task.hash seen.path.segment seen.held v (after FenceRecord) refl refl refl c.all.locks) refl refl refl (has_made FenceRecord c) refl c.planned c.owes refl refl
  make_goes Publish c = publish_by_goes c (leaves_note task.change.effect seen.place) refl (has_made Publish c)
  make_goes FlushPublished c = next_goes site task is seen before v same FlushPublished c (after FlushPublished) FencePublished (λ x. absurd x) (held_same task.site task.hash seen.path.segment seen.held v (after FlushPublished) refl refl refl c.all.locks) refl refl refl (has_made FlushPublished c) refl c.planned c.owes refl refl
  make_goes FencePublished c =
      let made = has_made FencePublished c in
      let u : View = after FencePublished in (
        record {
          all = all_with site task is seen before v same FencePublished c u (held_same task.site task.hash seen.path.segment seen.held v u refl refl refl c.all.locks) refl refl refl;
          chosen = c.chosen;
          knows = made.0;
          settled = made.1;
          room = c.room;
          planned = c.planned;
          owes = c.owes;
        },
        none_more (call_of task.change) before v (reply_at step.Draw) u refl same refl refl,
      )
