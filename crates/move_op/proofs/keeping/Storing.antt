-- The stores of a shift keep the view suited, one after another, up to the draw.
use Rattle.std.proofs.Common.{◌≡◌, ◌≢◌, ◌==◌, ◌&&◌, ℕ, ◌<◌, Bool, true, false, cond, None, List, [], ◌∷◌, refl, sym, ap, ◌∙◌, subst, arith}
use Rattle.std.specs.Prelude.{⊤, nat_lt, if◌then◌else◌}
use Rattle.std.proofs.lemmas.Bool.{eq-eqb}
use Rattle.bucket_meta.specs.Bucket.{record_slots}
use Rattle.map_model.specs.Changes.{call_of}
use Rattle.world.specs.Ground.{Ground}
use Rattle.frame_facts.specs.Facts.{Fact}
use Rattle.world.specs.Views.{Move, View}
use Rattle.world.specs.Kinds.{of_other_records, view_after}
use Rattle.world.specs.Attempts.{HasNoMore, EntersReply}
use Rattle.phase.specs.declared.role.Role.TheVariants.{Home, Probing}
use Rattle.phase.specs.declared.make.Record.{Record}
use Rattle.phase.specs.declared.make.Make.{Make}
use Rattle.phase.specs.declared.make.Make.TheVariants.{Key, Value, Fingers, FlushFingers, FlushRecord, FenceRecord, Publish, FlushPublished, FencePublished}
use Rattle.phase.specs.declared.make.Made.TheVariants.{On, Settled}
use Rattle.phase.specs.declared.kept.Kept.{Kept}
use Rattle.phase.specs.Makes.{make_taken}
use Rattle.phase.specs.Stands.{IsThere, Leads}
use Rattle.phase.specs.Giving.{IsHeld, IsOfHeld}
use Rattle.phase.specs.Making.{IsStoring, make_kind, IsNew, IsMaking, HasMade, IsButStored, KeepsPlans}
use Rattle.phase.proofs.Handing.{none_more}
use Rattle.phase.proofs.locks.Giving.{is_lock}
use Rattle.phase.proofs.locks.Making.{make_fits, make_knows, make_holds}
use Rattle.move_op.specs.declared.step.Direction.{Direction}
use Rattle.move_op.specs.declared.step.Direction.TheVariants.{Forward, Backward}
use Rattle.move_op.specs.declared.step.Shift.{Shift}
use Rattle.move_op.specs.declared.step.Leg.{Leg}
use Rattle.move_op.specs.declared.step.Leg.TheVariants.{Copy, Clear, Insert}
use Rattle.move_op.specs.declared.op.MoveOp.{MoveOp}
use Rattle.move_op.specs.Shifts.{source_of, shift_at, place_of, record_of}
use Rattle.move_op.specs.Steps.{go, made_to, lock_at}
use Rattle.move_op.specs.Fits.{words_first, words_ready, moved, leg_kind, IsShift, HoldsAll, moving_at, planned_at, IsShifting}
use Rattle.move_op.proofs.keeping.Going.{Suits}
use Rattle.move_op.proofs.keeping.Entering.{reply_at}

-- a machine that a view suits, with its reply entered
abbrev pub Goes : Ground → View → MoveOp → View → Type 0
Goes site before op u = Suits site op u × EntersReply (call_of op.kept.change) (reply_at op.step) before u

-- ---- what is stored of a shift
module _ (site : Ground) (kept : Kept) (shift : Shift) (is : IsShift site kept shift) where
  slot_by : (leg : Leg) → (record_of (shift_at kept shift.direction is.from is.to) leg).slot < record_slots
  slot_by Copy = is.can.to_low
  slot_by Clear = is.can.from_low
  slot_by Insert = is.can.from_low

  pub slot_low : (leg : Leg) → (record_of shift leg).slot < record_slots
  slot_low leg = subst (λ (s : Shift). (record_of s leg).slot < record_slots) (sym is.same) (slot_by leg)

  one_by : (leg : Leg) → (record_of (shift_at kept shift.direction is.from is.to) leg).published ≡ 1
  one_by Copy = refl
  one_by Clear = refl
  one_by Insert = refl

  pub published_one : (leg : Leg) → (record_of shift leg).published ≡ 1
  published_one leg = subst (λ (s : Shift). (record_of s leg).published ≡ 1) (sym is.same) (one_by leg)

-- its bucket is held
source_near : (kept : Kept) → IsHeld kept.held Home × IsHeld kept.held Probing → (d : Direction) → IsHeld kept.held (source_of d)
source_near kept near Forward = near.1
source_near kept near Backward = near.0

pub leg_held : (site : Ground) (kept : Kept) (shift : Shift) (v : View) → HoldsAll site kept shift v → (leg : Leg) → IsHeld kept.held (place_of shift.direction leg)
leg_held site kept shift v a Copy = a.third
leg_held site kept shift v a Clear = source_near kept a.near shift.direction
leg_held site kept shift v a Insert = source_near kept a.near shift.direction

-- the one store of each by which it counts
pub storing : (kept : Kept) (shift : Shift) (leg : Leg) → IsStoring (leg_kind kept shift leg)
storing kept shift Copy = record { wants = λ shape i x. refl; leaves = λ shape i x n v. (v.planned, moved kept shift ∷ v.moving, v.owed, refl) }
storing kept shift Clear = record { wants = λ shape i x. refl; leaves = λ shape i x n v. (v.planned, of_other_records (moved kept shift) v.moving, v.owed, refl) }
storing kept shift Insert = record { wants = λ shape i x. refl; leaves = λ shape i x n v. (call_of kept.change ∷ v.planned, v.moving, v.owed, refl) }

-- ---- what is under way and planned, before that store and behind it
abbrev IsEarly : Make → Type 0
IsEarly FlushPublished = ⊥
IsEarly FencePublished = ⊥
IsEarly m = ⊤

module _ (kept : Kept) (shift : Shift) where
  abbrev early : Leg → List Move
  early Copy = []
  early Clear = moved kept shift ∷ []
  early Insert = []

  early_moving : (leg : Leg) (m : Make) → IsEarly m → moving_at kept shift leg m ≡ early leg
  early_moving Copy FlushPublished e = absurd e
  early_moving Copy FencePublished e = absurd e
  early_moving Copy m e = refl
  early_moving Clear FlushPublished e = absurd e
  early_moving Clear FencePublished e = absurd e
  early_moving Clear m e = refl
  early_moving Insert m e = refl

  early_planned : (leg : Leg) (m : Make) → IsEarly m → planned_at kept shift leg m ≡ []
  early_planned Insert FlushPublished e = absurd e
  early_planned Insert FencePublished e = absurd e
  early_planned Insert m e = refl
  early_planned leg m e = refl

  late_moving : (leg : Leg) → moving_at kept shift leg FlushPublished ≡ moving_at kept shift leg FencePublished
  late_moving Copy = refl
  late_moving Clear = refl
  late_moving Insert = refl

  late_planned : (leg : Leg) → planned_at kept shift leg FlushPublished ≡ planned_at kept shift leg FencePublished
  late_planned Copy = refl
  late_planned Clear = refl
  late_planned Insert = refl

-- what is under way of a record alone is so no more where its source is cleared
own_moved : (m : Move) → of_other_records m (m ∷ []) ≡ []
own_moved m = ap (λ b. cond (b && (m.key == m.key)) [] (m ∷ [])) (eq-eqb m.segment m.segment refl) ∙ ap (λ b. cond b [] (m ∷ [])) (eq-eqb m.key m.key refl)

-- ---- each event
module _ (site : Ground) (kept : Kept) (shift : Shift) (leg : Leg) (before v : View) (same : HasNoMore before v) (n : ℕ) where
  abbrev S : ℕ → Type 0
  S = IsOfHeld kept.site kept.hash kept.segment kept.held

  abbrev lock : ℕ
  lock = lock_at kept shift leg

  abbrev written : Record
  written = record_of shift leg

  abbrev after : Make → View
  after m = view_after site.shape (make_kind (leg_kind kept shift leg) lock written m) n v

  others : (m : Make) → IsButStored v (after m)
  others m = make_fits.others site.shape (leg_kind kept shift leg) (storing kept shift leg) lock written m n v

  has_made : (m : Make) → IsShifting site kept shift leg m v → HasMade lock written S (words_first kept shift leg) (words_ready kept shift leg) (make_taken written.slot m) (after m)
  has_made m c = (make_knows S).stands site.shape (leg_kind kept shift leg) (storing kept shift leg) lock written (is_lock site kept.site kept.hash kept.segment c.all.located (place_of shift.direction leg))
      (words_first kept shift leg) (words_ready kept shift leg) m v n c.making

  -- all that is held stays
  module _ (m : Make) (c : IsShifting site kept shift leg m v) where
    stays : (after m).owed ≡ v.owed → HoldsAll site kept shift (after m)
    stays owed = record {
      insert = c.all.insert;
      located = c.all.located;
      hashed = c.all.hashed;
      there = subst (λ (facts : List Fact). IsThere site kept.segment facts) (sym (ap (λ (z : View). z.facts) (others m))) c.all.there;
      leads = subst (λ (pinned : List (ℕ × ℕ)). Leads site kept.hash kept.segment pinned) (sym (ap (λ (z : View). z.pinned) (others m))) c.all.leads;
      locks = make_holds site.shape (leg_kind kept shift leg) (storing kept shift leg) kept.site kept.hash kept.segment kept.held (place_of shift.direction leg) written m n v
          (leg_held site kept shift v c.all leg) (slot_low site kept shift c.all.shifts leg)
          (let one = published_one site kept shift c.all.shifts leg in omega (arith, one)) (let one = published_one site kept shift c.all.shifts leg in omega (arith, one)) c.all.locks;
      near = c.all.near;
      third = c.all.third;
      nowhere = c.all.nowhere;
      shifts = c.all.shifts;
      room = subst (λ z. 0 < z) (sym (ap (λ (z : View). z.room) (others m))) c.all.room;
      owes = owed ∙ c.all.owes;
    }

    -- no reply is entered
    enters : (o : MoveOp) → reply_at o.step ≡ None → (o.kept ≡ kept) → EntersReply (call_of o.kept.change) (reply_at o.step) before (after m)
    enters o quiet e = none_more (call_of o.kept.change) before v (reply_at o.step) (after m) quiet same (ap (λ (z : View). z.own) (others m)) (ap (λ (z : View). z.seen) (others m))

    -- the next of them
    next_goes : (next : Make) → (after m).owed ≡ v.owed → (IsNew next → IsNew m) → IsMaking lock written S (words_first kept shift leg) (words_ready kept shift leg) next (after m)
        → (after m).moving ≡ moving_at kept shift leg next → (after m).planned ≡ planned_at kept shift leg next → Goes site before (go kept (made_to shift leg (On next))) (after m)
    next_goes next owed new making moving planned = (
      record { all = stays owed; prepares = λ x. c.prepares (new x); making = making; moving = moving; planned = planned },
      enters (go kept (made_to shift leg (On next))) refl refl,
    )

    -- where it is not the one store, what is under way and planned is as it was
    plain_goes : m ≢ Publish → (next : Make) → (IsNew next → IsNew m) → moving_at kept shift leg m ≡ moving_at kept shift leg next → planned_at kept shift leg m ≡ planned_at kept shift leg next
        → IsMaking lock written S (words_first kept shift leg) (words_ready kept shift leg) next (after m) → Goes site before (go kept (made_to shift leg (On next))) (after m)
    plain_goes other next new moving planned making =
        let p : KeepsPlans v (after m) = make_fits.plans site.shape (leg_kind kept shift leg) lock written m n v other in
        next_goes next p.owed new making (p.moving ∙ c.moving ∙ moving) (p.planned ∙ c.planned ∙ planned)

    early_goes : m ≢ Publish → (next : Make) → IsEarly m → IsEarly next → (IsNew next → IsNew m)
        → IsMaking lock written S (words_first kept shift leg) (words_ready kept shift leg) next (after m) → Goes site before (go kept (made_to shift leg (On next))) (after m)
    early_goes other next e f new making = plain_goes other next new (early_moving kept shift leg m e ∙ sym (early_moving kept shift leg next f)) (early_planned kept shift leg m e ∙ sym (early_planned kept shift leg next f)) making

  line_by : (c : IsShifting site kept shift leg FlushFingers v) (b : Bool)
      → HasMade lock written S (words_first kept shift leg) (words_ready kept shift leg) (if b then On FenceRecord else On FlushRecord) (after FlushFingers)
      → Goes site before (go kept (made_to shift leg (if b then On FenceRecord else On FlushRecord))) (after FlushFingers)
  line_by c true making = early_goes FlushFingers c (λ e. cc) FenceRecord tt tt (λ x. tt) making
  line_by c false making = early_goes FlushFingers c (λ e. cc) FlushRecord tt tt (λ x. tt) making

-- the one store, by what it stores
module _ (site : Ground) (kept : Kept) (shift : Shift) (before v : View) (same : HasNoMore before v) (n : ℕ) where
  publish_goes : (leg : Leg) → IsShifting site kept shift leg Publish v → Goes site before (go kept (made_to shift leg (On FlushPublished))) (after site kept shift leg before v same n Publish)
  publish_goes Copy c = next_goes site kept shift Copy before v same n Publish c FlushPublished refl (λ x. absurd x) (has_made site kept shift Copy before v same n Publish c)
      (ap (λ ms. moved kept shift ∷ ms) c.moving) c.planned
  publish_goes Clear c = next_goes site kept shift Clear before v same n Publish c FlushPublished refl (λ x. absurd x) (has_made site kept shift Clear before v same n Publish c)
      (ap (of_other_records (moved kept shift)) c.moving ∙ own_moved (moved kept shift)) c.planned
  publish_goes Insert c = next_goes site kept shift Insert before v same n Publish c FlushPublished refl (λ x. absurd x) (has_made site kept shift Insert before v same n Publish c)
      c.moving (ap (λ cs. call_of kept.change ∷ cs) c.planned)

  -- all is settled
  settled_goes : (leg : Leg) → IsShifting site kept shift leg FencePublished v → Goes site before (go kept (made_to shift leg Settled)) (after site kept shift leg before v same n FencePublished)
  settled_goes Copy c =
      let made = has_made site kept shift Copy before v same n FencePublished c in
      let u : View = after site kept shift Copy before v same n FencePublished in (
        record {
          all = stays site kept shift Copy before v same n FencePublished c refl;
          prepares = λ x. absurd x;
          making = (make_knows (IsOfHeld kept.site kept.hash kept.segment kept.held)).change (lock_at kept shift Clear) shift.clearing (words_first kept shift Clear) (words_ready kept shift Clear) u made.0 made.1;
          moving = c.moving;
          planned = c.planned;
        },
        enters site kept shift Copy before v same n FencePublished c (go kept (made_to shift Copy Settled)) refl refl,
      )
  settled_goes Clear c =
      let made = has_made site kept shift Clear before v same n FencePublished c in
      let u : View = after site kept shift Clear before v same n FencePublished in (
        record {
          all = stays site kept shift Clear before v same n FencePublished c refl;
          prepares = λ x. tt;
          making = (make_knows (IsOfHeld kept.site kept.hash kept.segment kept.held)).new (lock_at kept shift Insert) shift.insert (words_first kept shift Insert) u made.0 made.1;
          moving = c.moving;
          planned = c.planned;
        },
        enters site kept shift Clear before v same n FencePublished c (go kept (made_to shift Clear Settled)) refl refl,
      )
  settled_goes Insert c =
      let made = has_made site kept shift Insert before v same n FencePublished c in (
        record {
          all = stays site kept shift Insert before v same n FencePublished c refl;
          knows = made.0;
          settled = made.1;
          moving = c.moving;
          planned = c.planned;
        },
        enters site kept shift Insert before v same n FencePublished c (go kept (made_to shift Insert Settled)) refl refl,
      )

  pub make_goes : (leg : Leg) (m : Make) → IsShifting site kept shift leg m v
      → Goes site before (go kept (made_to shift leg (make_taken (record_of shift leg).slot m))) (after site kept shift leg before v same n m)
  make_goes leg Key c = early_goes site kept shift leg before v same n Key c (λ e. cc) Value tt tt (λ x. tt) (has_made site kept shift leg before v same n Key c)
  make_goes leg Value c = early_goes site kept shift leg before v same n Value c (λ e. cc) Fingers tt tt (λ x. tt) (has_made site kept shift leg before v same n Value c)
  make_goes leg Fingers c = early_goes site kept shift leg before v same n Fingers c (λ e. cc) FlushFingers tt tt (λ x. tt) (has_made site kept shift leg before v same n Fingers c)
  make_goes leg FlushFingers c = line_by site kept shift leg before v same n c (nat_lt (record_of shift leg).slot 2) (has_made site kept shift leg before v same n FlushFingers c)
  make_goes leg FlushRecord c = early_goes site kept shift leg before v same n FlushRecord c (λ e. cc) FenceRecord tt tt (λ x. tt) (has_made site kept shift leg before v same n FlushRecord c)
  make_goes leg FenceRecord c = early_goes site kept shift leg before v same n FenceRecord c (λ e. cc) Publish tt tt (λ x. tt) (has_made site kept shift leg before v same n FenceRecord c)
  make_goes leg Publish c = publish_goes leg c
  make_goes leg FlushPublished c = plain_goes site kept shift leg before v same n FlushPublished c (λ e. cc) FencePublished (λ x. absurd x) (late_moving kept shift leg) (late_planned kept shift leg)
      (has_made site kept shift leg before v same n FlushPublished c)
  make_goes leg FencePublished c = settled_goes leg c
