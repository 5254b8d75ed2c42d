-- The load of the commit counter under all locks keeps the view suited: it answers a refusal, or finds room for the change.
use Rattle.std.proofs.Common.{◌≡◌, ℕ, ◌^◌, ◌<◌, Bool, true, false, Option, None, Some, [], refl, sym, ap, ◌∙◌, subst}
use Rattle.std.specs.Prelude.{nat_le, nat_lt, if◌then◌else◌}
use Rattle.std.proofs.lemmas.Bool.{lt-ltb, le-ltb, leb-true, leb-false}
use Rattle.trace.specs.Events.{Words}
use Rattle.map_model.specs.declared.change.Effect.{Effect}
use Rattle.map_model.specs.declared.change.Effect.TheVariants.{Insert, Update, Remove}
use Rattle.map_model.specs.declared.entry.Reply.{Reply}
use Rattle.map_model.specs.declared.entry.Reply.TheVariants as reply
use Rattle.map_model.specs.Map.{is_done}
use Rattle.map_model.specs.Legal.{IsInsert}
use Rattle.map_model.specs.Changes.{doing, call_of}
use Rattle.world.specs.Ground.{Ground}
use Rattle.way.specs.Ways.{is_leading}
use Rattle.world.specs.Views.{View, Has}
use Rattle.world.specs.Kinds.{finds_room, next_entry, with_reply, with_count, view_after}
use Rattle.world.specs.Attempts.{HasNoMore, EntersReply}
use Rattle.part.specs.Outcomes.{reply_of}
use Rattle.phase.specs.declared.role.Role.{Role}
use Rattle.phase.specs.declared.role.Role.TheVariants.{Next, Previous}
use Rattle.phase.specs.declared.make.Make.{Make}
use Rattle.phase.specs.declared.make.Make.TheVariants.{Key, Publish}
use Rattle.phase.specs.Giving.{IsQuiet, IsOfHeld}
use Rattle.phase.specs.Knows.{Knows}
use Rattle.phase.specs.Making.{IsMaking, IsNew}
use Rattle.phase.proofs.Handing.{none_more, one_more, none_loose}
use Rattle.phase.proofs.locks.Making.{make_knows}
use Rattle.write_op.specs.declared.step.Task.{Task}
use Rattle.write_op.specs.declared.step.Spot.{Spot}
use Rattle.write_op.specs.declared.step.Seen.{Seen}
use Rattle.phase.specs.declared.ending.Ending.TheVariants as ending
use Rattle.phase.proofs.asking.Asked.{never}
use Rattle.phase.proofs.locks.Replying.{reply_gives}
use Rattle.write_op.specs.declared.step.WriteEnd.TheVariants as ends
use Rattle.write_op.specs.declared.step.WriteStep.TheVariants as step
use Rattle.write_op.specs.declared.step.Stage.{Stage}
use Rattle.write_op.specs.Search.{found, room_in, record_at}
use Rattle.write_op.specs.Steps.{go, answered, making, inserting, changing, decided, counted, lock_of}
use Rattle.write_op.specs.Fits.{loaded, prepared_by, prepared, inserting_kind, changing_kind, deciding_kind, count_kind, is_asked, IsVisiting, HasLoaded, IsPinned, IsInserting, IsSpot, planned_at, owed_at, IsChanging, IsGiving, SuitsStage, IsIn}
use Rattle.write_op.proofs.keeping.Going.{located, give_suits}
use Rattle.write_op.proofs.finding.Finding.{holds_buckets, nowhere}
use Rattle.write_op.proofs.finding.Rooms.{room_none}
use Rattle.write_op.proofs.keeping.Entering.{reply_at, giving_outcome}

-- a stage that a view suits, with its reply entered
abbrev pub Goes : Ground → Task → View → Stage → View → Type 0
Goes site task before stage u = SuitsStage site task stage u × EntersReply (call_of task.change) (reply_at stage.step) before u

module _ (site : Ground) (task : Task) (is : IsIn site task) (seen : Seen) (before v : View) (same : HasNoMore before v) where
  -- ---- refusals
  pub refused : IsGiving site task seen seen.held v → (r : Reply) (n : ℕ) → is_done r ≡ false
      → Goes site task before (answered seen n r) (with_reply v (next_entry v (call_of task.change) r n false))
  refused g r n plain =
      let u : View = with_reply v (next_entry v (call_of task.change) r n false) in (
        give_suits site task is seen (ending.Replied r n) u (reply_gives site task.site task.hash seen.path.segment seen.held v (next_entry v (call_of task.change) r n false) g),
        subst (λ (o : Option (Reply × ℕ)). EntersReply (call_of task.change) o before u) (sym (ap reply_of (giving_outcome seen.held (ending.Replied r n))))
            (one_more (call_of task.change) before v r n plain same),
      )

  -- ---- room
  module _ (some : 0 < v.callers) (h : HasLoaded site task seen 4 4 v) (q : IsQuiet v) (vis : IsVisiting task seen) (pinned : IsPinned site task.hash seen.path v.pinned) where
    abbrev with_room : View
    with_room = record v { room = v.callers }

    gives : IsGiving site task seen seen.held v
    gives = record { located = located site task is seen v.facts h.there; locks = h.locks; quiet = q }

    room_quiet : IsQuiet with_room
    room_quiet = record { dirty = q.dirty; flushed = q.flushed; planned = q.planned; moving = q.moving; owed = q.owed }

    room_loaded : HasLoaded site task seen 4 4 with_room
    room_loaded = record {
      there = h.there;
      locks = record { has = h.locks.has; only = h.locks.only; free = h.locks.free; known = h.locks.known; areas = h.locks.areas };
      upto = h.upto;
      whole = h.whole;
    }

    no_more : (s : Stage) → reply_at s.step ≡ None → EntersReply (call_of task.change) (reply_at s.step) before with_room
    no_more s quiet = none_more (call_of task.change) before v (reply_at s.step) with_room quiet same refl refl

    -- the spot is chosen
    module _ (spot : Spot) (right : IsSpot site task (record seen { place = spot.place; written = record_at task seen.buckets spot }) task.change.effect (found seen task.change.key)) where
      abbrev chosen : Seen
      chosen = record seen { place = spot.place; written = record_at task seen.buckets spot }

      abbrev lock : ℕ
      lock = lock_of task seen spot.place

      abbrev knows : Knows (IsOfHeld task.site task.hash seen.path.segment seen.held) (loaded task seen) with_room
      knows = (holds_buckets site task is seen with_room room_loaded pinned).knows

      changes : (m : Make) → IsMaking lock chosen.written (IsOfHeld task.site task.hash seen.path.segment seen.held) (loaded task seen) (prepared task chosen) m with_room
          → planned_at site task chosen m ≡ [] → owed_at site task chosen m ≡ [] → (IsNew m → IsInserting task.change.effect) → IsChanging site task chosen m with_room
      changes m making plans owes inserts = record {
        all = record {
          there = h.there;
          pinned = pinned;
          locks = record { has = h.locks.has; only = h.locks.only; free = h.locks.free; known = h.locks.known; areas = h.locks.areas };
          upto = record { these = h.upto.these; others = h.upto.others };
          visits = record { first = vis.first; second = vis.second };
          still = q.moving;
        };
        chosen = record { spot = right; written = refl };
        inserts = inserts;
        making = making;
        room = some;
        planned = q.planned ∙ sym plans;
        owes = q.owed ∙ sym owes;
      }

      -- an insert prepares the record
      key_goes : (value : ℕ) → task.change.effect ≡ Insert value → Goes site task before (making task seen spot Key) with_room
      key_goes value effect =
          let begins = (make_knows (IsOfHeld task.site task.hash seen.path.segment seen.held)).new lock chosen.written (loaded task seen) with_room knows (none_loose with_room room_quiet) in (
            changes Key
                (subst (λ (d : Effect). IsMaking lock chosen.written (IsOfHeld task.site task.hash seen.path.segment seen.held) (loaded task seen) (prepared_by task chosen d) Key with_room) (sym effect) begins)
                refl refl (λ new. subst IsInserting (sym effect) tt),
            no_more (go chosen (step.Make Key)) refl,
          )

      -- the others begin at the one store
      publish_goes : prepared task chosen ≡ loaded task seen → Goes site task before (making task seen spot Publish) with_room
      publish_goes plain =
          let begins = (make_knows (IsOfHeld task.site task.hash seen.path.segment seen.held)).change lock chosen.written (loaded task seen) (loaded task seen) with_room knows (none_loose with_room room_quiet) in (
            changes Publish
                (subst (λ (w : Words). IsMaking lock chosen.written (IsOfHeld task.site task.hash seen.path.segment seen.held) (loaded task seen) w Publish with_room) (sym plain) begins)
                refl refl (λ new. absurd new),
            no_more (go chosen (step.Make Publish)) refl,
          )

    -- no slot is free
    kept_goes : (value : ℕ) → task.change.effect ≡ Insert value → found seen task.change.key ≡ None → room_in seen.buckets ≡ None
        → Goes site task before (go seen (step.Ended ends.NoSlot)) with_room
    kept_goes value effect none full =
        let third = λ (p : Role) (out : is_asked seen p ≡ false). h.upto.others p (λ u. never (sym u.asked ∙ out)) in (
          (
            record {
              insert = subst (λ (d : Effect). IsInsert (doing task.change.key d)) (sym effect) tt;
              pinned = subst (λ m. Has (seen.path.segment, m) v.pinned) pinned.same pinned.leads.has;
              leads = subst (λ m. is_leading m task.hash ≡ true) pinned.same pinned.leads.leads;
              holds = holds_buckets site task is seen with_room room_loaded pinned;
              quiet = room_quiet;
              nowhere = nowhere site task seen (located site task is seen v.facts h.there) h.upto vis none;
              home = (room_none seen.buckets full).0;
              probing = (room_none seen.buckets full).1;
              room = some;
            },
            record { next = third Next refl; previous = third Previous refl },
          ),
          no_more (go seen (step.Ended ends.NoSlot)) refl,
        )

    module _ (n : ℕ) (small : nat_lt n (2 ^ 63) ≡ true) where
      room_is : with_room ≡ with_count (nat_lt n (2 ^ 63)) (call_of task.change) n v
      room_is = ap (λ b. with_count b (call_of task.change) n v) (sym small)

      insert_by : (value : ℕ) → task.change.effect ≡ Insert value → (there room : Option Spot) → found seen task.change.key ≡ there → room_in seen.buckets ≡ room
          → Goes site task before (inserting task seen n there room) (view_after site.shape (inserting_kind task seen there) n v)
      insert_by value effect (Some spot) room e f = refused gives reply.Exists n refl
      insert_by value effect None (Some spot) e f = subst (Goes site task before (making task seen spot Key)) room_is
          (key_goes spot (subst (λ (d : Effect). IsSpot site task (record seen { place = spot.place; written = record_at task seen.buckets spot }) d (found seen task.change.key)) (sym effect) (e, f)) value effect)
      insert_by value effect None None e f = subst (Goes site task before (go seen (step.Ended ends.NoSlot))) room_is (kept_goes value effect e f)

      change_by : (d : Effect) → task.change.effect ≡ d → (there : Option Spot) → found seen task.change.key ≡ there
          → ((spot : Spot) → found seen task.change.key ≡ Some spot → IsSpot site task (record seen { place = spot.place; written = record_at task seen.buckets spot }) d (found seen task.change.key))
          → ((spot : Spot) → prepared_by task (record seen { place = spot.place; written = record_at task seen.buckets spot }) d ≡ loaded task seen)
          → Goes site task before (changing task seen n there) (view_after site.shape (changing_kind task seen there) n v)
      change_by d effect (Some spot) e right same_words = subst (Goes site task before (making task seen spot Publish)) room_is
          (publish_goes spot (subst (λ (z : Effect). IsSpot site task (record seen { place = spot.place; written = record_at task seen.buckets spot }) z (found seen task.change.key)) (sym effect) (right spot e))
          (ap (prepared_by task (record seen { place = spot.place; written = record_at task seen.buckets spot })) effect ∙ same_words spot))
      change_by d effect None e right same_words = refused gives reply.Absent n refl

      decided_goes : (d : Effect) → task.change.effect ≡ d → Goes site task before (decided task seen n d) (view_after site.shape (deciding_kind task seen d) n v)
      decided_goes (Insert value) effect = insert_by value effect (found seen task.change.key) (room_in seen.buckets) refl refl
      decided_goes (Update value) effect = change_by (Update value) effect (found seen task.change.key) refl (λ spot e. e) (λ spot. refl)
      decided_goes Remove effect = change_by Remove effect (found seen task.change.key) refl (λ spot e. e) (λ spot. refl)

    count_by : (n : ℕ) (b : Bool) → nat_le (2 ^ 63) n ≡ b
        → Goes site task before (if b then answered seen n reply.Spent else decided task seen n task.change.effect)
        (view_after site.shape (if b then finds_room (call_of task.change) else deciding_kind task seen task.change.effect) n v)
    count_by n true test =
        subst (λ c. Goes site task before (answered seen n reply.Spent) (with_count c (call_of task.change) n v)) (sym (le-ltb n (2 ^ 63) (leb-true (2 ^ 63) n test)))
        (refused gives reply.Spent n refl)
    count_by n false test = decided_goes n (lt-ltb n (2 ^ 63) (leb-false (2 ^ 63) n test)) task.change.effect refl

    pub count_goes : (n : ℕ) → Goes site task before (counted task seen n) (view_after site.shape (count_kind task seen n) n v)
    count_goes n = count_by n (nat_le (2 ^ 63) n) refl
