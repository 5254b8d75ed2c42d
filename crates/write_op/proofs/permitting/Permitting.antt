-- The loads of the commit counter are of kinds that the view may take: a refusal is right by what the holder of the locks knows.
use Rattle.std.proofs.Common.{◌≡◌, ℕ, ◌^◌, ◌<◌, Bool, true, false, Option, Some, None, inl, refl, sym, subst}
use Rattle.std.specs.Prelude.{nat_le, if◌then◌else◌}
use Rattle.map_model.specs.declared.change.Effect.{Effect}
use Rattle.map_model.specs.declared.change.Effect.TheVariants.{Insert, Update, Remove}
use Rattle.map_model.specs.declared.entry.Reply.TheVariants as reply
use Rattle.map_model.specs.Legal.{IsChange}
use Rattle.map_model.specs.Changes.{doing, call_of}
use Rattle.world.specs.Ground.{Ground}
use Rattle.world.specs.Views.{View}
use Rattle.world.specs.Kinds.{finds_room, refuses}
use Rattle.world.specs.Conditions.{May, FoundSpent}
use Rattle.world.specs.Holders.{FoundNone, FoundAt}
use Rattle.world.proofs.holding.Holders.{may_tell}
use Rattle.phase.specs.Giving.{IsLocated, IsQuiet}
use Rattle.phase.specs.Places.{bucket_of_role}
use Rattle.phase.proofs.locks.Finding.{holders_find}
use Rattle.write_op.specs.declared.step.Task.{Task}
use Rattle.write_op.specs.declared.step.Spot.{Spot}
use Rattle.write_op.specs.declared.step.Seen.{Seen}
use Rattle.write_op.specs.Search.{found}
use Rattle.write_op.specs.Fits.{loaded, inserting_kind, changing_kind, deciding_kind, count_kind, IsVisiting, HasLoaded, IsPinned, IsIn}
use Rattle.write_op.proofs.keeping.Going.{located}
use Rattle.write_op.proofs.finding.Searching.{found_some}
use Rattle.write_op.proofs.finding.Finding.{asked_held, holds_buckets, nowhere, hits}

change_is : (key : ℕ) (d : Effect) → IsChange (doing key d)
change_is key (Insert value) = tt
change_is key (Update value) = tt
change_is key Remove = tt

-- a lock word of the last version was found
pub spent_may : (site : Ground) (task : Task) (seen : Seen) (v : View) → FoundSpent v → May site (refuses (call_of task.change) reply.Spent) v
spent_may site task seen v spent = (refl, inl (λ a. change_is task.change.key task.change.effect), (λ m words newest map. tt), (λ is. spent), (λ full. absurd (let e : reply.Spent ≡ reply.Full = full in cc)))

module _ (site : Ground) (task : Task) (is : IsIn site task) (seen : Seen) (v : View) (some : 0 < v.callers) (h : HasLoaded site task seen 4 4 v) (q : IsQuiet v) (vis : IsVisiting task seen)
    (pinned : IsPinned site task.hash seen.path v.pinned) where
  abbrev segment : ℕ
  segment = seen.path.segment

  at : IsLocated site task.site segment
  at = located site task is seen v.facts h.there

  found_nowhere : found seen task.change.key ≡ None → FoundNone site v (loaded task seen) segment task.change.key
  found_nowhere none = holders_find.none site task.site task.hash segment seen.held (loaded task seen) task.change.key v (holds_buckets site task is seen v h pinned) q (nowhere site task seen at h.upto vis none)

  found_there : (spot : Spot) → found seen task.change.key ≡ Some spot → FoundAt site v (loaded task seen) segment (bucket_of_role task.hash spot.place) spot.slot task.change.key
  found_there spot there =
      let f = found_some seen task.change.key spot there in
      holders_find.at site task.site task.hash segment seen.held (loaded task seen) task.change.key v (holds_buckets site task is seen v h pinned) q spot.place (asked_held seen h.upto spot.place f.asked) spot.slot
      (hits site task seen at h.upto vis spot f)

  exists_may : (value : ℕ) → task.change.effect ≡ Insert value → (spot : Spot) → found seen task.change.key ≡ Some spot → May site (refuses (call_of task.change) reply.Exists) v
  exists_may value effect spot there = subst (λ (d : Effect). May site (refuses (doing task.change.key d) reply.Exists) v) (sym effect) (
    refl,
    (may_tell site v).present (doing task.change.key (Insert value)) reply.Exists segment (bucket_of_role task.hash spot.place) spot.slot (loaded task seen) (found_there spot there) refl,
    (λ m words newest map. tt),
    (λ spent. absurd (let e : reply.Exists ≡ reply.Spent = spent in cc)),
    (λ full. absurd (let e : reply.Exists ≡ reply.Full = full in cc)),
  )

  absent_update : (value : ℕ) → found seen task.change.key ≡ None → May site (refuses (doing task.change.key (Update value)) reply.Absent) v
  absent_update value none = (
    refl,
    (may_tell site v).absent (doing task.change.key (Update value)) reply.Absent segment (loaded task seen) (found_nowhere none) at.within refl,
    (λ m words newest map. tt),
    (λ spent. absurd (let e : reply.Absent ≡ reply.Spent = spent in cc)),
    (λ full. absurd (let e : reply.Absent ≡ reply.Full = full in cc)),
  )

  absent_remove : found seen task.change.key ≡ None → May site (refuses (doing task.change.key Remove) reply.Absent) v
  absent_remove none = (
    refl,
    (may_tell site v).absent (doing task.change.key Remove) reply.Absent segment (loaded task seen) (found_nowhere none) at.within refl,
    (λ m words newest map. tt),
    (λ spent. absurd (let e : reply.Absent ≡ reply.Spent = spent in cc)),
    (λ full. absurd (let e : reply.Absent ≡ reply.Full = full in cc)),
  )

  room_may : May site (finds_room (call_of task.change)) v
  room_may = (change_is task.change.key task.change.effect, some)

  insert_may : (value : ℕ) → task.change.effect ≡ Insert value → (there : Option Spot) → found seen task.change.key ≡ there → May site (inserting_kind task seen there) v
  insert_may value effect (Some spot) e = exists_may value effect spot e
  insert_may value effect None e = room_may

  change_may : (d : Effect) → task.change.effect ≡ d → (found seen task.change.key ≡ None → May site (refuses (doing task.change.key d) reply.Absent) v)
      → (there : Option Spot) → found seen task.change.key ≡ there → May site (changing_kind task seen there) v
  change_may d effect absent (Some spot) e = room_may
  change_may d effect absent None e = subst (λ (z : Effect). May site (refuses (doing task.change.key z) reply.Absent) v) (sym effect) (absent e)

  deciding_may : (d : Effect) → task.change.effect ≡ d → May site (deciding_kind task seen d) v
  deciding_may (Insert value) effect = insert_may value effect (found seen task.change.key) refl
  deciding_may (Update value) effect = change_may (Update value) effect (absent_update value) (found seen task.change.key) refl
  deciding_may Remove effect = change_may Remove effect absent_remove (found seen task.change.key) refl

  either_may : (b : Bool) → May site (if b then finds_room (call_of task.change) else deciding_kind task seen task.change.effect) v
  either_may true = room_may
  either_may false = deciding_may task.change.effect refl

  pub count_may : (n : ℕ) → May site (count_kind task seen n) v
  count_may n = either_may (nat_le (2 ^ 63) n)
