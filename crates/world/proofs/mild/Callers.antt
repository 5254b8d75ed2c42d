-- Each kind of step of a caller that has no segment whole keeps planned changes, the history, room, the power, and records and notes of homes.
use Rattle.std.proofs.Common.{ℕ, List, sym, subst}
use Rattle.trace.specs.Events.{Words}
use Rattle.world.specs.Ground.{Ground}
use Rattle.world.specs.Views.{View, Has, At}
use Rattle.world.specs.Kinds.{Kind, view_after}
use Rattle.world.specs.Conditions.{May}
use Rattle.world.specs.Parts.{Locks}
use Rattle.world.specs.Invariant.{IsWatched, Holds}
use Rattle.world.specs.Laws.{found_by, words_by, views_by}
use Rattle.world.specs.areas.Areas.{Area, Whole}
use Rattle.world.specs.areas.Bridging.{HasNoWhole, CallersKeepOthers, CallersKeepRecords, CallersKeepNotesOfHomes}
use Rattle.world.proofs.holding.Backing.{Backing}
use Rattle.world.proofs.basics.Structures.{current_back}
use Rattle.world.proofs.basics.Seats.{carry}
use Rattle.world.proofs.invariant.Stays.{structure_stays, areas_stay}
use Rattle.world.proofs.invariant.KeepOwned.{keep_owned}
use Rattle.world.proofs.invariant.KeepCopies.{keep_copies}
use Rattle.world.proofs.invariant.KeepOverflow.{keep_overflow}
use Rattle.world.proofs.invariant.KeepPlans.{keep_plans}
use Rattle.world.proofs.invariant.KeepHistory.{keep_history}
use Rattle.world.proofs.invariant.KeepRoom.{keep_room}
use Rattle.world.proofs.invariant.KeepPowered.{keep_powered}
use Rattle.world.proofs.mild.Bridging.{callers_know}

abbrev pub backing_stands : (site : Ground) (words : Words) (views : List View) (j : ℕ) (v : View) → Holds site words views → At views j v → HasNoWhole v → Backing site words views j v
backing_stands site words views j v h at none = record {
  site_is = h.site_is;
  log = h.log;
  locks = h.locks;
  plans = h.plans;
  history = h.history;
  room = h.room;
  powered = h.powered;
  answered = λ a. h.notes.answered j v a at;
  newest = callers_know.newest site words views j v h at none;
  itself = callers_know.itself site words views j v h at none;
  map = callers_know.map site words views j v h at none;
}

pub callers_keep_others : CallersKeepOthers
callers_keep_others = record {
  plans = λ site kind words views j v h at none may. keep_plans site words views j v (backing_stands site words views j v h at none) at kind may;
  history = λ site kind words views j v h at none may. keep_history site words views j v (backing_stands site words views j v h at none) at kind may;
  room = λ site kind words views j v h at none may. keep_room site words views j v (backing_stands site words views j v h at none) at kind may;
  powered = λ site kind words views j v h at none may. keep_powered site words views j v (backing_stands site words views j v h at none) at kind may;
}

-- what nobody has whole after a step, nobody had before: no kind of a caller changes areas
watched_back : (site : Ground) (kind : Kind) (words : Words) (views : List View) (j : ℕ) (v : View) → Locks site words views → At views j v → May site kind v
    → (s : ℕ) → IsWatched site (words_by site kind j words) (views_by site kind j v words views) s → IsWatched site words views s
watched_back site kind words views j v locks at may s q = (
  current_back site words (words_by site kind j words) (structure_stays site words views j v locks at kind may) s q.0,
  λ c u a whole.
      let k = carry views j v (view_after site.shape kind (found_by site kind words) v) at (λ _ (z : View). Has (Whole s) z.areas)
      (λ has. subst (λ (areas : List Area). Has (Whole s) areas) (sym (areas_stay site.shape kind (found_by site kind words) v)) has) c u a whole in q.1 c k.0 k.1 k.2,
)

pub callers_keep_records : CallersKeepRecords
callers_keep_records site kind words views j v h at none may =
    let back = watched_back site kind words views j v h.locks at may in
    let b = backing_stands site words views j v h at none in
    let o = keep_owned site words views j v b at (IsWatched site words views) (IsWatched site (words_by site kind j words) (views_by site kind j v words views)) back (record { own = h.records.own }) kind may in
    let c = keep_copies site words views j v b at (IsWatched site words views) (IsWatched site (words_by site kind j words) (views_by site kind j v words views)) back
    (record { once = h.records.once; held = h.records.held }) kind may in
    record { own = o.own; once = c.once; held = c.held }

pub callers_keep_notes_of_homes : CallersKeepNotesOfHomes
callers_keep_notes_of_homes site kind words views j v h at none may =
    let q = keep_overflow site words views j v (backing_stands site words views j v h at none) at (IsWatched site words views) (IsWatched site (words_by site kind j words) (views_by site kind j v words views))
    (watched_back site kind words views j v h.locks at may) (λ s watched. watched.0.live.slot)
    (record { exact = h.notes_of_homes.exact; owes = h.notes_of_homes.owes; held = h.notes_of_homes.held; fits = h.notes_of_homes.fits }) kind may in
    record { exact = q.exact; owes = q.owes; held = q.held; fits = q.fits }
