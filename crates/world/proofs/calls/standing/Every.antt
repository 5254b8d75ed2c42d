-- Each kind of step keeps the invariant: its parts, put together.
use Rattle.std.proofs.Common.{◌≡◌, ℕ, List, refl, subst}
use Rattle.trace.specs.Events.{Words}
use Rattle.segment_head.specs.HeadWord.{HasLiveState}
use Rattle.world.specs.Ground.{Ground}
use Rattle.world.specs.Views.{View, At}
use Rattle.world.specs.Kinds.{Kind, peeks, asks_power, flushes, fences, unlocks, cuts_power, log_after}
use Rattle.world.specs.Conditions.{May}
use Rattle.world.specs.Laws.{words_by, views_by}
use Rattle.world.specs.areas.Areas.{header_word}
use Rattle.world.specs.areas.Asking.{KnowsDead}
use Rattle.world.specs.areas.Calling.{AsksOfAreas}
use Rattle.world.specs.Invariant.{Holds}
use Rattle.world.specs.areas.Bridging.{HasNoWhole}
use Rattle.world.specs.StepKinds.{StepKind, of_call, of_structure, of_peek, of_power, of_flush, of_cut, AsksOfView}
use Rattle.world.specs.StepLaws.{Keeps}
use Rattle.world.proofs.moving.Callers.{callers_keep_locks, callers_keep_words}
use Rattle.world.proofs.moving.SpentNumbers.{callers_keep_spending}
use Rattle.world.proofs.mild.Callers.{callers_keep_others, callers_keep_records, callers_keep_notes_of_homes}
use Rattle.world.proofs.mild.Holding.{holding_kept}
use Rattle.world.proofs.calls.standing.Structure.{structure_by_callers}
use Rattle.world.proofs.calls.leaving.Media.{media_by_callers}
use Rattle.world.proofs.calls.reading.Notes.{notes_by_callers}
use Rattle.world.proofs.calls.mildly.Mildly.{mild_kinds}

-- what a step of a caller leaves
abbrev IsKept : (site : Ground) (kind : Kind) (words : Words) (views : List View) (j : ℕ) (v : View) → Holds site words views → Type 0
IsKept site kind words views j v h = (after : Holds site (words_by site kind j words) (views_by site kind j v words views)) × (after.log ≡ log_after kind h.log)

-- of a caller that has no segment whole
callers_keep : (site : Ground) (kind : Kind) (words : Words) (views : List View) (j : ℕ) (v : View) (h : Holds site words views) → At views j v → HasNoWhole v → May site kind v
    → AsksOfAreas site words kind v → IsKept site kind words views j v h
callers_keep site kind words views j v h at none may ask = (
  record {
    site_is = h.site_is;
    log = log_after kind h.log;
    structure = structure_by_callers site kind words views j v h at none may ask;
    locks = callers_keep_locks site kind words views j v h.locks at may;
    known = callers_keep_words site kind words views j v h at may;
    plans = callers_keep_others.plans site kind words views j v h at none may;
    history = callers_keep_others.history site kind words views j v h at none may;
    records = callers_keep_records site kind words views j v h at none may;
    notes_of_homes = callers_keep_notes_of_homes site kind words views j v h at none may;
    media = media_by_callers site kind words views j v h at none may;
    notes = notes_by_callers site kind words views j v h at none may;
    room = callers_keep_others.room site kind words views j v h at none may;
    spending = callers_keep_spending site kind words views j v h at may;
    powered = callers_keep_others.powered site kind words views j v h at none may;
  },
  refl,
)

-- a side that its view knows to be dead is so
dead_now : (site : Ground) (words : Words) (views : List View) (j : ℕ) (v : View) → Holds site words views → At views j v → (n : ℕ) → KnowsDead site v n
    → HasLiveState (words (header_word site.shape n)) → ⊥
dead_now site words views j v h at n k l = k.2 (subst HasLiveState (h.known.knows j v (header_word site.shape n) k.0 at k.1).0 l)

-- EACH KIND of a caller's steps: mild kinds whatever areas the view has, and the others where it has no segment whole
every_call : (site : Ground) (kind : Kind) (words : Words) (views : List View) (j : ℕ) (v : View) (h : Holds site words views) → At views j v → May site kind v → AsksOfView site kind v
    → IsKept site kind words views j v h
every_call site (peeks word) words views j v h at may ask = mild_kinds site (peeks word) (of_peek word) words views j v h at
every_call site asks_power words views j v h at may ask = mild_kinds site asks_power of_power words views j v h at
every_call site (flushes line) words views j v h at may ask = mild_kinds site (flushes line) (of_flush line) words views j v h at
every_call site cuts_power words views j v h at may ask = mild_kinds site cuts_power of_cut words views j v h at
every_call site fences words views j v h at may ask = callers_keep site fences words views j v h at ask.0 may (λ n side. dead_now site words views j v h at n (ask.1 n side))
every_call site (unlocks lock next) words views j v h at may ask = callers_keep site (unlocks lock next) words views j v h at ask may ask
every_call site kind words views j v h at may ask = callers_keep site kind words views j v h at ask may tt

-- EACH KIND OF STEP
pub every_step : (site : Ground) (kind : StepKind) → Keeps site kind
every_step site (of_call kind) words views j v h at may = every_call site kind words views j v h at may.0 may.1
every_step site (of_structure kind) words views j v h at may = holding_kept site kind words views j v h at may
