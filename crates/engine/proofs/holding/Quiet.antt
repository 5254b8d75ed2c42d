-- Where no engine runs, nobody holds or owes anything, and the newest words have the map of the history.
use Rattle.std.proofs.Common.{◌≡◌, ℕ, zero, suc, List, [], ◌∷◌, slice_get, None, Some, inl, inr, refl, sym, ap, ◌∙◌, subst, arith}
use mathlib.Core.Option.{some-injective}
use Rattle.std.specs.List.{AllByRecursion}
use Rattle.std.proofs.lemmas.Option.{none-some, same_Some}
use Rattle.trace.specs.Events.{Words}
use Rattle.segment_head.specs.HeadWord.{normal}
use Rattle.image_layout.specs.Places.{state_word}
use Rattle.image_layout.specs.StateWord.{version_in, marker_in}
use Rattle.sound_image.specs.Segments.{frame_of, state_at}
use Rattle.world.specs.Ground.{Ground, IsStructured, IsCurrentIn}
use Rattle.world.specs.Views.{View, At}
use Rattle.world.specs.World.{fresh_view}
use Rattle.world.specs.Laws.{EntriesAreLegal}
use Rattle.world.specs.Slots.{CurrentSegmentsRest}
use Rattle.world.specs.areas.Areas.{Whole}
use Rattle.world.specs.Invariant.{IsWatched}
use Rattle.world.specs.Attempts.{OwesNothing}
use Rattle.restart_op.specs.AtRest.{IsCurrent, IsOpenStructure}
use Rattle.engine.specs.Core.{Caller, Core}
use Rattle.engine.specs.Holding.{DoesCall, CallerFits, CoreHolds}
use Rattle.engine.specs.Laws.{NoneRuns, ThroughIsQuiet, ThroughIsExact, ThroughIsOnce, ThroughIsOwn, ThroughHasMap}
use Rattle.phase.proofs.Handing.{none_has}
use Rattle.engine.proofs.holding.Served.{sound_now}
use Rattle.engine.proofs.sessions.Cut.{told_legal}
use Rattle.engine.proofs.sessions.Goodness.{caller_at}

none_at : (callers : List Caller) → AllByRecursion (λ c. c.engine ≡ None) callers → (j : ℕ) (c : Caller) → slice_get callers j ≡ Some c → c.engine ≡ None
none_at [] all j c is = absurd (none-some c is)
none_at (x ∷ callers) all zero c is = subst (λ (z : Caller). z.engine ≡ None) (same_Some x c is) all.0
none_at (x ∷ callers) all (suc j) c is = none_at callers all.1 j c is

module _ (site : Ground) (start : Words) (core : Core) (h : CoreHolds site start core) (none : NoneRuns core) where
  idle_owes : (c : Caller) (v : View) → CallerFits site c v → c.engine ≡ None → OwesNothing v
  idle_owes c v fits is =
      let d = subst (λ o. DoesCall site c o v) is fits.does in
      record { held = d.nothing.held; dirty = d.nothing.dirty; flushed = d.nothing.flushed; planned = d.nothing.planned; moving = d.nothing.moving; owed = d.nothing.owed; areas = d.nothing.areas }

  owes : (j : ℕ) (v : View) → At (fresh_view 0 ∷ h.views) j v → OwesNothing v
  owes zero v at = subst OwesNothing (some-injective (fresh_view 0) v at) (record { held = refl; dirty = refl; flushed = refl; planned = refl; moving = refl; owed = refl; areas = refl })
  owes (suc j) v at = let c = caller_at site core.callers h.views j v h.each at in idle_owes c.0 v c.2 (none_at core.callers none j c.0 c.1)

  abbrev now : IsStructured site core.words
  now = sound_now site core.words (fresh_view 0 ∷ h.views) h.well.holds

  -- the state word is that of the start
  state_stays : core.words state_word ≡ site.front state_word
  state_stays = now.fixed state_word (omega arith) (λ e. omega (arith, e))

  -- a segment that is current in the structure has the version of the site
  current_here : (s : ℕ) → IsCurrent site.shape core.words s → IsCurrentIn site core.words s
  current_here s current = record { live = current.live; current = current.current ∙ ap version_in state_stays }

  -- nobody splits a segment, so that each current one is normal
  module _ (rest : CurrentSegmentsRest) where
    current_normal : (s : ℕ) → IsCurrent site.shape core.words s → state_at (frame_of site.shape core.words) s ≡ normal
    current_normal s current = elim current.live.live [
      | inl is ↦ is
      | inr splits ↦ absurd (rest.nobody site core.words (fresh_view 0 ∷ h.views) h.well.holds (λ i u at. (owes i u at).areas) s (current_here s current) splits)
    ]

    -- THE STRUCTURE is one on which callers run
    open_now : IsOpenStructure site.shape core.words
    open_now = record { frame = now.sound; not_clean = ap marker_in state_stays ∙ h.served.not_clean; takes_calls = current_normal }

pub through_is_quiet : CurrentSegmentsRest → ThroughIsQuiet
through_is_quiet rest site start core h none = record {
  well = h.well;
  nothing = owes site start core h none;
  fits = h.fits;
  says = h.says;
  structure = open_now site start core h none rest;
  fenced = h.fenced;
}

-- nobody has a segment whole, so that each current one is watched
watched : (site : Ground) (start : Words) (core : Core) (h : CoreHolds site start core) → NoneRuns core
    → (s : ℕ) → IsCurrentIn site core.words s → IsWatched site core.words (fresh_view 0 ∷ h.views) s
watched site start core h none s current = (current, λ j v at whole. none_has v.areas (Whole s) (owes site start core h none j v at).areas whole)

pub through_is_exact : ThroughIsExact
through_is_exact site start core h none s b current near =
    h.well.holds.notes_of_homes.exact s b (watched site start core h none s current) near
    (λ j v o at has segment home. none_has v.owed o (owes site start core h none j v at).owed has)

-- and nobody has a record under way from one place to another
pub through_is_once : ThroughIsOnce
through_is_once site start core h none s b r c t k current one other =
    elim (h.well.holds.records.once s b r c t k (watched site start core h none s current) one other) [
      | inl same ↦ same
      | inr p ↦ absurd (none_has p.1.moving p.2 (owes site start core h none p.0 p.1 p.3).moving p.4)
    ]

pub through_is_own : ThroughIsOwn
through_is_own site start core h none s b r k current hit = h.well.holds.records.own s b r k (watched site start core h none s current) hit

pub through_has_map : EntriesAreLegal → ThroughHasMap
through_has_map legal site start core opening h same none k =
    let told = told_legal legal site core.words core h.views h.well.holds.log h.each h.well.holds.history opening same in
    elim (h.well.holds.media.stands core.words (λ i within. inl refl) k) [
      | inl is ↦ told.1 k ∙ sym is
      | inr p ↦ absurd (none_has p.1.planned p.2 (owes site start core h none p.0 p.1 p.3).planned p.4)
    ]
