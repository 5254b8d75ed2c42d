-- A segment is repaired by the turn that makes it current, and in order where all callers stand between two attempts.
use Rattle.std.proofs.Common.{◌≡◌, ℕ, zero, suc, inl, inr, [], ◌∷◌, slice_get, Option, None, Some, refl, sym, subst}
use mathlib.Core.Option.{some-injective}
use Rattle.op_core.specs.declared.want.Want.{Want}
use Rattle.trace.specs.Events.{Words}
use Rattle.world.specs.Ground.{Ground, IsCurrentIn}
use Rattle.world.specs.Views.{View, At}
use Rattle.world.specs.Wants.{words_after}
use Rattle.world.specs.World.{fresh_view}
use Rattle.world.specs.Attempts.{HoldsOnly}
use Rattle.world.specs.StepKinds.{StepKind}
use Rattle.world.specs.Invariant.{IsWatched}
use Rattle.world.specs.Slots.{IsStaleSlot, CurrentIsRepaired}
use Rattle.world.specs.areas.Areas.{Whole}
use Rattle.world.specs.areas.Beginning.{IsRepaired}
use Rattle.part.specs.Part.{IsPart}
use Rattle.phase.proofs.Handing.{none_has}
use Rattle.engine.specs.declared.engine.Engine.{Engine}
use Rattle.engine.specs.Engine.{kind_of}
use Rattle.engine.specs.OpPart.{op_part}
use Rattle.engine.specs.Fits.{finds}
use Rattle.engine.specs.Core.{Caller, Core, current, turn_of_call, turn_of_caller, turn}
use Rattle.engine.specs.Holding.{IsCalling, DoesCall, CallerFits, CoreHolds}
use Rattle.engine.specs.Causes.{BeginsBare}
use Rattle.engine.specs.Repaired.{TurnRepairs, AllAreBetween, BetweenIsInOrder}
use Rattle.engine.proofs.Places.{zip_at}
use Rattle.engine.proofs.sessions.Goodness.{caller_at}
use Rattle.engine.proofs.lonely.Others.{between_bare, fresh_bare}

-- ---- the turns
module _ (part : IsPart op_part) (repaired : CurrentIsRepaired) (site : Ground) (start : Words) (core : Core) (h : CoreHolds site start core) (s : ℕ) (was : IsStaleSlot site core.words s) where
  abbrev RepairsTo : Core → Type 0
  RepairsTo then = IsCurrentIn site then.words s → IsRepaired site then.words s

  -- where nothing changes it stays stale
  stays : RepairsTo core
  stays now = absurd (was.old now.current)

  module _ (j : ℕ) (c : Caller) (v : View) (at : At h.views j v) where
    by_call : (e : Engine) → IsCalling site c e v → RepairsTo (turn_of_call site.shape j core c (current c) (Some e))
    by_call e calling =
        let w = part.steps site c.site calling.call core.words (fresh_view 0 ∷ h.views) (suc j) e.op calling.before v h.well.holds at calling.suits.suits calling.suits.asks in
        let k : StepKind = kind_of e (finds site e core.words) in
        let To : Want → Type 0 = λ x. IsCurrentIn site (words_after site.shape x (suc j) core.words) s → IsRepaired site (words_after site.shape x (suc j) core.words) s in
        subst (λ o. RepairsTo (turn_of_call site.shape j core c o (Some e))) (sym calling.is_current)
        (subst To (sym w.wants) (repaired site core.words (fresh_view 0 ∷ h.views) (suc j) v k (suc j) h.well.holds at w.may s was))

    by_engine : (engine : Option Engine) → DoesCall site c engine v → RepairsTo (turn_of_call site.shape j core c (current c) engine)
    by_engine None through = subst (λ o. RepairsTo (turn_of_call site.shape j core c o None)) (sym through.no_call) stays
    by_engine (Some e) calling = by_call e calling

  by_caller : (j : ℕ) (o : Option Caller) → slice_get core.callers j ≡ o → RepairsTo (turn_of_caller site.shape j core o)
  by_caller j None is = stays
  by_caller j (Some c) is = let z = zip_at (CallerFits site) core.callers h.views j c h.each is in by_engine j c z.0 z.1 c.engine z.2.does

  turned : (c : ℕ) → RepairsTo (turn site.shape c core)
  turned zero = stays
  turned (suc j) = by_caller j (slice_get core.callers j) refl

pub turn_repairs : IsPart op_part → CurrentIsRepaired → TurnRepairs
turn_repairs part repaired site start core c s h was now = turned part repaired site start core h s was c now

-- ---- between two attempts
module _ (bare : BeginsBare) (site : Ground) (start : Words) (core : Core) (h : CoreHolds site start core) (between : AllAreBetween core) where
  all_bare : (j : ℕ) (v : View) → At (fresh_view 0 ∷ h.views) j v → HoldsOnly [] v
  all_bare zero v at = subst (HoldsOnly []) (some-injective (fresh_view 0) v at) fresh_bare
  all_bare (suc j) v at = let z = caller_at site core.callers h.views j v h.each at in between_bare bare site z.0 v z.2 (between j z.0 z.1)

  -- nobody has a segment whole, so that each current one is watched
  watched : (s : ℕ) → IsCurrentIn site core.words s → IsWatched site core.words (fresh_view 0 ∷ h.views) s
  watched s current = (current, λ j v at whole. none_has v.areas (Whole s) (all_bare j v at).areas whole)

pub between_is_in_order : BeginsBare → BetweenIsInOrder
between_is_in_order bare site start core h between s current =
    let near = watched bare site start core h between s current in
    record {
      own = λ b r k hit. h.well.holds.records.own s b r k near hit;
      once = λ b r c t k one other. elim (h.well.holds.records.once s b r c t k near one other) [
        | inl same ↦ same
        | inr p ↦ absurd (none_has p.1.moving p.2 (all_bare bare site start core h between p.0 p.1 p.3).moving p.4)
      ];
      exact = λ b home. h.well.holds.notes_of_homes.exact s b near home (λ j v o at has segment home. none_has v.owed o (all_bare bare site start core h between j v at).owed has);
    }
