-- Each event of a state of a run, by who does it.
use Rattle.std.proofs.Common.{◌≡◌, ℕ, zero, suc, slice_get, Option, None, Some, refl, subst}
use Rattle.std.proofs.lemmas.Option.{none-some, same_Some}
use Rattle.map_model.specs.declared.call.Call.{Call}
use Rattle.restart_op.specs.Closing.{FewWait}
use Rattle.engine.specs.declared.engine.Engine.{Engine}
use Rattle.engine.specs.Asks.{AsksWithin}
use Rattle.engine.specs.Core.{Caller, Core, current}
use Rattle.engine.specs.Holding.{TurnKeeps}
use Rattle.engine.specs.Laws.{OpenedHolds}
use Rattle.core_run.specs.declared.keeper.Keeper.{Keeper}
use Rattle.core_run.specs.declared.keeper.Keeper.TheVariants.{Restarting, Open, Closing, Closed}
use Rattle.core_run.specs.State.{Deed, call_deed, caller_deed, restart_deed, close_deed, engine_deed, deed}
use Rattle.core_run.specs.Running.{Setup, IsSetup, IsOpen, IsRunningBy, DeedIsWell, DeedsAreWell}
use Rattle.core_run.proofs.events.Waits.{EnginesWait}
use Rattle.core_run.proofs.events.Turned.{engine_well}
use Rattle.core_run.proofs.events.Opened.{restart_well}
use Rattle.core_run.proofs.events.Closes.{close_well}

module _ (opens : OpenedHolds) (closes : FewWait) (keeps : TurnKeeps) (asks : AsksWithin) (waits : EnginesWait)
    (t : Setup) (is : IsSetup t) (core : Core) (d : Deed) where
  abbrev IsWell : ℕ → Keeper → Type 0
  IsWell c keeper = DeedIsWell t c (record { keeper = keeper; core = core }) d

  module _ (o : IsOpen t core) (j : ℕ) where
    by_call : (c : Caller) → slice_get core.callers j ≡ Some c → (call : Option Call) → current c ≡ call → (e : Option Engine) → c.engine ≡ e
        → call_deed t.shape j core c call e ≡ Some d → IsWell (suc j) Open
    by_call c at None now e runs q = absurd (none-some d q)
    by_call c at (Some call) now None runs q = absurd (none-some d q)
    by_call c at (Some call) now (Some e) runs q =
        subst (λ (x : Deed). DeedIsWell t (suc j) (record { keeper = Open; core = core }) x) (same_Some (engine_deed t.shape j core c call e) d q)
        (engine_well keeps asks waits t core o j c at call now e runs)

    by_caller : (c : Option Caller) → slice_get core.callers j ≡ c → caller_deed t.shape j core c ≡ Some d → IsWell (suc j) Open
    by_caller None at q = absurd (none-some d q)
    by_caller (Some c) at q = by_call c at (current c) refl c.engine refl q

  well : (c : ℕ) (keeper : Keeper) → IsRunningBy t keeper core → deed t.shape c (record { keeper = keeper; core = core }) ≡ Some d → IsWell c keeper
  well zero (Restarting op) r q =
      subst (λ (x : Deed). DeedIsWell t 0 (record { keeper = Restarting op; core = core }) x) (same_Some (restart_deed t.shape op core) d q)
      (restart_well t is waits opens op core r)
  well zero Open r q = absurd (none-some d q)
  well zero (Closing op) r q =
      subst (λ (x : Deed). DeedIsWell t 0 (record { keeper = Closing op; core = core }) x) (same_Some (close_deed t.shape op core) d q)
      (close_well closes t op core r.0 r.1)
  well zero Closed r q = absurd (none-some d q)
  well (suc j) (Restarting op) r q = absurd (none-some d q)
  well (suc j) Open r q = by_caller r j (slice_get core.callers j) refl q
  well (suc j) (Closing op) r q = absurd (none-some d q)
  well (suc j) Closed r q = absurd (none-some d q)

pub deeds_are_well : OpenedHolds → FewWait → TurnKeeps → AsksWithin → EnginesWait → DeedsAreWell
deeds_are_well opens closes keeps asks waits t c s d is run q = well opens closes keeps asks waits t is s.core d c s.keeper run q
