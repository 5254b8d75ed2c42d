-- The restart and the close, brought to their ends.
use Rattle.std.proofs.Common.{◌≡◌, ℕ, zero, suc, ◌≤◌, false, Option, Some, None, refl, sym, ◌∙◌, subst, arith}
use Rattle.std.specs.Prelude.{if◌then◌else◌}
use Rattle.std.proofs.lemmas.Option.{none-some, same_Some}
use Rattle.restart_op.specs.declared.restart.RestartOp.{RestartOp}
use Rattle.engine.specs.Core.{Core}
use Rattle.core_run.specs.declared.keeper.Keeper.{Keeper}
use Rattle.core_run.specs.declared.keeper.Keeper.TheVariants.{Restarting, Open, Closing, Closed}
use Rattle.core_run.specs.declared.goal.Goal.{Goal}
use Rattle.core_run.specs.declared.goal.Goal.TheVariants.{AnyEvent}
use Rattle.core_run.specs.State.{State, Deed, restart_deed, close_deed, keeper_deed, deed}
use Rattle.core_run.specs.Run.{counts, stops, by_deed, drive, restarted_by, restarted}
use Rattle.core_run.specs.Running.{Setup, IsSetup}
use Rattle.core_run.specs.Along.{KeeperLaws}
use Rattle.core_run.specs.Ends.{IsRun, most_of}
use Rattle.core_run.proofs.ends.Choices.{either, not_so}
use Rattle.core_run.proofs.ends.Stopping.{StopsIn}
use Rattle.core_run.proofs.ends.Measures.{keeper_low, keeper_stops, IsEarly, stays_early}

module _ (keepers : KeeperLaws) (t : Setup) (is : IsSetup t) where
  -- caller 0 never pauses
  on_deed : (k : Keeper) (core : Core) (d : Deed) → keeper_deed t.shape k core ≡ Some d → stops AnyEvent d ≡ false
  on_deed (Restarting op) core d e = subst (λ (x : Deed). stops AnyEvent x ≡ false) (same_Some (restart_deed t.shape op core) d e) refl
  on_deed Open core d e = absurd (none-some d e)
  on_deed (Closing op) core d e = subst (λ (x : Deed). stops AnyEvent x ≡ false) (same_Some (close_deed t.shape op core) d e) refl
  on_deed Closed core d e = absurd (none-some d e)

  -- where it counts each event it goes on to its last
  through : (m n : ℕ) (s : State) → StopsIn t.shape AnyEvent 0 m s → m ≤ n → deed t.shape 0 (drive t.shape m 0 AnyEvent n s) ≡ None
  through zero n s stop few = by (deed t.shape 0 s) refl
    where
      by : (o : Option Deed) → deed t.shape 0 s ≡ o → o ≡ None
      by None e = refl
      by (Some d) e = absurd (stop d e)
  through (suc m) zero s stop few = absurd (omega (arith, few))
  through (suc m) (suc n) s stop few = by (λ u p q. through m n u p q) (deed t.shape 0 s) refl
    where
      by : ((u : State) → StopsIn t.shape AnyEvent 0 m u → m ≤ n → deed t.shape 0 (drive t.shape m 0 AnyEvent n u) ≡ None) → (o : Option Deed) → deed t.shape 0 s ≡ o
          → deed t.shape 0 (by_deed AnyEvent o s (λ d. drive t.shape m 0 AnyEvent (if counts AnyEvent d then n else suc n) d.state)) ≡ None
      by rest None e = e
      by rest (Some d) e =
          let on = on_deed s.keeper s.core d e in
          not_so (λ x. deed t.shape 0 x ≡ None) (stops AnyEvent d) d.state (drive t.shape m 0 AnyEvent n d.state) on (rest d.state (stop d e on) (omega (arith, few)))

  pub driven_through : (most : ℕ) (s : State) → most_of t ≤ most → IsRun t s → deed t.shape 0 (drive t.shape most 0 AnyEvent most s) ≡ None
  driven_through most s enough r =
      let low = keeper_low keepers t is s.keeper s.core r.running r.along in
      through most most s (keeper_stops keepers t is AnyEvent most s r (omega (arith, low, enough))) (omega arith)

  -- what caller 0 keeps to in each of its events it keeps to in all
  module _ (P : Keeper → Type 0) (keeps_to : (k : Keeper) (core : Core) (d : Deed) → P k → keeper_deed t.shape k core ≡ Some d → P d.state.keeper) where
    pub drive_keeps : (m : ℕ) (goal : Goal) (n : ℕ) (s : State) → P s.keeper → P (drive t.shape m 0 goal n s).keeper
    drive_keeps zero goal n s p = p
    drive_keeps (suc m) goal zero s p = p
    drive_keeps (suc m) goal (suc n) s p = by (λ n' u q. drive_keeps m goal n' u q) (deed t.shape 0 s) refl
      where
        by : ((n' : ℕ) (u : State) → P u.keeper → P (drive t.shape m 0 goal n' u).keeper) → (o : Option Deed) → deed t.shape 0 s ≡ o
            → P (by_deed goal o s (λ d. drive t.shape m 0 goal (if counts goal d then n else suc n) d.state)).keeper
        by rest None e = p
        by rest (Some d) e =
            let next : P d.state.keeper = keeps_to s.keeper s.core d p e in
            either (λ (x : State). P x.keeper) (stops goal d) d.state (drive t.shape m 0 goal (if counts goal d then n else suc n) d.state) next
            (rest (if counts goal d then n else suc n) d.state next)

  -- ---- the restart
  pub restart_ends : (most : ℕ) (s : State) → most_of t ≤ most → IsRun t s → (op : RestartOp) → (restarted t.shape most s).keeper ≡ Restarting op → ⊥
  restart_ends most s enough r op e = by s.keeper refl e
    where
      by : (k : Keeper) → s.keeper ≡ k → (restarted_by t.shape most k s).keeper ≡ Restarting op → ⊥
      by (Restarting begun) here e =
          let end : State = drive t.shape most 0 AnyEvent most s in
          let none : deed t.shape 0 end ≡ None = driven_through most s enough r in
          none-some (restart_deed t.shape op end.core) (sym (subst (λ k. keeper_deed t.shape k end.core ≡ None) e none))
      by Open here e = absurd (let z : Open ≡ Restarting op = sym here ∙ e in cc)
      by (Closing close) here e = absurd (let z : Closing close ≡ Restarting op = sym here ∙ e in cc)
      by Closed here e = absurd (let z : Closed ≡ Restarting op = sym here ∙ e in cc)

  pub restart_opens : (most : ℕ) (s : State) (op : RestartOp) → most_of t ≤ most → IsRun t s → s.keeper ≡ Restarting op → (restarted t.shape most s).keeper ≡ Open
  restart_opens most s op enough r here =
      by (restarted t.shape most s).keeper refl
      (subst (λ k. IsEarly (restarted_by t.shape most k s).keeper) (sym here) (drive_keeps IsEarly (stays_early t.shape) most AnyEvent most s (subst IsEarly (sym here) tt)))
    where
      by : (k : Keeper) → (restarted t.shape most s).keeper ≡ k → IsEarly k → (restarted t.shape most s).keeper ≡ Open
      by (Restarting begun) is early = absurd (restart_ends most s enough r begun is)
      by Open is early = is
      by (Closing close) is early = absurd early
      by Closed is early = absurd early
