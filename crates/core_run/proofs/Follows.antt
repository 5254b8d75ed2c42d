-- What callers were told follows their scripts.
use Rattle.std.proofs.Common.{◌≡◌, ℕ, suc, ◌<◌, Bool, true, false, List, [], ◌∷◌, length, map, Option, None, Some, refl, sym, ◌∙◌, subst, arith}
use Rattle.std.specs.List.{AllZip}
use Rattle.std.proofs.lemmas.Option.{slice_get_within}
use Rattle.map_model.specs.declared.call.Call.{Call}
use Rattle.map_model.specs.declared.entry.Entry.{Entry}
use Rattle.image_layout.specs.Places.{Shape}
use Rattle.session.specs.Callers.{FollowsScript}
use Rattle.world.specs.Ground.{Ground}
use Rattle.world.specs.Views.{View}
use Rattle.engine.specs.declared.engine.Engine.{Engine}
use Rattle.engine.specs.Core.{Caller, Core, open_of, told_of, tolds_of}
use Rattle.engine.specs.Holding.{DoesCall, CallerFits}
use Rattle.core_run.specs.declared.keeper.Keeper.{Keeper}
use Rattle.core_run.specs.declared.keeper.Keeper.TheVariants.{Restarting, Open, Closing, Closed}
use Rattle.core_run.specs.State.{waiting_from}
use Rattle.core_run.specs.Running.{Setup, site_in, HasToldInOrder, AllTold, IsOpen, IsRunningBy}
use Rattle.core_run.specs.States.{ToldsFollow}
use Rattle.core_run.proofs.events.Told.{entries_more}

-- ---- a caller
-- a call that has begun is one of the caller's
begun_within : (site : Ground) (c : Caller) (v : View) (e : Option Engine) → DoesCall site c e v → c.begun ≡ true → length c.entries < length c.calls
begun_within site c v None does begun = absurd (let no : true ≡ false = sym begun ∙ does.begun in cc)
begun_within site c v (Some e) does begun = slice_get_within c.calls (length c.entries) does.call does.is_current

module _ (t : Setup) (version number : ℕ) (c : Caller) (h : HasToldInOrder t version number c) (within : c.begun ≡ true → length c.entries < length c.calls) where
  follows_by : (b : Bool) → c.begun ≡ b → (drew : Option Entry) → c.drew ≡ drew → FollowsScript c.calls (record { entries = c.entries; left_open = open_of b drew })
  follows_by false begun drew drawn = record { its_calls = h.its_calls; within = let l = h.within in omega (arith, l) }
  follows_by true begun None drawn = record { its_calls = h.its_calls; within = let l = within begun in omega (arith, l) }
  follows_by true begun (Some e) drawn = record {
    its_calls = entries_more c.entries c.calls e h.its_calls (h.drawn e drawn);
    within = let l = within begun in omega (arith, l);
  }

  follows : FollowsScript c.calls (told_of c)
  follows = follows_by c.begun refl c.drew refl

-- ---- all callers
all_follow : (site : Ground) (t : Setup) (version number : ℕ) (callers : List Caller) (views : List View) → AllZip (CallerFits site) callers views
    → AllTold t version number callers → AllZip FollowsScript (map (λ (c : Caller). c.calls) callers) (map told_of callers)
all_follow site t version number [] views fits told = tt
all_follow site t version number (c ∷ callers) [] fits told = absurd fits
all_follow site t version number (c ∷ callers) (v ∷ views) fits told = (
  follows t version number c told.0 (begun_within site c v c.engine fits.0.does),
  all_follow site t version (suc number) callers views fits.1 told.1,
)

waiting_follow : (shape : Shape) (number : ℕ) (scripts : List (List Call)) → AllZip FollowsScript scripts (map told_of (waiting_from shape number scripts))
waiting_follow shape number [] = tt
waiting_follow shape number (calls ∷ scripts) = (record { its_calls = refl; within = omega arith }, waiting_follow shape (suc number) scripts)

module _ (t : Setup) where
  abbrev Follow : List Caller → Type 0
  Follow callers = AllZip FollowsScript t.scripts (map told_of callers)

  open_follow : (core : Core) → IsOpen t core → Follow core.callers
  open_follow core o = subst (λ (scripts : List (List Call)). AllZip FollowsScript scripts (tolds_of core)) o.scripts
      (all_follow (site_in t) t _ 1 core.callers o.holds.views o.holds.each o.told)

  by_keeper : (keeper : Keeper) (core : Core) → IsRunningBy t keeper core → Follow core.callers
  by_keeper (Restarting op) core r = subst Follow (sym r.callers_are) (waiting_follow t.shape 1 t.scripts)
  by_keeper Open core r = open_follow core r
  by_keeper (Closing op) core r = subst Follow (sym r.0.callers_are) (open_follow r.0.before r.0.was_open)
  by_keeper Closed core r = subst Follow (sym r.1.callers_are) (open_follow r.1.before r.1.was_open)

pub tolds_follow : ToldsFollow
tolds_follow t s is run = by_keeper t s.keeper s.core run
