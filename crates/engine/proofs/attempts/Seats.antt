-- The caller that has its turn next, after any turns: where it sits in the world, and what its view suits.
use Rattle.std.proofs.Common.{◌≡◌, ◌≢◌, ℕ, suc, ◌^◌, ◌<◌, Some, List, ◌∷◌, length, slice_get, slice_index, sym, ◌∙◌, ap, subst}
use Rattle.std.proofs.lemmas.Option.{same_Some}
use Rattle.op_core.specs.declared.want.Want.TheVariants.{Done}
use Rattle.trace.specs.Events.{Words}
use Rattle.trace.proofs.Moments.{value_at_now}
use Rattle.image_layout.specs.Places.{Shape, state_word}
use Rattle.map_model.specs.declared.call.Call.{Call}
use Rattle.map_model.specs.Map.{key_of}
use Rattle.world.specs.declared.site.Site.{Site}
use Rattle.world.specs.Ground.{Ground, version_of}
use Rattle.world.specs.Views.{View, At}
use Rattle.world.specs.Wants.{word_of}
use Rattle.world.specs.World.{fresh_view}
use Rattle.world.specs.Invariant.{Holds}
use Rattle.part.specs.Doings.{Doings}
use Rattle.part.specs.Part.{IsPart, Suits, finds, next, next_view, StepsWell}
use Rattle.restart_op.specs.Restarted.{words_at_end, site_of}
use Rattle.engine.specs.declared.engine.Engine.{Engine}
use Rattle.engine.specs.Engine.{wanted}
use Rattle.engine.specs.OpPart.{op_part}
use Rattle.engine.specs.Core.{Caller, Core, current, run}
use Rattle.engine.specs.Holding.{IsCalling, DoesCall, CallerFits, CoreHolds, TurnKeeps}
use Rattle.engine.specs.Laws.{IsServedImage, opened, OpenedHolds, AreScripts}
use Rattle.engine.specs.Causes.{CallCauses, Watched, watched, watched_run}
use Rattle.engine.proofs.Places.{zip_at}
use Rattle.engine.proofs.holding.Turning.{run_keeps}
use Rattle.engine.proofs.attempts.Doing.{watching, IsDoing, run_does, begin_doing}

-- WHERE A CALLER SITS whose attempt of this call, on this engine, did this: its view suits the engine, which asks for an event that finds a word, and
-- remembers what it did
pub record IsSeated (site : Ground) (words : Words) (views : List View) (j : ℕ) (here : Site) (call : Call) (e : Engine) (did : Doings) : Type 0 where
  pub before : View
  pub view : View
  pub at : At views j view
  pub suits : Suits op_part site here call e.op before view
  pub asks : wanted e ≢ Done
  pub small : finds op_part site words e.op < 2 ^ 64
  pub remembers : op_part.Remembers site e.op did
  pub version : here.version ≡ version_of site
  pub key : key_of call < 2 ^ 64

-- its next event
pub seat_steps : IsPart op_part → (site : Ground) (words : Words) (views : List View) (h : Holds site words views) (j : ℕ) (here : Site) (call : Call) (e : Engine) (did : Doings)
    (seat : IsSeated site words views j here call e did) → StepsWell op_part site here call words e.op seat.before seat.view
seat_steps part site words views h j here call e did seat = part.steps site here call words views j e.op seat.before seat.view h seat.at seat.suits seat.asks

-- and how its view stands behind it
pub seat_stands : IsPart op_part → (site : Ground) (words : Words) (views : List View) (h : Holds site words views) (j : ℕ) (here : Site) (call : Call) (e : Engine) (did : Doings)
    (seat : IsSeated site words views j here call e did) → op_part.Stands site here call (next op_part site words e.op) (next_view op_part site words e.op seat.view)
seat_stands part site words views h j here call e did seat = (seat_steps part site words views h j here call e did seat).stands seat.small

-- ---- in a core that holds
module _ (laws : CallCauses) (keeps : TurnKeeps) (site : Ground) (start : Words) (core : Core) (h : CoreHolds site start core)
    (j : ℕ) (c : Caller) (call : Call) (e : Engine) (d : Doings) (there : slice_get core.callers j ≡ Some c) (calls : current c ≡ Some call) (runs : c.engine ≡ Some e)
    (doing : IsDoing laws.causes laws.begins keeps site start c d) where
  now_fits : (i : ℕ) → core.words i < 2 ^ 64
  now_fits i = subst (λ x. x < 2 ^ 64) (value_at_now start core.trace i ∙ sym (ap (λ (ws : Words). ws i) h.well.words_are)) (h.fits i (length core.trace))

  -- by the call that its view says
  seated : (v : View) → At (fresh_view 0 ∷ h.views) (suc j) v → CallerFits site c v → (calling : IsCalling site c e v) → IsSeated site core.words (fresh_view 0 ∷ h.views) (suc j) c.site calling.call e d
  seated v at fits calling = record {
    before = calling.before;
    view = v;
    at = at;
    suits = calling.suits.suits;
    asks = calling.suits.asks;
    small = now_fits (word_of site.shape (wanted e));
    remembers = doing e runs;
    version = fits.version;
    key = (fits.words (length c.entries) calling.call calling.is_current).0;
  }

  pub core_seated : IsSeated site core.words (fresh_view 0 ∷ h.views) (suc j) c.site call e d
  core_seated =
      let z = zip_at (CallerFits site) core.callers h.views j c h.each there in
      let calling : IsCalling site c e z.0 = subst (λ o. DoesCall site c o z.0) runs z.2.does in
      subst (λ x. IsSeated site core.words (fresh_view 0 ∷ h.views) (suc j) c.site x e d) (same_Some calling.call call (sym calling.is_current ∙ calls)) (seated z.0 z.1 z.2 calling)

-- ---- after any turns
module _ (opens : OpenedHolds) (keeps : TurnKeeps) (shape : Shape) (words : List ℕ) (image : IsServedImage shape words)
    (scripts : List (List Call)) (are : AreScripts scripts) (turns : List ℕ) where
  abbrev pub site_there : Ground
  site_there = site_of shape words (length scripts)

  abbrev pub there : Watched
  there = watched_run shape turns (watched (opened shape words scripts))

  abbrev first : Core
  first = opened shape words scripts

  same : run shape turns first ≡ there.core
  same = sym (watching shape (watched first) turns)

  begins : CoreHolds site_there (slice_index words) first
  begins = opens shape words scripts image are

  pub holds_there : CoreHolds site_there (slice_index words) there.core
  holds_there = subst (λ core. CoreHolds site_there (slice_index words) core) same (run_keeps keeps site_there (slice_index words) first turns begins)

  module _ (laws : CallCauses) (j : ℕ) (c : Caller) (call : Call) (e : Engine) (at : slice_get there.core.callers j ≡ Some c) (calls : current c ≡ Some call) (runs : c.engine ≡ Some e) where
    doing : IsDoing laws.causes laws.begins keeps site_there (slice_index words) c (there.doings j)
    doing = run_does laws.causes laws.begins keeps site_there (slice_index words) (watched first) turns begins
        (λ i x is. begin_doing laws.causes laws.begins keeps site_there (slice_index words) shape (words_at_end shape words state_word) 1 scripts i x is) j c at

    pub seat_there : IsSeated site_there there.core.words (fresh_view 0 ∷ holds_there.views) (suc j) c.site call e (there.doings j)
    seat_there = core_seated laws keeps site_there (slice_index words) there.core holds_there j c call e (there.doings j) at calls runs doing
