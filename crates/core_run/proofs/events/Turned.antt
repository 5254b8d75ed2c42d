-- An event of a caller while the image is open.
use Rattle.std.proofs.Common.{◌≡◌, ℕ, zero, suc, ◌≤◌, List, [], ◌∷◌, length, slice_get, Some, inl, refl, sym, ◌∙◌, subst, arith}
use Rattle.std.specs.List.{AllZip}
use Rattle.std.proofs.lemmas.Option.{none-some, same_Some}
use Rattle.trace.specs.Events.{Words}
use Rattle.trace.specs.Progress.{pending}
use Rattle.image_layout.specs.Places.{state_word}
use Rattle.map_model.specs.declared.call.Call.{Call}
use Rattle.world.specs.Ground.{Ground}
use Rattle.world.specs.Views.{View}
use Rattle.world.specs.Wants.{answer_to, word_of}
use Rattle.engine.specs.declared.engine.Engine.{Engine}
use Rattle.engine.specs.Engine.{wanted, taken}
use Rattle.engine.specs.Left.{waiting}
use Rattle.part.specs.Asks.{IsWithin}
use Rattle.engine.specs.Asks.{AsksWithin}
use Rattle.engine.specs.Core.{Caller, Core, current, drawn_by, answered, with_event, turn_of_call, turn_of_caller}
use Rattle.engine.specs.Holding.{IsCalling, DoesCall, CallerFits, CoreHolds, TurnKeeps}
use Rattle.core_run.specs.declared.keeper.Keeper.TheVariants.{Open}
use Rattle.core_run.specs.State.{engine_deed}
use Rattle.core_run.specs.Running.{Setup, site_in, start_of, WaitsFor, AllTold, IsOpen, MayBeDone, DeedIsWell}
use Rattle.core_run.proofs.events.Waits.{EnginesWait, own_by, few_flushed, gone_on_waits, set_waits, waits_at}
use Rattle.core_run.proofs.events.Told.{answered_told, gone_on_calls, set_told, set_calls}

-- the view of a caller
view_at : {A B : Type 0} (R : A → B → Type 0) (xs : List A) (ys : List B) (j : ℕ) (x : A) → AllZip R xs ys → slice_get xs j ≡ Some x → (y : B) × R x y
view_at R [] ys j x all is = absurd (none-some x is)
view_at R (z ∷ xs) [] j x all is = absurd all
view_at R (z ∷ xs) (y ∷ ys) zero x all is = (y, subst (λ w. R w y) (same_Some z x is) all.0)
view_at R (z ∷ xs) (y ∷ ys) (suc j) x all is = view_at R xs ys j x all.1 is

-- the state word is the one that the restart left
pub state_stays : (site : Ground) (start : Words) (core : Core) → CoreHolds site start core → core.words state_word ≡ site.front state_word
state_stays site start core h = (h.well.holds.structure.sound core.words (λ i within. inl refl)).fixed state_word (omega arith) (λ e. omega (arith, e))

module _ (keeps : TurnKeeps) (asks : AsksWithin) (waits : EnginesWait)
    (t : Setup) (core : Core) (o : IsOpen t core) (j : ℕ) (c : Caller) (at : slice_get core.callers j ≡ Some c)
    (call : Call) (now : current c ≡ Some call) (e : Engine) (runs : c.engine ≡ Some e) where
  abbrev n : ℕ
  n = core.words (word_of t.shape (wanted e))

  abbrev after : Core
  after = with_event t.shape j core c call e

  abbrev caller_after : Caller
  caller_after = answered c call e (answer_to (wanted e) n)

  seen : (v : View) × CallerFits (site_in t) c v
  seen = view_at (CallerFits (site_in t)) core.callers o.holds.views j c o.holds.each at

  calling : IsCalling (site_in t) c e seen.0
  calling = subst (λ q. DoesCall (site_in t) c q seen.0) runs seen.1.does

  few : length (pending (suc j) core.trace) ≤ waiting e
  few =
      subst (λ q. WaitsFor core.trace (suc j) q) runs
      (subst (λ k. WaitsFor core.trace k c.engine) (omega arith) (waits_at core.trace 1 j core.callers c at o.few_wait))

  within : IsWithin t.shape (wanted e)
  within = asks (site_in t) c.site calling.call e calling.before seen.0 o.holds.well.holds.site_is calling.suits

  may : MayBeDone t (suc j) core (wanted e)
  may = record {
    word = within.word;
    line = within.line;
    few = few_flushed waits t.shape e n (suc j) core.trace few;
    some = calling.suits.asks;
  }

  holds_after : CoreHolds (site_in t) (start_of t) after
  holds_after =
      subst (λ q. CoreHolds (site_in t) (start_of t) (turn_of_call t.shape j core c (Some call) q)) runs
      (subst (λ q. CoreHolds (site_in t) (start_of t) (turn_of_call t.shape j core c q c.engine)) now
      (subst (λ q. CoreHolds (site_in t) (start_of t) (turn_of_caller t.shape j core q)) at (keeps (site_in t) (start_of t) core (suc j) o.holds)))

  same_version : after.words state_word ≡ core.words state_word
  same_version = state_stays (site_in t) (start_of t) after holds_after ∙ sym (state_stays (site_in t) (start_of t) core o.holds)

  caller_waits : WaitsFor after.trace (suc j) caller_after.engine
  caller_waits =
      gone_on_waits waits after.trace (suc j) (record c { drew = drawn_by c call (answer_to (wanted e) n) }) call (taken e (answer_to (wanted e) n))
      (wanted (taken e (answer_to (wanted e) n))) refl
      (own_by waits t.shape e n (suc j) core.trace few (wanted e) refl calling.suits.asks)

  open_after : IsOpen t after
  open_after = record {
    holds = holds_after;
    scripts = set_calls j core.callers c caller_after at
        (gone_on_calls (record c { drew = drawn_by c call (answer_to (wanted e) n) }) call (taken e (answer_to (wanted e) n)) (wanted (taken e (answer_to (wanted e) n)))) ∙ o.scripts;
    told = subst (λ v. AllTold t v 1 after.callers) (sym same_version)
        (set_told t (core.words state_word) 1 j core.callers c caller_after at
        (λ k h. answered_told t (core.words state_word) k c h call now e (answer_to (wanted e) n)) o.told);
    few_wait = set_waits t.shape (wanted e) n (suc j) core.trace 1 j core.callers caller_after (omega arith) caller_waits o.few_wait;
    keeper_waits = holds_after.fenced;
  }

  pub engine_well : DeedIsWell t (suc j) (record { keeper = Open; core = core }) (engine_deed t.shape j core c call e)
  engine_well = record { may = may; after = open_after }
