-- The core with which callers begin holds.
use Rattle.std.proofs.Common.{◌≡◌, ℕ, zero, suc, ◌+◌, ◌^◌, ◌<◌, ◌≤◌, List, [], ◌∷◌, length, replicate, slice_get, Option, None, Some, inl, refl, sym, ap, subst, arith}
use Rattle.std.specs.List.{AllByRecursion, AllZip}
use Rattle.std.proofs.lemmas.Option.{none-some, same_Some}
use mathlib.Core.Option.{some-injective, some-ne-none}
use Rattle.map_model.specs.declared.call.Call.{Call}
use Rattle.world.specs.declared.site.Site.{Site}
use Rattle.world.specs.Ground.{Ground, IsGround, version_of}
use Rattle.map_model.specs.declared.entry.Entry.{Entry}
use Rattle.world.specs.Views.{View, Has, At}
use Rattle.world.specs.World.{fresh_view}
use Rattle.world.specs.Attempts.{HoldsOnly}
use Rattle.restart_op.specs.AtRest.{IsOpenStructure}
use Rattle.engine.specs.Fits.{HasNumber, IsWordCall, BeginsSuited}
use Rattle.engine.specs.Core.{idle, engine_for, callers_from}
use Rattle.engine.specs.Holding.{CallerFits, CoreBegins}

word_at : (calls : List Call) → AllByRecursion IsWordCall calls → (n : ℕ) (call : Call) → slice_get calls n ≡ Some call → IsWordCall call
word_at [] all n call is = absurd (none-some call is)
word_at (x ∷ calls) all zero call is = subst IsWordCall (same_Some x call is) all.0
word_at (x ∷ calls) all (suc n) call is = word_at calls all.1 n call is

holds_nothing : (n : ℕ) → HoldsOnly [] (fresh_view n)
holds_nothing n = record { held = refl; known = refl; dirty = refl; flushed = refl; planned = refl; moving = refl; owed = refl; areas = refl }

module _ (begins : BeginsSuited) (site : Ground) (is_site : IsGround site) where
  module _ (here : Site) (place : here.geometry ≡ site.shape) (version : here.version ≡ version_of site) (number : HasNumber here)
      (calls : List Call) (all : AllByRecursion IsWordCall calls) where
    first : (o : Option Call) → slice_get calls 0 ≡ o → CallerFits site (record (idle here calls) { engine = engine_for here o }) (fresh_view 1)
    first None is = record {
      place = place;
      version = version;
      number = number;
      words = word_at calls all;
      callers = omega arith;
      replied = refl;
      within = omega arith;
      does = record { no_call = is; own = refl; nothing = holds_nothing 1; begun = refl; drew = refl };
    }
    first (Some call) is = record {
      place = place;
      version = version;
      number = number;
      words = word_at calls all;
      callers = omega arith;
      replied = refl;
      within = omega arith;
      does = record {
        call = call;
        is_current = is;
        before = fresh_view 1;
        own_before = refl;
        suits = begins site here call (fresh_view 1) is_site place version (word_at calls all 0 call is) (holds_nothing 1) (omega arith);
        entries = inl refl;
        drew = λ _. refl;
        planned = λ _. refl;
        drew_call = λ e is. absurd (none-some e is);
      };
    }

    idle_fits : CallerFits site (idle here calls) (fresh_view 1)
    idle_fits = first (slice_get calls 0) refl

  all_fit : (version : ℕ) → version ≡ version_of site → (number : ℕ) (scripts : List (List Call)) → 0 < number → number + length scripts ≤ 2 ^ 64
      → AllByRecursion (AllByRecursion IsWordCall) scripts → AllZip (CallerFits site) (callers_from site.shape version number scripts) (replicate (length scripts) (fresh_view 1))
  all_fit version current number [] some few all = tt
  all_fit version current number (calls ∷ scripts) some few all = (
    idle_fits (record { geometry = site.shape; version = version; caller = number }) refl current (some, omega (arith, few)) calls all.0,
    all_fit version current (suc number) scripts (omega arith) (omega (arith, few)) all.1,
  )

-- nobody has replied anything
caller_unreplied : (n j : ℕ) (v : View) → At (replicate n (fresh_view 1)) j v → v.own ≡ []
caller_unreplied zero j v at = absurd (some-ne-none v (sym at))
caller_unreplied (suc n) zero v at = ap (λ (z : View). z.own) (sym (some-injective (fresh_view 1) v at))
caller_unreplied (suc n) (suc j) v at = caller_unreplied n j v at

none_replied : (n j : ℕ) (v : View) → At (fresh_view 0 ∷ replicate n (fresh_view 1)) j v → v.own ≡ []
none_replied n zero v at = ap (λ (z : View). z.own) (sym (some-injective (fresh_view 0) v at))
none_replied n (suc j) v at = caller_unreplied n j v at

pub core_begins : BeginsSuited → CoreBegins
core_begins begins site start core version scripts quiet front powered current freed few words is =
    record {
      views = replicate (length scripts) (fresh_view 1);
      well = quiet.well;
      powered = powered;
      fits = quiet.fits;
      says = quiet.says;
      served = subst (IsOpenStructure site.shape) front quiet.structure;
      freed = freed;
      full = λ j v e at has _. absurd (subst (λ (es : List Entry). Has e es) (none_replied (length scripts) j v at) has);
      fenced = quiet.fenced;
      each = subst (λ callers. AllZip (CallerFits site) callers (replicate (length scripts) (fresh_view 1))) (sym is)
          (all_fit begins site quiet.well.holds.site_is version current 1 scripts (omega arith) (omega (arith, few)) words);
    }
