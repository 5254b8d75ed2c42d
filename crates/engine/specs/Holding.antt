-- What holds of the core between any two turns: the world is well, and the view of each caller fits what it runs and what it was told.
use Rattle.std.specs.Prelude.{map, take, ◌≤◌, ◌≡◌, ℕ, ◌<◌, false, Option, None, Some, List, [], ◌∷◌, ◌++◌, ◌⊎◌, length, replicate}
use Rattle.std.specs.List.{AllByRecursion, AllZip}
use Rattle.std.specs.FinMap.{get}
use Rattle.restart_op.specs.Closing.{HaveFit, AllAreQuiet}
use Rattle.trace.specs.Progress.{pending}
use Rattle.trace.specs.Events.{Words}
use Rattle.image_layout.specs.Places.{Shape}
use Rattle.image_layout.specs.Volatile.{power_word, power_on}
use Rattle.sound_image.specs.Image.{SaysShape}
use Rattle.map_model.specs.declared.call.Call.{Call}
use Rattle.map_model.specs.declared.entry.Entry.{Entry}
use Rattle.map_model.specs.Map.{Map}
use Rattle.map_model.specs.Weave.{most_callers, first_caller, keeper_number, all_of, draws, spent_count}
use Rattle.map_model.specs.declared.entry.Reply.TheVariants.{Full, Spent}
use Rattle.map_model.specs.ByPlaces.{map_at}
use Rattle.session.specs.Session.{HadNoRoom}
use Rattle.world.specs.Ground.{Ground, version_of, HasSpentLock}
use Rattle.world.specs.Views.{View, At, Has}
use Rattle.world.specs.World.{World, fresh_view}
use Rattle.segment_head.specs.HeadWord.{state_in, free}
use Rattle.world.specs.areas.Areas.{header_word}
use Rattle.world.specs.areas.Lasting.{IsTakenInMedia}
use Rattle.world.specs.areas.Worlds.{IsWell}
use Rattle.world.specs.Attempts.{HoldsOnly}
use Rattle.engine.specs.declared.engine.Engine.{Engine}
use Rattle.engine.specs.Fits.{Suits, HasNumber, IsWordCall, IsServedGround}
use Rattle.engine.specs.Core.{Caller, Core, call_at, current, turn, run, callers_from}
use Rattle.engine.specs.Good.{IsGood}

-- ---- a caller and its view
-- the replies that the caller was told, and one more at the most, which drew no place and is not told yet
abbrev pub HasUntold : List Entry → List Entry → Type 0
HasUntold told own = (own ≡ told) ⊎ ((e : Entry) × (own ≡ told ++ e ∷ []) × (e.drew ≡ false))

-- the same, where the call that runs has drawn, with its entry
abbrev pub HasEntries : List Entry → Option Entry → List Entry → Type 0
HasEntries told None own = HasUntold told own
HasEntries told (Some e) own = own ≡ told ++ e ∷ []

-- all calls of the caller have their replies
pub record IsThrough (c : Caller) (v : View) : Type 0 where
  pub no_call : current c ≡ None
  pub own : v.own ≡ c.entries
  pub nothing : HoldsOnly [] v
  pub begun : c.begun ≡ false
  pub drew : c.drew ≡ None

-- a call of the caller runs on this engine, in an attempt that began with the view `before`
pub record IsCalling (site : Ground) (c : Caller) (e : Engine) (v : View) : Type 0 where
  pub call : Call
  pub is_current : current c ≡ Some call
  pub before : View
  pub own_before : before.own ≡ c.entries
  pub suits : Suits site c.site call e before v
  pub entries : HasEntries c.entries c.drew v.own
  -- so long as nothing was done, nothing is drawn or planned
  pub drew : c.begun ≡ false → c.drew ≡ None
  pub planned : c.begun ≡ false → v.planned ≡ []
  -- what was drawn is this call's
  pub drew_call : (e : Entry) → c.drew ≡ Some e → e.call ≡ call

abbrev pub DoesCall : Ground → Caller → Option Engine → View → Type 0
DoesCall site c None v = IsThrough c v
DoesCall site c (Some e) v = IsCalling site c e v

-- THE VIEW fits its caller
pub record CallerFits (site : Ground) (c : Caller) (v : View) : Type 0 where
  pub place : c.site.geometry ≡ site.shape
  pub version : c.site.version ≡ version_of site
  pub number : HasNumber c.site
  pub words : (n : ℕ) (call : Call) → call_at c n ≡ Some call → IsWordCall call
  pub callers : 0 < v.callers
  -- its replies are to the first of its calls, in their order
  pub replied : map (λ e. e.call) c.entries ≡ take (length c.entries) c.calls
  pub within : length c.entries ≤ length c.calls
  pub does : DoesCall site c c.engine v

-- ---- the core
-- the world of the core: the seat of a caller has the caller's number, and in that of caller 0 sits nobody
abbrev pub world_of : Core → List View → World
world_of core views = record { words = core.words; trace = core.trace; views = fresh_view 0 ∷ views }

-- all entries of the views
abbrev pub all_own : List View → List Entry
all_own views = all_of (map (λ (v : View). v.own) views)

-- each insert that was refused for want of room had 56 keys in the map at its place, whatever map the core began with
abbrev pub FullHad : Ground → List View → Type 0
FullHad site views = (opening : Map) → ((k : ℕ) → get opening k ≡ site.start k) → (j : ℕ) (v : View) (e : Entry) → At views j v → Has e v.own
    → HadNoRoom site.shape (map_at opening (all_own views) e.place) e

-- each slot that was free at the start is taken in whatever a cut may leave
abbrev pub NoneIsFree : Ground → Words → List View → Type 0
NoneIsFree site words views = (n : ℕ) → n < site.shape.segments → state_in (site.front (header_word site.shape n)) ≡ free → IsTakenInMedia site words views n

-- so it is where a reply is that the table is full
abbrev pub FullIsTaken : Ground → Words → List View → Type 0
FullIsTaken site words views = (j : ℕ) (v : View) (e : Entry) → At views j v → Has e v.own → e.reply ≡ Full → NoneIsFree site words views

-- each reply that a number is spent has its cause: 2 ^ 63 changes are drawn, or some lock word of a live segment has the last version
abbrev pub HadSpent : Shape → Words → List View → Type 0
HadSpent shape words views = (j : ℕ) (v : View) (e : Entry) → At views j v → Has e v.own → e.reply ≡ Spent → (spent_count ≤ draws (all_own views)) ⊎ HasSpentLock shape words

-- a slot that is free in an image is so in the words of the site
abbrev pub KeepsFree : Ground → Words → Type 0
KeepsFree site start = (n : ℕ) → n < site.shape.segments → state_in (start (header_word site.shape n)) ≡ free → state_in (site.front (header_word site.shape n)) ≡ free

-- THE CORE HOLDS: so it is from the end of a restart on, between any two turns
pub record CoreHolds (site : Ground) (start : Words) (core : Core) : Type 0 where
  pub views : List View
  pub well : IsWell site start (world_of core views)
  -- the power is on
  pub powered : core.words (power_word site.shape) ≡ power_on
  pub fits : HaveFit start core.trace
  pub says : SaysShape site.shape site.front
  pub served : IsServedGround site
  -- a slot that is free in the image is free at the start
  pub freed : KeepsFree site start
  pub full : FullIsTaken site core.words (fresh_view 0 ∷ views)
  -- caller 0 has nothing flushed that it has not fenced
  pub fenced : pending keeper_number core.trace ≡ []
  pub each : AllZip (CallerFits site) core.callers views

-- ---- the laws
-- A TURN of any caller, and of a number that is nobody's, keeps the core
abbrev pub TurnKeeps : Type 0
TurnKeeps = (site : Ground) (start : Words) (core : Core) (c : ℕ) → CoreHolds site start core → CoreHolds site start (turn site.shape c core)

-- A CORE THAT HOLDS IS GOOD
abbrev pub HoldingIsGood : Type 0
HoldingIsGood = (site : Ground) (start : Words) (core : Core) (opening : Map) → CoreHolds site start core → ((k : ℕ) → get opening k ≡ site.start k)
    → IsGood site.shape start opening core

-- the calls of the callers stay as they are
abbrev pub CallsStay : Type 0
CallsStay = (shape : Shape) (core : Core) (turns : List ℕ) → map (λ c. c.calls) (run shape turns core).callers ≡ map (λ c. c.calls) core.callers

-- turns of any callers, one after another, keep it
abbrev pub RunKeeps : Type 0
RunKeeps = (site : Ground) (start : Words) (core : Core) (turns : List ℕ) → CoreHolds site start core → CoreHolds site start (run site.shape turns core)

-- a quiet world of the site's words, with the power on, in which each caller of the scripts, who are 64 at the most, has a view of its own
-- that has done nothing yet: the core with which they begin holds, where they have the version of the image, and each slot that the image had free is free
abbrev pub CoreBegins : Type 0
CoreBegins = (site : Ground) (start : Words) (core : Core) (version : ℕ) (scripts : List (List Call))
    → AllAreQuiet site start (world_of core (replicate (length scripts) (fresh_view 1))) → core.words ≡ site.front → core.words (power_word site.shape) ≡ power_on → version ≡ version_of site
    → KeepsFree site start → length scripts ≤ most_callers → AllByRecursion (AllByRecursion IsWordCall) scripts
    → core.callers ≡ callers_from site.shape version first_caller scripts → CoreHolds site start core
