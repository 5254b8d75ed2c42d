-- The law of all turns: whatever turns the callers take, their replies are one legal history, and whatever a power cut may
-- leave is sound and holds that history's map, open calls whole or absent.
use Rattle.std.specs.Prelude.{◌≡◌, ℕ, ◌<◌, ◌≤◌, None, Some, List, [], ◌∷◌, map, length, slice_index}
use Rattle.std.specs.List.{AllByRecursion}
use Rattle.std.specs.FinMap.{get}
use Rattle.map_model.specs.declared.call.Call.{Call}
use Rattle.map_model.specs.declared.entry.Entry.{Entry}
use Rattle.map_model.specs.Map.{Map}
use Rattle.map_model.specs.Weave.{most_callers, first_caller, weave}
use Rattle.map_model.specs.Legal.{AreReplies, replay}
use Rattle.image_layout.specs.Places.{Shape, state_word, homes}
use Rattle.sound_image.specs.Records.{key_hash, HasExactNotes}
use Rattle.session.specs.Left.{HasPairsOf}
use Rattle.bucket_words.specs.Owners.{owner_of}
use Rattle.bucket_words.specs.Hits.{Hit, find}
use Rattle.trace.specs.Events.{Words}
use Rattle.world.specs.Ground.{Ground, IsCurrentIn}
use Rattle.sound_image.specs.Image.{IsSoundImage}
use Rattle.restart_op.specs.Restarted.{restarted_wholly, words_at_end, site_of}
use Rattle.restart_op.specs.Closing.{AllAreQuiet}
use Rattle.engine.specs.Fits.{IsWordCall}
use Rattle.engine.specs.Core.{Core, callers_from, run, histories}
use Rattle.engine.specs.Good.{IsGood}
use Rattle.engine.specs.Holding.{world_of, CoreHolds}

-- the core after a restart of an image: the callers have these calls, and none has done anything
abbrev pub opened : Shape → List ℕ → List (List Call) → Core
opened shape words scripts = record {
  words = words_at_end shape words;
  trace = (restarted_wholly shape words).trace;
  callers = callers_from shape (words_at_end shape words state_word) first_caller scripts;
}

-- every sound image is served
abbrev pub IsServedImage : Shape → List ℕ → Type 0
IsServedImage = IsSoundImage

-- up to 64 callers, whose keys and values are words
pub record AreScripts (scripts : List (List Call)) : Type 0 where
  pub few : length scripts ≤ most_callers
  pub words : AllByRecursion (AllByRecursion IsWordCall) scripts

-- the core after a restart holds
abbrev pub OpenedHolds : Type 0
OpenedHolds = (shape : Shape) (words : List ℕ) (scripts : List (List Call)) → IsServedImage shape words → AreScripts scripts
    → CoreHolds (site_of shape words (length scripts)) (slice_index words) (opened shape words scripts)

-- THE LAW OF ALL TURNS: from every image that is served, whatever calls up to 64 callers have, and whatever
-- turns they take, the core is good
abbrev pub TurnsKeep : Type 0
TurnsKeep = (shape : Shape) (words : List ℕ) → IsServedImage shape words
    → (opening : Map) → HasPairsOf shape (slice_index words) opening
    → (scripts : List (List Call)) → AreScripts scripts
    → (turns : List ℕ) → IsGood shape (slice_index words) opening (run shape turns (opened shape words scripts))

-- and the callers have the calls of the scripts
abbrev pub CallsAreScripts : Type 0
CallsAreScripts = (shape : Shape) (words : List ℕ) (scripts : List (List Call)) (turns : List ℕ)
    → map (λ c. c.calls) (run shape turns (opened shape words scripts)).callers ≡ scripts

-- the only caller's replies are, one after another, those of the plain map
pub record IsRightAlone (opening : Map) (core : Core) : Type 0 where
  pub entries : List Entry
  pub only : histories core ≡ entries ∷ []
  pub replies : AreReplies opening entries

-- ONE CALLER ALONE, whose calls the core runs one after another
abbrev pub TurnsAlone : Type 0
TurnsAlone = (shape : Shape) (words : List ℕ) → IsServedImage shape words
    → (opening : Map) → HasPairsOf shape (slice_index words) opening
    → (calls : List Call) → AllByRecursion IsWordCall calls
    → (turns : List ℕ) → IsRightAlone opening (run shape turns (opened shape words (calls ∷ [])))

-- no engine of a caller runs: each call has its reply
abbrev pub NoneRuns : Core → Type 0
NoneRuns core = AllByRecursion (λ c. c.engine ≡ None) core.callers

-- WHERE NO ENGINE RUNS the world is quiet, so that it may be closed
abbrev pub ThroughIsQuiet : Type 0
ThroughIsQuiet = (site : Ground) (start : Words) (core : Core) (h : CoreHolds site start core) → NoneRuns core → AllAreQuiet site start (world_of core h.views)

-- the notes of each home of a segment with the image's version are exact for its records in the stash
abbrev pub ThroughIsExact : Type 0
ThroughIsExact = (site : Ground) (start : Words) (core : Core) → CoreHolds site start core → NoneRuns core
    → (s b : ℕ) → IsCurrentIn site core.words s → b < homes → HasExactNotes site.shape core.words s b

-- no key stands twice in a segment with the image's version
abbrev pub ThroughIsOnce : Type 0
ThroughIsOnce = (site : Ground) (start : Words) (core : Core) → CoreHolds site start core → NoneRuns core
    → (s b r c t k : ℕ) → IsCurrentIn site core.words s → Hit site.shape core.words s b r k → Hit site.shape core.words s c t k → (b ≡ c) × (r ≡ t)

-- and each key that stands in it is its own
abbrev pub ThroughIsOwn : Type 0
ThroughIsOwn = (site : Ground) (start : Words) (core : Core) → CoreHolds site start core → NoneRuns core
    → (s b r k : ℕ) → IsCurrentIn site core.words s → Hit site.shape core.words s b r k → owner_of site.shape core.words (key_hash site.shape k) ≡ Some s

-- and the newest words have the map of the history
abbrev pub ThroughHasMap : Type 0
ThroughHasMap = (site : Ground) (start : Words) (core : Core) (opening : Map) → CoreHolds site start core → ((k : ℕ) → get opening k ≡ site.start k) → NoneRuns core
    → (k : ℕ) → get (replay opening (weave (histories core))) k ≡ find site.shape core.words k
