-- The laws of the states of a run: it begins, each event keeps it, and at any moment it is good.
use Rattle.std.specs.Prelude.{◌≡◌, ℕ, ◌<◌, ◌≤◌, ◌⊎◌, List, length, map, slice_index}
use Rattle.std.specs.List.{range_with_len, AllByRecursion, AllZip}
use Rattle.trace.specs.Events.{Words}
use Rattle.trace.specs.Media.{IsPossible}
use Rattle.map_model.specs.declared.entry.Reply.TheVariants.{Full, Spent}
use Rattle.map_model.specs.declared.entry.Entry.{Entry}
use Rattle.map_model.specs.Map.{Map}
use Rattle.map_model.specs.Weave.{all_of, draws, spent_count, weave}
use Rattle.map_model.specs.ByPlaces.{map_at}
use Rattle.map_model.specs.Legal.{IsLegal, replay}
use Rattle.image_layout.specs.Places.{Shape, front_words, words_of}
use Rattle.sound_image.specs.Image.{IsSoundImage}
use Rattle.sound_image.specs.Segments.{frame_of, IsClean}
use Rattle.session.specs.Left.{HasPairsOf, IsLeft}
use Rattle.session.specs.Callers.{FollowsScript, IsAnswered, undrawn}
use Rattle.session.specs.Session.{HadNoRoom}
use Rattle.restart_op.specs.Close.{begun as close_begun}
use Rattle.world.specs.Ground.{HasSpentLock}
use Rattle.engine.specs.Core.{Core, tolds_of, histories}
use Rattle.engine.specs.Good.{HasNoFreeSlot}
use Rattle.engine.specs.Laws.{NoneRuns}
use Rattle.core_run.specs.declared.keeper.Keeper.TheVariants.{Closing, Closed}
use Rattle.core_run.specs.State.{State, beginning}
use Rattle.core_run.specs.Running.{Setup, IsSetup, start_of, IsOpen, IsRunning}

-- a run begins with a state of it
abbrev pub RunBegins : Type 0
RunBegins = (t : Setup) → IsSetup t → IsRunning t (beginning t.shape (start_of t) t.scripts)

-- where no engine runs, the close may begin
abbrev pub CloseMayBegin : Type 0
CloseMayBegin = (t : Setup) (core : Core) → IsSetup t → IsOpen t core → NoneRuns core
    → IsRunning t (record { keeper = Closing (close_begun t.shape); core = core })

-- a medium that a power cut may leave is a sound image of the same shape, and holds the map of the history so far, each open
-- call whole or absent
pub record IsGoodMedium (t : Setup) (opening : Map) (core : Core) (medium : List ℕ) : Type 0 where
  pub sound : IsSoundImage t.shape medium
  pub same_shape : (i : ℕ) → i < front_words → slice_index medium i ≡ slice_index t.first i
  pub left : IsLeft t.shape (slice_index medium) (replay opening (weave (histories core))) (undrawn t.scripts (tolds_of core))

-- the entries of all callers so far, those of open calls that drew among them
abbrev pub entries_so_far : Core → List Entry
entries_so_far core = all_of (histories core)

-- where a call was refused for want of room, the map had none at its place
abbrev pub HadNoRooms : Shape → Map → List Entry → Type 0
HadNoRooms shape opening entries = AllByRecursion (λ e. HadNoRoom shape (map_at opening entries e.place) e) entries

-- where a call was told that the table is full, each slot that was free in the image is taken in whatever a power cut may leave
abbrev pub WereTaken : Setup → Core → Type 0
WereTaken t core = AllByRecursion (λ e. e.reply ≡ Full → HasNoFreeSlot t.shape (start_of t) core) (entries_so_far core)

-- where a call was refused for want of a number, 2 ^ 63 changes are drawn, or some lock word of a live segment has the last version
abbrev pub WereSpent : Shape → Words → List Entry → Type 0
WereSpent shape words entries = AllByRecursion (λ e. e.reply ≡ Spent → (spent_count ≤ draws entries) ⊎ HasSpentLock shape words) entries

-- THE MOMENT IS GOOD: the replies so far are one legal history, and so is every medium that a power cut may leave; and each
-- refusal had its cause
pub record IsGoodMoment (t : Setup) (opening : Map) (s : State) : Type 0 where
  pub legal : IsLegal opening (histories s.core)
  pub media : (medium : List ℕ) → length medium ≡ words_of t.shape → IsPossible (words_of t.shape) (start_of t) s.core.trace (slice_index medium)
      → IsGoodMedium t opening s.core medium
  pub had_no_room : HadNoRooms t.shape opening (entries_so_far s.core)
  pub full : WereTaken t s.core
  pub spent : WereSpent t.shape s.core.words (entries_so_far s.core)

abbrev pub MomentsAreGood : Type 0
MomentsAreGood = (t : Setup) (s : State) (opening : Map) → IsSetup t → IsRunning t s → HasPairsOf t.shape (start_of t) opening → IsGoodMoment t opening s

-- the newest words of the image
abbrev pub last_words : Setup → Core → List ℕ
last_words t core = map core.words (range_with_len 0 (words_of t.shape))

-- THE CLOSE HAS ENDED: the newest words may be left, are a sound image with the marker set, and have the map of the history, in
-- which each call has its reply
pub record IsClosedWell (t : Setup) (opening : Map) (core : Core) : Type 0 where
  pub possible : IsPossible (words_of t.shape) (start_of t) core.trace (slice_index (last_words t core))
  pub sound : IsSoundImage t.shape (last_words t core)
  pub clean : IsClean (frame_of t.shape (slice_index (last_words t core)))
  pub pairs : HasPairsOf t.shape (slice_index (last_words t core)) (replay opening (weave (histories core)))
  pub answered : AllZip IsAnswered t.scripts (tolds_of core)

abbrev pub ClosedIsClosed : Type 0
ClosedIsClosed = (t : Setup) (s : State) (opening : Map) → IsSetup t → IsRunning t s → s.keeper ≡ Closed → HasPairsOf t.shape (start_of t) opening
    → IsClosedWell t opening s.core

-- what callers were told follows their scripts
abbrev pub ToldsFollow : Type 0
ToldsFollow = (t : Setup) (s : State) → IsSetup t → IsRunning t s → AllZip FollowsScript t.scripts (tolds_of s.core)
