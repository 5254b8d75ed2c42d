-- Rounds of stores: words are stored as long as they touch at most `most_lines` lines, then these lines are flushed and fenced, and so on.
use Rattle.std.specs.Prelude.{◌≡◌, ℕ, ◌+◌, ◌<◌, ◌≤◌, ◌==◌, ◌||◌, Bool, false, nat_lt, List, [], ◌∷◌, ◌++◌, length, if◌then◌else◌}
use Rattle.trace.specs.Events.{most_unfenced}

-- how many lines a round touches at most: as many as a caller may have flushed and not fenced
abbrev pub most_lines : ℕ
most_lines = most_unfenced

-- ---- one round: the lines that it has touched, in the order in which they were
-- whether the last of them is this line
abbrev pub ends_with : List ℕ → ℕ → Bool
ends_with [] line = false
ends_with (first ∷ []) line = first == line
ends_with (first ∷ (second ∷ rest)) line = ends_with (second ∷ rest) line

-- whether a store to this line still belongs to the round
abbrev pub takes : List ℕ → ℕ → Bool
takes lines line = ends_with lines line || nat_lt (length lines) most_lines

-- the round with that store
abbrev pub touched : List ℕ → ℕ → List ℕ
touched lines line = if ends_with lines line then lines else lines ++ line ∷ []

-- ---- all rounds
-- what is done: a store to a word of a line, a flush of a line, a fence
pub data Deed : Type 0 where
  Stores : ℕ → Deed
  Flushes : ℕ → Deed
  Fences : Deed

-- the end of a round: its lines are flushed, and fenced; of a round without a store nothing is
abbrev pub ends_round : List ℕ → List Deed → List Deed
ends_round [] after = after
ends_round (line ∷ []) after = Flushes line ∷ (Fences ∷ after)
ends_round (line ∷ (second ∷ rest)) after = Flushes line ∷ ends_round (second ∷ rest) after

-- stores to words of these lines, in rounds, in a round that has touched some lines
abbrev pub rounds : List ℕ → List ℕ → List Deed
rounds lines [] = ends_round lines []
rounds lines (line ∷ stores) =
    if takes lines line then Stores line ∷ rounds (touched lines line) stores else ends_round lines (Stores line ∷ rounds (line ∷ []) stores)

-- ---- what becomes of a line
-- a line has nothing stored that is not flushed and fenced; or it was stored to and not flushed since; or flushed and not fenced
pub data LineState : Type 0 where
  Settled : LineState
  Dirty : LineState
  Flushed : LineState

-- by a flush, and by a fence
abbrev pub flushed_state : LineState → LineState
flushed_state Settled = Settled
flushed_state Dirty = Flushed
flushed_state Flushed = Flushed

abbrev pub fenced_state : LineState → LineState
fenced_state Settled = Settled
fenced_state Dirty = Dirty
fenced_state Flushed = Settled

abbrev pub state_by : ℕ → Deed → LineState → LineState
state_by line (Stores other) state = if other == line then Dirty else state
state_by line (Flushes other) state = if other == line then flushed_state state else state
state_by line Fences state = fenced_state state

-- by all of these
abbrev pub state_after : ℕ → List Deed → LineState → LineState
state_after line [] state = state
state_after line (deed ∷ deeds) state = state_after line deeds (state_by line deed state)

-- never more lines than eight are flushed and not fenced, where n are already
abbrev pub FlushesFew : ℕ → List Deed → Type 0
FlushesFew n [] = n ≤ most_lines
FlushesFew n (Stores line ∷ deeds) = FlushesFew n deeds
FlushesFew n (Flushes line ∷ deeds) = (n < most_lines) × FlushesFew (n + 1) deeds
FlushesFew n (Fences ∷ deeds) = FlushesFew 0 deeds

-- the lines of the words that are stored, in their order
abbrev pub stored_in : List Deed → List ℕ
stored_in [] = []
stored_in (Stores line ∷ deeds) = line ∷ stored_in deeds
stored_in (Flushes line ∷ deeds) = stored_in deeds
stored_in (Fences ∷ deeds) = stored_in deeds

-- ROUNDS SETTLE: the stores are those, in their order, each line ends as settled as it began, and at most eight lines are flushed and not fenced
pub record Settles (stores : List ℕ) (deeds : List Deed) : Type 0 where
  pub all : stored_in deeds ≡ stores
  pub settled : (line : ℕ) → state_after line deeds Settled ≡ Settled
  pub few : FlushesFew 0 deeds

-- stores to words of these lines ascend, none of them below line n
abbrev pub AscendsFrom : ℕ → List ℕ → Type 0
AscendsFrom n [] = Unit {0}
AscendsFrom n (line ∷ stores) = (n ≤ line) × AscendsFrom line stores

-- between two fences lines are flushed in ascending order, each once, the next one not below line n
abbrev pub FlushesAscend : ℕ → List Deed → Type 0
FlushesAscend n [] = Unit {0}
FlushesAscend n (Stores line ∷ deeds) = FlushesAscend n deeds
FlushesAscend n (Flushes line ∷ deeds) = (n ≤ line) × FlushesAscend (line + 1) deeds
FlushesAscend n (Fences ∷ deeds) = FlushesAscend 0 deeds
