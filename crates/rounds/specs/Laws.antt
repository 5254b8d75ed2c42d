-- The laws of the rounds.
use Rattle.std.specs.Prelude.{◌≡◌, ◌≢◌, ℕ, suc, ◌+◌, ◌*◌, ◌<◌, ◌≤◌, ◌⊎◌, true, false, Option, None, Some, List, [], ◌++◌, length}
use Rattle.op_core.specs.declared.want.Want.{Want}
use Rattle.op_core.specs.declared.want.Want.TheVariants.{Flush, Fence}
use Rattle.trace.specs.Events.{line_of}
use Rattle.image_layout.specs.Places.{Shape}
use Rattle.world.specs.Facts.{Fact}
use Rattle.world.specs.Ground.{Ground}
use Rattle.world.specs.Views.{View, Has, IsLoose}
use Rattle.world.specs.areas.Kinds.{sets, settles}
use Rattle.world.specs.areas.Asking.{MayAt}
use Rattle.world.specs.StepKinds.{wanted_of, view_by, MayTake}
use Rattle.whole_segment.specs.Rounds.{Settles, rounds, most_lines}
use Rattle.rounds.specs.declared.rounds.Rounds.{Rounds}
use Rattle.rounds.specs.Steps.{begun, rounds_stores, rounds_wanted, rounds_taken}
use Rattle.rounds.specs.Events.{IsRoundEvent}
use Rattle.rounds.specs.Runs.{Runs, deeds_of, stored_of, lines_of}
use Rattle.rounds.specs.Stands.{rounds_kind, RoundStands, IsSettled, IsButRound, KnowsSidesDead}
use Rattle.rounds.specs.Left.{rounds_left}
use Rattle.rounds.specs.Waiting.{rounds_waiting}

-- ---- the order
-- ALL STORES of a list are made in rounds: there are events that make them, which are the stores, flushes and fences of `rounds`, with
-- these stores in their order; so each line is flushed and fenced, and at most eight are flushed and not fenced; and there are at most
-- three events for each store
pub record RoundsRun : Type 0 where
  pub run : (stores : List (ℕ × ℕ)) → (wants : List Want) × Runs begun stores wants
  pub deeds : (stores : List (ℕ × ℕ)) (wants : List Want) → Runs begun stores wants → deeds_of wants ≡ rounds [] (lines_of stores)
  pub stored : (stores : List (ℕ × ℕ)) (wants : List Want) → Runs begun stores wants → stored_of wants ≡ stores
  pub settles : (stores : List (ℕ × ℕ)) (wants : List Want) → Runs begun stores wants → Settles (lines_of stores) (deeds_of wants)
  pub length : (stores : List (ℕ × ℕ)) (wants : List Want) → Runs begun stores wants → length wants ≤ 3 * length stores

-- ---- the events
-- EACH is a store, a flush or a fence, and none is left where nothing is to come and nothing was stored that is not settled
pub record EventsStand : Type 0 where
  pub cases : (rounds : Rounds) (next : Option (ℕ × ℕ)) (want : Want) → rounds_wanted rounds next ≡ Some want → IsRoundEvent rounds next want
  pub ends : (rounds : Rounds) (next : Option (ℕ × ℕ)) → rounds_wanted rounds next ≡ None → (rounds ≡ begun) × (next ≡ None)

-- THE LINES of the rounds are those of words that were stored, whatever is said of these
pub record LinesAreStored (P : ℕ → Type 0) : Type 0 where
  pub keeps : (rounds : Rounds) (next : Option (ℕ × ℕ)) → ((line : ℕ) → Has line rounds.round → P line) → ((word value : ℕ) → next ≡ Some (word, value) → P (line_of word))
      → (line : ℕ) → Has line (rounds_taken rounds next).round → P line
  pub flushes : (rounds : Rounds) (next : Option (ℕ × ℕ)) → ((line : ℕ) → Has line rounds.round → P line) → (line : ℕ) → rounds_wanted rounds next ≡ Some (Flush line) → P line

-- ---- the view
-- EACH EVENT is of its kind, and keeps what is loose on the lines of the round; at the end all is settled
pub record RoundsSettle : Type 0 where
  pub wants : (shape : Shape) (facts : List Fact) (rounds : Rounds) (next : Option (ℕ × ℕ)) (want : Want) → rounds_wanted rounds next ≡ Some want
      → want ≡ wanted_of shape (rounds_kind rounds next facts)
  pub begins : (v : View) → IsSettled v → RoundStands begun v
  pub stands : (shape : Shape) (facts : List Fact) (rounds : Rounds) (next : Option (ℕ × ℕ)) (n : ℕ) (v : View) → RoundStands rounds v
      → RoundStands (rounds_taken rounds next) (view_by shape (rounds_kind rounds next facts) n v)
  pub ends : (rounds : Rounds) (next : Option (ℕ × ℕ)) (v : View) → RoundStands rounds v → rounds_wanted rounds next ≡ None → IsSettled v

-- NOTHING IS LOOSE but words that were stored, whatever is said of these
pub record LooseIsStored (P : ℕ → Type 0) : Type 0 where
  pub keeps : (shape : Shape) (facts : List Fact) (rounds : Rounds) (next : Option (ℕ × ℕ)) (n : ℕ) (v : View) → ((p : ℕ × ℕ) → IsLoose v p → P p.0)
      → ((word value : ℕ) → next ≡ Some (word, value) → P word) → (p : ℕ × ℕ) → IsLoose (view_by shape (rounds_kind rounds next facts) n v) p → P p.0

-- ALL ELSE STAYS: a store makes its word known, a fence adds what is relied on behind it
pub record RoundsKeep : Type 0 where
  pub others : (shape : Shape) (facts : List Fact) (rounds : Rounds) (next : Option (ℕ × ℕ)) (n : ℕ) (v : View) → IsButRound v (view_by shape (rounds_kind rounds next facts) n v)
  pub facts : (shape : Shape) (facts : List Fact) (rounds : Rounds) (next : Option (ℕ × ℕ)) (n : ℕ) (v : View) → rounds_wanted rounds next ≢ Some Fence
      → (view_by shape (rounds_kind rounds next facts) n v).facts ≡ v.facts
  pub fence : (shape : Shape) (facts : List Fact) (rounds : Rounds) (next : Option (ℕ × ℕ)) (n : ℕ) (v : View) → rounds_wanted rounds next ≡ Some Fence
      → (view_by shape (rounds_kind rounds next facts) n v).facts ≡ facts ++ v.facts
  pub known : (shape : Shape) (facts : List Fact) (rounds : Rounds) (next : Option (ℕ × ℕ)) (n : ℕ) (v : View) → rounds_stores rounds next ≡ false
      → (view_by shape (rounds_kind rounds next facts) n v).known ≡ v.known
  -- of the store of a word
  pub stored : (shape : Shape) (facts : List Fact) (rounds : Rounds) (word value n : ℕ) (v : View) → rounds_stores rounds (Some (word, value)) ≡ true
      → Has (word, value) (view_by shape (rounds_kind rounds (Some (word, value)) facts) n v).known
  pub still : (shape : Shape) (facts : List Fact) (rounds : Rounds) (word value n : ℕ) (v : View) → rounds_stores rounds (Some (word, value)) ≡ true
      → (i y : ℕ) → Has (i, y) v.known → i ≢ word → Has (i, y) (view_by shape (rounds_kind rounds (Some (word, value)) facts) n v).known
  pub only : (shape : Shape) (facts : List Fact) (rounds : Rounds) (word value n : ℕ) (v : View) → rounds_stores rounds (Some (word, value)) ≡ true
      → (i y : ℕ) → Has (i, y) (view_by shape (rounds_kind rounds (Some (word, value)) facts) n v).known → ((i ≡ word) × (y ≡ value)) ⊎ (Has (i, y) v.known × (i ≢ word))

-- ---- what may be done
-- EACH EVENT MAY BE TAKEN by who may make the store that is to come, and settle these facts behind the round; to settle none, it is
-- enough to know sides dead
pub record RoundsMay : Type 0 where
  pub may : (site : Ground) (facts : List Fact) (rounds : Rounds) (next : Option (ℕ × ℕ)) (v : View)
      → ((word value : ℕ) → next ≡ Some (word, value) → rounds_stores rounds next ≡ true → MayAt site (sets word value) v)
      → (rounds_wanted rounds next ≡ Some Fence → MayAt site (settles facts) v)
      → MayTake site (rounds_kind rounds next facts) v
  pub fence : (site : Ground) (v : View) → KnowsSidesDead site v → MayAt site (settles []) v

-- FEWER EVENTS ARE LEFT after each, where one store less is to come after a store
pub record RoundsFall : Type 0 where
  pub begins : (stores : ℕ) → rounds_left begun stores ≡ 3 * stores
  pub stores : (rounds : Rounds) (next : Option (ℕ × ℕ)) (stores : ℕ) → rounds_stores rounds next ≡ true → rounds_left (rounds_taken rounds next) stores < rounds_left rounds (suc stores)
  pub others : (rounds : Rounds) (next : Option (ℕ × ℕ)) (stores : ℕ) → rounds_wanted rounds next ≢ None → rounds_stores rounds next ≡ false
      → rounds_left (rounds_taken rounds next) stores < rounds_left rounds stores

-- ---- what waits
-- LINES WAIT FOR A FENCE, at most eight: none at first, before a store and behind it; one more behind each flush; none behind a fence, and
-- none at the end
pub record RoundsWait : Type 0 where
  pub begins : rounds_waiting begun ≡ 0
  pub few : (rounds : Rounds) → rounds_waiting rounds ≤ most_lines
  pub stores : (rounds : Rounds) (next : Option (ℕ × ℕ)) → rounds_stores rounds next ≡ true → (rounds_waiting rounds ≡ 0) × (rounds_waiting (rounds_taken rounds next) ≡ 0)
  pub flushes : (rounds : Rounds) (next : Option (ℕ × ℕ)) (line : ℕ) → length rounds.round ≤ most_lines → rounds_wanted rounds next ≡ Some (Flush line)
      → rounds_waiting (rounds_taken rounds next) ≡ rounds_waiting rounds + 1
  pub fences : (rounds : Rounds) (next : Option (ℕ × ℕ)) → rounds_wanted rounds next ≡ Some Fence → rounds_waiting (rounds_taken rounds next) ≡ 0
  pub ends : (rounds : Rounds) (next : Option (ℕ × ℕ)) → rounds_wanted rounds next ≡ None → rounds_waiting rounds ≡ 0
