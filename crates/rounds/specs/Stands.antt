-- How the rounds fit the world: the kind of each event, and what is loose in each step.
use Rattle.std.specs.Prelude.{◌≡◌, ℕ, ◌<◌, ◌≤◌, Option, Some, List, [], length, take, drop}
use Rattle.op_core.specs.declared.want.Want.{Want}
use Rattle.op_core.specs.declared.want.Want.TheVariants.{Store, Flush, Fence}
use Rattle.trace.specs.Events.{line_of}
use Rattle.whole_segment.specs.Rounds.{most_lines}
use Rattle.image_layout.specs.Places.{root_word}
use Rattle.world.specs.Facts.{Fact}
use Rattle.world.specs.Ground.{Ground}
use Rattle.world.specs.Views.{View, Has}
use Rattle.world.specs.Kinds.{peeks, flushes}
use Rattle.world.specs.areas.Areas.{Side}
use Rattle.world.specs.areas.Kinds.{sets, settles}
use Rattle.world.specs.areas.Asking.{KnowsDead}
use Rattle.world.specs.StepKinds.{StepKind, of_call, of_structure}
use Rattle.rounds.specs.declared.rounds.RoundStep.{RoundStep}
use Rattle.rounds.specs.declared.rounds.RoundStep.TheVariants.{Storing, Flushing, Fencing}
use Rattle.rounds.specs.declared.rounds.Rounds.{Rounds}
use Rattle.rounds.specs.Steps.{rounds_wanted}

-- ---- the kind of each event
-- behind the fence the owner of the rounds relies on these facts
abbrev pub kind_of : List Fact → Option Want → StepKind
kind_of facts (Some (Store word value)) = of_structure (sets word value)
kind_of facts (Some (Flush line)) = of_call (flushes line)
kind_of facts (Some Fence) = of_structure (settles facts)
kind_of facts other = of_call (peeks root_word)

abbrev pub rounds_kind : Rounds → Option (ℕ × ℕ) → List Fact → StepKind
rounds_kind rounds next facts = kind_of facts (rounds_wanted rounds next)

-- ---- what is loose
-- each of these words lies on one of these lines
abbrev pub AreOnLines : List ℕ → List (ℕ × ℕ) → Type 0
AreOnLines lines pairs = (p : ℕ × ℕ) → Has p pairs → Has (line_of p.0) lines

-- while words are stored, those that are not flushed lie on lines of the round; then, on lines that are still to be flushed, and those
-- that are not fenced on lines before them
abbrev pub IsLooseOn : List ℕ → RoundStep → View → Type 0
IsLooseOn lines Storing v = AreOnLines lines v.dirty × (v.flushed ≡ [])
IsLooseOn lines (Flushing i) v = (i < length lines) × AreOnLines (drop i lines) v.dirty × AreOnLines (take i lines) v.flushed
IsLooseOn lines Fencing v = v.dirty ≡ []

-- THE VIEW in each step
pub record RoundStands (rounds : Rounds) (v : View) : Type 0 where
  pub few : length rounds.round ≤ most_lines
  pub loose : IsLooseOn rounds.round rounds.step v

-- all is settled
pub record IsSettled (v : View) : Type 0 where
  pub dirty : v.dirty ≡ []
  pub flushed : v.flushed ≡ []

-- ---- what stays
-- all but what a view knows, has not settled and relies on is as it was
abbrev pub IsButRound : View → View → Type 0
IsButRound v u = u ≡ record v { known = u.known; dirty = u.dirty; flushed = u.flushed; facts = u.facts }

-- no side of a view is live, as far as it knows, before it is settled as such
abbrev pub KnowsSidesDead : Ground → View → Type 0
KnowsSidesDead site v = (n : ℕ) → Has (Side n) v.areas → KnowsDead site v n
