-- EITHER OF TWO PARTS: a machine of the first or of the second, which stays what it is.
use Rattle.std.specs.Prelude.{ℕ, max, Bool, Option}
use Rattle.op_core.specs.declared.want.Want.{Want}
use Rattle.op_core.specs.declared.want.Ans.{Ans}
use Rattle.map_model.specs.declared.call.Call.{Call}
use Rattle.world.specs.declared.site.Site.{Site}
use Rattle.world.specs.Ground.{Ground}
use Rattle.world.specs.Views.{View}
use Rattle.world.specs.StepKinds.{StepKind}
use Rattle.part.specs.Doings.{Doings}
use Rattle.part.specs.Outcomes.{Outcome}
use Rattle.part.specs.Part.{Part}

-- a state of the one, or of the other
pub data Either (A B : Type 0) : Type 0 where
  one : A → Either A B
  other : B → Either A B

module _ {A B : Type 0} (a : Part A) (b : Part B) where
  abbrev pub wanted : Either A B → Want
  wanted (one x) = a.wanted x
  wanted (other y) = b.wanted y

  abbrev pub taken : Either A B → Ans → Either A B
  taken (one x) ans = one (a.taken x ans)
  taken (other y) ans = other (b.taken y ans)

  abbrev pub kind : Either A B → ℕ → StepKind
  kind (one x) n = a.kind x n
  kind (other y) n = b.kind y n

  abbrev pub Stands : Ground → Site → Call → Either A B → View → Type 0
  Stands site here call (one x) v = a.Stands site here call x v
  Stands site here call (other y) v = b.Stands site here call y v

  abbrev pub outcome : Either A B → Option Outcome
  outcome (one x) = a.outcome x
  outcome (other y) = b.outcome y

  abbrev pub Remembers : Ground → Either A B → Doings → Type 0
  Remembers site (one x) did = a.Remembers site x did
  Remembers site (other y) did = b.Remembers site y did

  abbrev pub HasWorked : Ground → Either A B → Doings → Type 0
  HasWorked site (one x) did = a.HasWorked site x did
  HasWorked site (other y) did = b.HasWorked site y did

  abbrev pub HasMade : Either A B → Type 0
  HasMade (one x) = a.HasMade x
  HasMade (other y) = b.HasMade y

  abbrev pub left : Either A B → ℕ
  left (one x) = a.left x
  left (other y) = b.left y

  abbrev pub is_waiting : Either A B → Bool
  is_waiting (one x) = a.is_waiting x
  is_waiting (other y) = b.is_waiting y

  abbrev pub waiting : Either A B → ℕ
  waiting (one x) = a.waiting x
  waiting (other y) = b.waiting y

  abbrev pub hands_on : Either A B → Bool
  hands_on (one x) = a.hands_on x
  hands_on (other y) = b.hands_on y

  abbrev pub either_part : Part (Either A B)
  either_part = record {
    wanted = wanted;
    taken = taken;
    kind = kind;
    Stands = Stands;
    outcome = outcome;
    Remembers = Remembers;
    HasWorked = HasWorked;
    HasMade = HasMade;
    left = left;
    most_events = max a.most_events b.most_events;
    is_waiting = is_waiting;
    waiting = waiting;
    most_waiting = max a.most_waiting b.most_waiting;
    hands_on = hands_on;
  }
