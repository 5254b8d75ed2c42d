-- ONE PART AFTER ANOTHER: where the first hands on, the second goes on from the state that is made of it.
use Rattle.std.specs.Prelude.{◌≡◌, ℕ, ◌+◌, max, Bool, true, false, Option, None}
use Rattle.op_core.specs.declared.want.Want.{Want}
use Rattle.op_core.specs.declared.want.Ans.{Ans}
use Rattle.map_model.specs.declared.call.Call.{Call}
use Rattle.world.specs.declared.site.Site.{Site}
use Rattle.world.specs.Ground.{Ground, IsGround}
use Rattle.world.specs.Views.{View}
use Rattle.world.specs.StepKinds.{StepKind}
use Rattle.part.specs.Doings.{Doings}
use Rattle.part.specs.Outcomes.{Outcome}
use Rattle.part.specs.Part.{Part}

-- a state of the first, or of the second
pub data Then (A B : Type 0) : Type 0 where
  first : A → Then A B
  second : B → Then A B

-- the second goes on from `next` of the first's state
module _ {A B : Type 0} (a : Part A) (b : Part B) (next : A → B) where
  abbrev pub passed : Bool → A → Then A B
  passed true x = second (next x)
  passed false x = first x

  abbrev pub wanted : Then A B → Want
  wanted (first x) = a.wanted x
  wanted (second y) = b.wanted y

  abbrev pub taken : Then A B → Ans → Then A B
  taken (first x) ans = passed (a.hands_on (a.taken x ans)) (a.taken x ans)
  taken (second y) ans = second (b.taken y ans)

  abbrev pub kind : Then A B → ℕ → StepKind
  kind (first x) n = a.kind x n
  kind (second y) n = b.kind y n

  -- the first has not ended, or has ended without handing on
  pub record StandsFirst (site : Ground) (here : Site) (call : Call) (x : A) (v : View) : Type 0 where
    pub stands : a.Stands site here call x v
    pub closed : a.hands_on x ≡ false

  abbrev pub Stands : Ground → Site → Call → Then A B → View → Type 0
  Stands site here call (first x) v = StandsFirst site here call x v
  Stands site here call (second y) v = b.Stands site here call y v

  abbrev pub outcome : Then A B → Option Outcome
  outcome (first x) = a.outcome x
  outcome (second y) = b.outcome y

  abbrev pub Remembers : Ground → Then A B → Doings → Type 0
  Remembers site (first x) did = a.Remembers site x did
  Remembers site (second y) did = b.Remembers site y did

  abbrev pub HasWorked : Ground → Then A B → Doings → Type 0
  HasWorked site (first x) did = a.HasWorked site x did
  HasWorked site (second y) did = b.HasWorked site y did

  abbrev pub HasMade : Then A B → Type 0
  HasMade (first x) = a.HasMade x
  HasMade (second y) = b.HasMade y

  abbrev pub left : Then A B → ℕ
  left (first x) = a.left x + b.most_events
  left (second y) = b.left y

  abbrev pub is_waiting : Then A B → Bool
  is_waiting (first x) = a.is_waiting x
  is_waiting (second y) = b.is_waiting y

  abbrev pub waiting : Then A B → ℕ
  waiting (first x) = a.waiting x
  waiting (second y) = b.waiting y

  abbrev pub hands_on : Then A B → Bool
  hands_on (first x) = false
  hands_on (second y) = b.hands_on y

  abbrev pub then_part : Part (Then A B)
  then_part = record {
    wanted = wanted;
    taken = taken;
    kind = kind;
    Stands = Stands;
    outcome = outcome;
    Remembers = Remembers;
    HasWorked = HasWorked;
    HasMade = HasMade;
    left = left;
    most_events = a.most_events + b.most_events;
    is_waiting = is_waiting;
    waiting = waiting;
    most_waiting = max a.most_waiting b.most_waiting;
    hands_on = hands_on;
  }

  -- WHAT THE FIRST OWES THE SECOND where it hands on: its view stands for the second, which is undecided, and remembers by what the first
  -- remembers
  pub record Passes : Type 0 where
    pub stands : (site : Ground) (here : Site) (call : Call) (x : A) (v : View) → IsGround site → a.Stands site here call x v → a.hands_on x ≡ true
        → b.Stands site here call (next x) v
    pub undecided : (x : A) → a.hands_on x ≡ true → b.outcome (next x) ≡ None
    pub remembers : (site : Ground) (x : A) (did : Doings) → a.hands_on x ≡ true → a.Remembers site x did → b.Remembers site (next x) did
