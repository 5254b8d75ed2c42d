-- A PART UNDER OTHER NAMES: its states are those of a type of its own, each of which stands for one of the part's.
use Rattle.std.specs.Prelude.{◌≡◌}
use Rattle.part.specs.Part.{Part}

-- `to` says what a state stands for, and `from` which state that is
module _ {A B : Type 0} (p : Part A) (to : B → A) (from : A → B) where
  abbrev pub renamed_part : Part B
  renamed_part = record {
    wanted = λ m. p.wanted (to m);
    taken = λ m ans. from (p.taken (to m) ans);
    kind = λ m n. p.kind (to m) n;
    Stands = λ site here call m v. p.Stands site here call (to m) v;
    outcome = λ m. p.outcome (to m);
    Remembers = λ site m did. p.Remembers site (to m) did;
    HasWorked = λ site m did. p.HasWorked site (to m) did;
    HasMade = λ m. p.HasMade (to m);
    left = λ m. p.left (to m);
    most_events = p.most_events;
    is_waiting = λ m. p.is_waiting (to m);
    waiting = λ m. p.waiting (to m);
    most_waiting = p.most_waiting;
    hands_on = λ m. p.hands_on (to m);
  }

  -- each state of the part has its name
  abbrev pub IsNamed : Type 0
  IsNamed = (x : A) → to (from x) ≡ x
