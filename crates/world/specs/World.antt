-- The world: the newest words, the events of the device that made them, and what each caller's view is. And one step of it.
use Rattle.std.specs.Prelude.{ℕ, zero, suc, List, [], ◌∷◌, None, false}
use Rattle.trace.specs.Events.{Words, Trace}
use Rattle.world.specs.Views.{View}

pub record World : Type 0 where
  pub words : Words
  -- the events since the power came on, the newest first
  pub trace : Trace
  pub views : List View

-- the views with that of one seat changed; where nobody sits nothing changes
abbrev pub changed_at : ℕ → (View → View) → List View → List View
changed_at j change [] = []
changed_at zero change (v ∷ views) = change v ∷ views
changed_at (suc j) change (v ∷ views) = v ∷ changed_at j change views

-- the view of a caller that has done nothing yet
abbrev pub fresh_view : ℕ → View
fresh_view callers = record {
  held = [];
  known = [];
  dirty = [];
  flushed = [];
  planned = [];
  moving = [];
  owed = [];
  notes = [];
  answer = None;
  own = [];
  seen = 0;
  callers = callers;
  room = 0;
  spent_locks = [];
  stored_power = false;
  facts = [];
  pinned = [];
  areas = [];
}
