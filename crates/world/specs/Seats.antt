-- A view is cut in two, and two are joined: so it is where words alone are shared, for a new caller's pass, for what is
-- told from caller to caller, and at the end of a pass.
use Rattle.std.specs.Prelude.{ℕ, ◌+◌, ◌-◌, max, ◌||◌, [], ◌++◌, None}
use Rattle.world.specs.Views.{View}
use Rattle.world.specs.World.{fresh_view}

-- the view that is cut off for n callers: it has seen what the other has
abbrev pub cut_off : View → ℕ → View
cut_off v n = record (fresh_view n) { seen = v.seen }

-- what is left of the other, which has to look at the commit counter again
abbrev pub left_of : View → ℕ → View
left_of v n = record v { callers = v.callers - n; room = 0 }

-- the view that takes in another: all that the other holds, knows, owes and has planned
abbrev pub joined : View → View → View
joined v w = record v {
  held = v.held ++ w.held;
  known = v.known ++ w.known;
  dirty = v.dirty ++ w.dirty;
  flushed = v.flushed ++ w.flushed;
  planned = v.planned ++ w.planned;
  moving = v.moving ++ w.moving;
  owed = v.owed ++ w.owed;
  notes = [];
  answer = None;
  seen = max v.seen w.seen;
  callers = v.callers + w.callers;
  room = v.room + w.room;
  spent_locks = v.spent_locks ++ w.spent_locks;
  stored_power = v.stored_power || w.stored_power;
  facts = v.facts ++ w.facts;
  pinned = v.pinned ++ w.pinned;
  areas = v.areas ++ w.areas;
}

-- the view that was taken in: its replies stay, as its caller's; what it relied on went with its locks
abbrev pub spent : View → View
spent w = record w { held = []; known = []; dirty = []; flushed = []; planned = []; moving = []; owed = []; notes = []; answer = None; callers = 0; room = 0; facts = []; pinned = []; areas = [] }
