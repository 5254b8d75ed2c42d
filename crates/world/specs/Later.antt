-- What a caller has seen only grows, and its replies come at places not before that.
use Rattle.std.specs.Prelude.{◌≡◌, ◌≤◌, List, [], ◌++◌}
use Rattle.map_model.specs.declared.entry.Entry.{Entry}
use Rattle.world.specs.Views.{View, Has}

-- a view is a later one of another: it has these replies more, each at a place not before what the other had seen, and it has
-- seen no less; without a reply more it has seen as much
pub record IsLater (before after : View) : Type 0 where
  pub rest : List Entry
  pub own : after.own ≡ before.own ++ rest
  pub places : (e : Entry) → Has e rest → before.seen ≤ e.place
  pub seen : before.seen ≤ after.seen
  pub still : rest ≡ [] → after.seen ≡ before.seen
