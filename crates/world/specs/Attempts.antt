-- What the view of a caller has and holds at the beginning of an attempt, and at its end.
use Rattle.std.specs.Prelude.{◌≡◌, ℕ, Option, None, Some, List, [], ◌∷◌, ◌++◌}
use Rattle.map_model.specs.declared.call.Call.{Call}
use Rattle.map_model.specs.declared.entry.Reply.{Reply}
use Rattle.map_model.specs.Map.{is_done}
use Rattle.map_model.specs.Legal.{seen_after}
use Rattle.world.specs.Views.{View}
use Rattle.world.specs.Kinds.{next_entry}

-- these locks, and nothing else: no area, no word known or unsettled, no change planned, no record under way, and no note owed
pub record HoldsOnly (locks : List (ℕ × ℕ)) (v : View) : Type 0 where
  pub held : v.held ≡ locks
  pub known : v.known ≡ []
  pub dirty : v.dirty ≡ []
  pub flushed : v.flushed ≡ []
  pub planned : v.planned ≡ []
  pub moving : v.moving ≡ []
  pub owed : v.owed ≡ []
  pub areas : v.areas ≡ []

-- it holds no lock and no area, has nothing unsettled, planned or under way, and owes nothing
pub record OwesNothing (v : View) : Type 0 where
  pub held : v.held ≡ []
  pub dirty : v.dirty ≡ []
  pub flushed : v.flushed ≡ []
  pub planned : v.planned ≡ []
  pub moving : v.moving ≡ []
  pub owed : v.owed ≡ []
  pub areas : v.areas ≡ []

-- nothing is planned, under way or owed
pub record IsIdle (v : View) : Type 0 where
  pub planned : v.planned ≡ []
  pub moving : v.moving ≡ []
  pub owed : v.owed ≡ []

-- the replies of another view, and it has seen as much
pub record HasNoMore (before v : View) : Type 0 where
  pub own : v.own ≡ before.own
  pub seen : v.seen ≡ before.seen

-- this reply more
pub record HasOneMore (call : Call) (reply : Reply) (place : ℕ) (before v : View) : Type 0 where
  pub own : v.own ≡ before.own ++ next_entry before call reply place (is_done reply) ∷ []
  pub seen : v.seen ≡ seen_after (next_entry before call reply place (is_done reply))

-- the reply that an attempt gives, with its place, or no more than before
abbrev pub EntersReply : Call → Option (Reply × ℕ) → View → View → Type 0
EntersReply call None before v = HasNoMore before v
EntersReply call (Some r) before v = HasOneMore call r.0 r.1 before v
