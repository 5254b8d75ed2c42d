-- How an attempt ends, whatever machine makes it.
use Rattle.std.specs.Prelude.{ℕ, ⊤, Option, None, Some}
use Rattle.op_core.specs.declared.why.Why.{Why}
use Rattle.map_model.specs.declared.entry.Reply.{Reply}
use Rattle.map_model.specs.declared.entry.Reply.TheVariants.{Done}

pub data Outcome : Type 0 where
  -- with this reply, at this place
  replied : (reply : Reply) (place : ℕ) → Outcome
  -- it is to be made again
  again : (why : Why) → Outcome
  -- the segment in this slot is live and has this version, which is not the image's
  stale : (segment version : ℕ) → Outcome
  -- the segment in this slot has no room for the call's key: it is to be split, and the call made again
  need_split : (segment : ℕ) → Outcome
  -- the power is off
  off : Outcome
  -- it has done its work, which gives the call no reply
  finished : Outcome

-- a reply that says that something changed
abbrev pub IsDone : Reply → Type 0
IsDone Done = ⊤
IsDone other = ⊥

-- the reply with its place, where that is the outcome
abbrev pub reply_of : Option Outcome → Option (Reply × ℕ)
reply_of (Some (replied reply place)) = Some (reply, place)
reply_of outcome = None
