-- What is so where a release tells that a segment is to be split: there is no room in it now, and the call's next attempt may begin with its
-- enclosing.
use Rattle.std.specs.Prelude.{◌≡◌, ◌≢◌, ℕ, ◌^◌, ◌<◌, None, Some, List, []}
use Rattle.op_core.specs.declared.want.Want.TheVariants.{Done}
use Rattle.trace.specs.Events.{Words}
use Rattle.sound_image.specs.Records.{key_hash}
use Rattle.map_model.specs.declared.call.Call.{Call}
use Rattle.map_model.specs.Map.{key_of}
use Rattle.map_model.specs.Changes.{call_of, change_of}
use Rattle.map_model.specs.Legal.{IsInsert}
use Rattle.world.specs.declared.site.Site.{Site}
use Rattle.world.specs.Ground.{Ground}
use Rattle.world.specs.Views.{View, At}
use Rattle.world.specs.Attempts.{HoldsOnly}
use Rattle.world.specs.Invariant.{Holds}
use Rattle.part.specs.Doings.{Doings}
use Rattle.part.specs.Outcomes.{need_split}
use Rattle.part.specs.Part.{Suits, next}
use Rattle.part.specs.Room.{HasNoRoom}
use Rattle.phase.specs.Stands.{IsThere}
use Rattle.release_op.specs.declared.op.ReleaseOp.{ReleaseOp}
use Rattle.release_op.specs.ReleasePart.{release_part}

-- THERE IS NO ROOM NOW, beside any other callers, where an event decides that a segment is to be split: none for the call's key by the
-- newest words, since the locks of all buckets are still held that it might need
abbrev pub NeedsSplitNow : Type 0
NeedsSplitNow = (site : Ground) (here : Site) (call : Call) (words : Words) (views : List View) (j : ℕ) (op : ReleaseOp) (before v : View) (did : Doings)
    → Holds site words views → At views j v → Suits release_part site here call op before v → release_part.Remembers site op did → release_part.wanted op ≢ Done
    → release_part.outcome op ≡ None → (segment : ℕ) → release_part.outcome (next release_part site words op) ≡ Some (need_split segment)
    → HasNoRoom site.shape words segment (key_hash site.shape (key_of call))

-- WHAT IS LEFT TO SPLIT: a segment that the view knows to be live and current, for the change that the call is, an insert of a key that is a
-- word; and at the end nothing is held, known or owed
pub record IsLeftToSplit (site : Ground) (here : Site) (call : Call) (op : ReleaseOp) (segment : ℕ) (v : View) : Type 0 where
  pub shape : here.geometry ≡ site.shape
  pub same : call_of op.kept.change ≡ call
  pub change : change_of call ≡ Some op.kept.change
  pub insert : IsInsert call
  pub key : op.kept.change.key < 2 ^ 64
  pub there : IsThere site segment v.facts
  pub bare : release_part.wanted op ≡ Done → HoldsOnly [] v

-- SO IT IS LEFT from then on
abbrev pub LeavesThere : Type 0
LeavesThere = (site : Ground) (here : Site) (call : Call) (op : ReleaseOp) (v : View) → release_part.Stands site here call op v
    → (segment : ℕ) → release_part.outcome op ≡ Some (need_split segment) → IsLeftToSplit site here call op segment v
