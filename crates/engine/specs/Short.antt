-- HOW SHORT A SPLIT OR A REPAIR IS, by the shape of its image: the events that are left of its machine, and for each machine behind that one as
-- many as it makes at most from its beginning on.
use Rattle.std.specs.Prelude.{◌≡◌, ℕ, ◌+◌, ◌*◌, ◌^◌, ◌<◌, ◌≤◌, ◌⊎◌}
use Rattle.image_layout.specs.Places.{Shape, IsShape}
use Rattle.op_core.specs.declared.want.Ans.{Ans}
use Rattle.op_core.specs.Answers.{IsAnswer}
use Rattle.map_model.specs.declared.change.Change.{Change}
use Rattle.world.specs.declared.site.Site.{Site}
use Rattle.part.specs.Part.{IsWait}
use Rattle.enclose_op.specs.EnclosePart.{enclose_part}
use Rattle.split_op.specs.SplitPart.{split_part, events_in as making_events}
use Rattle.directory_op.specs.Left.{events_in as publishing_events}
use Rattle.rest_op.specs.RestPart.{rest_part}
use Rattle.repair_op.specs.RepairPart.{repair_part}
use Rattle.redirect_op.specs.Left.{events_in as redirecting_events}
use Rattle.mend_op.specs.MendPart.{mend_part}
use Rattle.engine.specs.declared.engine.Op.{Op}
use Rattle.engine.specs.declared.engine.Op.TheVariants.{Enclose, Split, Repair}
use Rattle.engine.specs.declared.engine.Engine.{Engine}
use Rattle.engine.specs.OpPart.{op_part, repairs, work_of}
use Rattle.engine.specs.Engine.{splitting, repairing, wanted, taken}

-- ---- behind a machine, in an image of this shape
-- once the side is made: it is published, and the rest is done
abbrev pub left_once_made : Shape → ℕ
left_once_made shape = publishing_events shape + rest_part.most_events

-- once the segment is enclosed
abbrev pub left_once_enclosed : Shape → ℕ
left_once_enclosed shape = making_events shape + left_once_made shape

-- once a stale segment is guarded: entries are redirected to its ready side, and the rest is mended
abbrev pub left_once_guarded : Shape → ℕ
left_once_guarded shape = redirecting_events shape + mend_part.most_events

-- SO MANY EVENTS ARE LEFT of a split or of a repair, but while a split waits for the guard of the directory; behind a side that is made and a segment
-- that is guarded, and of a call's own machines, as many as of the attempt
abbrev pub work_left : Op → ℕ
work_left (Enclose op) = enclose_part.left op + left_once_enclosed op.enclosed.site.geometry
work_left (Split op) = split_part.left op + left_once_made op.copied.whole.site.geometry
work_left (Repair op) = repair_part.left op + left_once_guarded op.guarded.site.geometry
work_left op = op_part.left op

abbrev pub left_of_work : Engine → ℕ
left_of_work e = work_left e.op

-- ---- the laws
-- each answer of the kind that was asked for leaves fewer, or it waits for the guard of the directory, and as many are left
abbrev pub FallsOrWaits : Type 0
FallsOrWaits = (e : Engine) (ans : Ans) → IsAnswer (wanted e) ans
    → (left_of_work (taken e ans) < left_of_work e) ⊎ (IsWait op_part e.op ans × (left_of_work (taken e ans) ≡ left_of_work e))

-- a repair never waits
abbrev pub RepairsFall : Type 0
RepairsFall = (e : Engine) (ans : Ans) (segment : ℕ) → work_of e.op ≡ repairs segment → IsAnswer (wanted e) ans → left_of_work (taken e ans) < left_of_work e

-- a split that begins in an image of this shape has no more
abbrev pub split_events : Shape → ℕ
split_events shape = 15671 + shape.segments + 7 * 2 ^ shape.depth

abbrev pub BeginsShort : Type 0
BeginsShort = (here : Site) (change : Change) (segment : ℕ) → IsShape here.geometry → left_of_work (splitting here change segment) ≤ split_events here.geometry

-- nor has a repair
abbrev pub repair_events : Shape → ℕ
repair_events shape = 2857 + 5 * 2 ^ shape.depth

abbrev pub RepairBeginsShort : Type 0
RepairBeginsShort = (here : Site) (segment : ℕ) → left_of_work (repairing here segment) ≤ repair_events here.geometry

-- which are at most twenty thousand, eight for each entry of the deepest area of the directory, and two for each slot
abbrev pub most_by_shape : Shape → ℕ
most_by_shape shape = 20000 + 8 * 2 ^ shape.depth + 2 * shape.segments

abbrev pub StaysWithin : Type 0
StaysWithin = (shape : Shape) → split_events shape ≤ most_by_shape shape

abbrev pub RepairStaysWithin : Type 0
RepairStaysWithin = (shape : Shape) → repair_events shape ≤ most_by_shape shape
