-- The engine of one caller: the machine of its call, one event after another.
use Rattle.std.specs.Prelude.{◌≡◌, ℕ, ◌⊎◌, Bool, true, false, Option, None, Some}
use Rattle.op_core.specs.declared.want.Want.{Want}
use Rattle.op_core.specs.declared.want.Ans.{Ans}
use Rattle.map_model.specs.declared.call.Call.{Call}
use Rattle.map_model.specs.declared.change.Change.{Change}
use Rattle.map_model.specs.Map.{key_of}
use Rattle.map_model.specs.Changes.{change_of}
use Rattle.map_model.specs.declared.entry.Reply.{Reply}
use Rattle.world.specs.declared.site.Site.{Site}
use Rattle.world.specs.StepKinds.{StepKind}
use Rattle.part.specs.Outcomes.{Outcome, again, stale, need_split, off, finished, reply_of}
use Rattle.read_op.specs.declared.step.ReadEnd.{ReadEnd}
use Rattle.read_op.specs.declared.step.ReadEnd.TheVariants as read_end
use Rattle.read_op.specs.declared.step.ReadStep.{ReadStep}
use Rattle.read_op.specs.declared.step.ReadStep.TheVariants as read_step
use Rattle.read_op.specs.Steps.{begun as read_begun}
use Rattle.read_op.specs.GetPart.{outcome_of as get_outcome}
use Rattle.write_op.specs.Steps.{begun as write_begun, end_at as write_end_at}
use Rattle.write_op.specs.Fits.{outcome_of as change_outcome}
use Rattle.move_op.specs.Steps.{end_at as move_end_at}
use Rattle.move_op.specs.Fits.{outcome_of as move_outcome}
use Rattle.stash_op.specs.Steps.{end_at as stash_end_at}
use Rattle.stash_op.specs.Fits.{outcome_of as stash_outcome}
use Rattle.release_op.specs.Steps.{end_of as release_end}
use Rattle.release_op.specs.Ends.{outcome_of as release_outcome}
use Rattle.enclose_op.specs.Steps.{begun as enclose_begun, end_at as enclose_end_at}
use Rattle.enclose_op.specs.Ends.{outcome_told as enclose_outcome}
use Rattle.split_op.specs.declared.step.SplitEnd.{SplitEnd}
use Rattle.split_op.specs.Steps.{end_of as split_end}
use Rattle.split_op.specs.Fits.{outcome_of as split_outcome}
use Rattle.directory_op.specs.declared.op.DirectoryEnd.{DirectoryEnd}
use Rattle.directory_op.specs.declared.op.DirectoryEnd.TheVariants as directory_ends
use Rattle.directory_op.specs.Steps.{end_of as directory_end}
use Rattle.rest_op.specs.declared.op.RestEnd.{RestEnd}
use Rattle.rest_op.specs.declared.op.RestEnd.TheVariants as rest_ends
use Rattle.rest_op.specs.Steps.{end_of as rest_end}
use Rattle.repair_op.specs.Steps.{begun as repair_begun, end_of as repair_end}
use Rattle.repair_op.specs.declared.step.RepairEnd.{RepairEnd}
use Rattle.repair_op.specs.RepairPart.{outcome_of as repair_outcome}
use Rattle.redirect_op.specs.Steps.{end_of as redirect_end}
use Rattle.redirect_op.specs.declared.step.RedirectEnd.{RedirectEnd}
use Rattle.redirect_op.specs.Ends.{outcome_of as redirect_outcome}
use Rattle.mend_op.specs.declared.op.MendEnd.{MendEnd}
use Rattle.mend_op.specs.Steps.{end_of as mend_end}
use Rattle.engine.specs.declared.engine.Op.{Op}
use Rattle.engine.specs.declared.engine.Op.TheVariants.{Read, Write, Move, Stash, Release, Enclose, Split, Publish, Rest, Repair, Redirect, Mend}
use Rattle.engine.specs.declared.engine.End.{End}
use Rattle.engine.specs.declared.engine.End.TheVariants as ends
use Rattle.engine.specs.declared.engine.Engine.{Engine}
use Rattle.engine.specs.OpPart.{op_part}

-- the machine of a call: that of the change that it is, or else that of a get of its key
abbrev pub op_by : Site → ℕ → Option Change → Op
op_by site key (Some change) = Write (write_begun change site)
op_by site key None = Read (read_begun key site)

abbrev pub op_of : Site → Call → Op
op_of site call = op_by site (key_of call) (change_of call)

-- the engine of a machine
abbrev pub running : Op → Engine
running op = record { op = op }

-- the engine of a call that has done nothing yet
abbrev pub begun : Site → Call → Engine
begun site call = running (op_of site call)

-- the event that it wants
abbrev pub wanted : Engine → Want
wanted e = op_part.wanted e.op

-- what an answer makes of it: an insert that found no slot goes on to the move of a record, one that found none to move to the stash,
-- and one that found that full too gives all back; and a split or a repair goes on from one of its machines to the next
abbrev pub taken : Engine → Ans → Engine
taken e ans = running (op_part.taken e.op ans)

-- its end, where it wants nothing more; else that of a power that is off
abbrev pub read_end_at : ReadStep → ReadEnd
read_end_at (read_step.Ended end) = end
read_end_at step = read_end.Off

abbrev pub end_of_op : Op → End
end_of_op (Read op) = ends.Read (read_end_at op.step)
end_of_op (Write op) = ends.Write (write_end_at op.stage.step)
end_of_op (Move op) = ends.Move (move_end_at op.step)
end_of_op (Stash op) = ends.Stash (stash_end_at op.stage.step)
end_of_op (Release op) = ends.Release (release_end op)
end_of_op (Enclose op) = ends.Enclose (enclose_end_at op.step)
end_of_op (Split op) = ends.Split (split_end op)
end_of_op (Publish op) = ends.Publish (directory_end op)
end_of_op (Rest op) = ends.Rest (rest_end op)
end_of_op (Repair op) = ends.Repair (repair_end op)
end_of_op (Redirect op) = ends.Redirect (redirect_end op)
end_of_op (Mend op) = ends.Mend (mend_end op)

abbrev pub end_of : Engine → End
end_of e = end_of_op e.op

-- a side that is made or published hands on, and what is split has no reply
abbrev pub made_outcome : Option SplitEnd → Option Outcome
made_outcome (Some end) = split_outcome end
made_outcome None = None

abbrev pub publish_outcome : DirectoryEnd → Option Outcome
publish_outcome directory_ends.Published = None
publish_outcome directory_ends.Off = Some off

abbrev pub rest_outcome : RestEnd → Option Outcome
rest_outcome rest_ends.Split = Some finished
rest_outcome rest_ends.Off = None

-- a segment that is guarded hands on, and so does one whose entries are redirected; what is mended has no reply
abbrev pub repaired_outcome : Option RepairEnd → Option Outcome
repaired_outcome (Some end) = repair_outcome end
repaired_outcome None = None

abbrev pub redirected_outcome : Option RedirectEnd → Option Outcome
redirected_outcome (Some end) = redirect_outcome end
redirected_outcome None = None

abbrev pub mended_outcome : Option MendEnd → Option Outcome
mended_outcome (Some end) = Some finished
mended_outcome None = None

-- the outcome of an attempt that ended so
abbrev pub outcome_of_end : End → Option Outcome
outcome_of_end (ends.Read end) = Some (get_outcome end)
outcome_of_end (ends.Write end) = change_outcome end
outcome_of_end (ends.Move end) = move_outcome end
outcome_of_end (ends.Stash end) = stash_outcome end
outcome_of_end (ends.Release end) = release_outcome end
outcome_of_end (ends.Enclose end) = enclose_outcome end
outcome_of_end (ends.Split end) = made_outcome end
outcome_of_end (ends.Publish end) = publish_outcome end
outcome_of_end (ends.Rest end) = rest_outcome end
outcome_of_end (ends.Repair end) = repaired_outcome end
outcome_of_end (ends.Redirect end) = redirected_outcome end
outcome_of_end (ends.Mend end) = mended_outcome end

-- its reply, with its place
abbrev pub reply_of_end : End → Option (Reply × ℕ)
reply_of_end end = reply_of (outcome_of_end end)

-- it says that the attempt is to be made again
abbrev pub says_again : Option Outcome → Bool
says_again (Some (again why)) = true
says_again outcome = false

abbrev pub is_again : End → Bool
is_again end = says_again (outcome_of_end end)

-- ---- the next attempt of a call that has no reply
-- the engine that splits a segment for a change
abbrev pub splitting : Site → Change → ℕ → Engine
splitting here change segment = running (Enclose (enclose_begun here change segment))

-- the engine that repairs a stale segment
abbrev pub repairing : Site → ℕ → Engine
repairing here segment = running (Repair (repair_begun here segment))

-- an engine that has done nothing yet: of a call, of the split of a segment, or of the repair of one
abbrev pub IsFresh : Site → Engine → Type 0
IsFresh here e = ((call : Call) × (e ≡ begun here call)) ⊎ ((change : Change) × (segment : ℕ) × (e ≡ splitting here change segment)) ⊎ ((segment : ℕ) × (e ≡ repairing here segment))

-- where a segment is to be split, the next attempt splits it, and where one is stale, the next attempt repairs it; else the call is begun anew
abbrev pub anew_by : Site → Call → Option Change → Option Outcome → Engine
anew_by here call (Some change) (Some (need_split segment)) = splitting here change segment
anew_by here call change (Some (stale segment version)) = repairing here segment
anew_by here call change outcome = begun here call

abbrev pub anew : Site → Call → End → Engine
anew here call end = anew_by here call (change_of call) (outcome_of_end end)

-- the kind of its next event in the world of many callers, by the value that the event finds
abbrev pub kind_of : Engine → ℕ → StepKind
kind_of e n = op_part.kind e.op n
