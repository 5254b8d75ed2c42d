-- THE MACHINES OF A CALL, AS ONE PART: its own, a get, or a change that goes on, where it finds no slot, to the move of a record, where none
-- can move to the stash, and where that is full gives all back; those by which a segment is split, one after another: it is enclosed,
-- its new side is made, that is published, and the rest is done; and those by which a stale segment is repaired: its split is taken back, or
-- the entries are directed to its ready side, and the rest is mended. Each machine has a name of its own.
use Rattle.std.specs.Prelude.{Bool, false, ℕ}
use Rattle.op_core.specs.declared.want.Ans.{Ans}
use Rattle.part.specs.Part.{Part}
use Rattle.part.specs.Splits.{segment_of_then}
use Rattle.part.specs.Then.{Then, first, second, passed, then_part}
use Rattle.part.specs.Either.{Either, one, other, either_part}
use Rattle.part.specs.Renamed.{renamed_part}
use Rattle.read_op.specs.declared.op.ReadOp.{ReadOp}
use Rattle.read_op.specs.GetPart.{get_part}
use Rattle.write_op.specs.declared.op.WriteOp.{WriteOp}
use Rattle.write_op.specs.Steps.{kept_of}
use Rattle.write_op.specs.ChangePart.{change_part}
use Rattle.move_op.specs.declared.op.MoveOp.{MoveOp}
use Rattle.move_op.specs.Steps.{begun as move_begun}
use Rattle.move_op.specs.MovePart.{move_part}
use Rattle.stash_op.specs.declared.op.StashOp.{StashOp}
use Rattle.stash_op.specs.Steps.{begun as stash_begun, kept_of as stash_kept}
use Rattle.stash_op.specs.StashPart.{stash_part}
use Rattle.release_op.specs.declared.op.ReleaseOp.{ReleaseOp}
use Rattle.release_op.specs.Steps.{begun as release_begun}
use Rattle.release_op.specs.ReleasePart.{release_part}
use Rattle.enclose_op.specs.declared.op.EncloseOp.{EncloseOp}
use Rattle.enclose_op.specs.EnclosePart.{enclose_part, segment_of as enclosed_segment}
use Rattle.split_op.specs.declared.op.SplitOp.{SplitOp}
use Rattle.split_op.specs.Steps.{split_of}
use Rattle.split_op.specs.SplitPart.{split_part, segment_of as made_segment}
use Rattle.directory_op.specs.declared.op.DirectoryOp.{DirectoryOp}
use Rattle.directory_op.specs.Steps.{directed}
use Rattle.directory_op.specs.DirectoryPart.{directory_part, segment_of as published_segment}
use Rattle.rest_op.specs.declared.op.RestOp.{RestOp}
use Rattle.rest_op.specs.Reckoned.{rest_of}
use Rattle.rest_op.specs.RestPart.{rest_part, segment_of as rest_segment}
use Rattle.repair_op.specs.declared.op.RepairOp.{RepairOp}
use Rattle.repair_op.specs.RepairPart.{repair_part, segment_of as repaired_segment}
use Rattle.redirect_op.specs.declared.op.RedirectOp.{RedirectOp}
use Rattle.redirect_op.specs.Steps.{begun as redirect_begun}
use Rattle.redirect_op.specs.RedirectPart.{redirect_part, segment_of as redirected_segment}
use Rattle.mend_op.specs.declared.op.MendOp.{MendOp}
use Rattle.mend_op.specs.Steps.{begun as mend_begun}
use Rattle.mend_op.specs.MendPart.{mend_part, segment_of as mended_segment}
use Rattle.engine.specs.declared.engine.Op.{Op}
use Rattle.engine.specs.declared.engine.Op.TheVariants.{Read, Write, Move, Stash, Release, Enclose, Split, Publish, Rest, Repair, Redirect, Mend}

-- ---- a change, as it goes on
-- the move that goes on from what a change kept, the stash from what that kept, and the locks that are given back from what this kept
abbrev pub move_of : WriteOp → MoveOp
move_of op = move_begun (kept_of op)

abbrev pub stash_of : MoveOp → StashOp
stash_of op = stash_begun op.kept

abbrev pub release_of : StashOp → ReleaseOp
release_of op = release_begun (stash_kept op)

-- THE STASH, and where it is full all is given back
abbrev pub stash_or_release : Part (Then StashOp ReleaseOp)
stash_or_release = then_part stash_part release_part release_of

-- which comes at once where both stash buckets are held already, and full
abbrev pub entered : Bool → StashOp → Then StashOp ReleaseOp
entered = passed stash_part release_part release_of

abbrev pub after_move : MoveOp → Then StashOp ReleaseOp
after_move op = entered (stash_part.hands_on (stash_of op)) (stash_of op)

-- A MOVE, and where no record can move these two
abbrev pub move_or_more : Part (Then MoveOp (Then StashOp ReleaseOp))
move_or_more = then_part move_part stash_or_release after_move

-- A CHANGE, and where it finds no slot these three
abbrev pub whole_change : Part (Then WriteOp (Then MoveOp (Then StashOp ReleaseOp)))
whole_change = then_part change_part move_or_more (λ op. first (move_of op))

-- ---- a split, as it goes on
-- the side is published that was made, and the rest is done of the segment that was enclosed
abbrev pub publish_of : SplitOp → DirectoryOp
publish_of op = directed op.copied

abbrev pub rest_after : DirectoryOp → RestOp
rest_after op = rest_of op.copied.whole

abbrev pub publish_and_rest : Part (Then DirectoryOp RestOp)
publish_and_rest = then_part directory_part rest_part rest_after

abbrev pub split_and_more : Part (Then SplitOp (Then DirectoryOp RestOp))
split_and_more = then_part split_part publish_and_rest (λ op. first (publish_of op))

-- A SEGMENT IS SPLIT
abbrev pub whole_split : Part (Then EncloseOp (Then SplitOp (Then DirectoryOp RestOp)))
whole_split = then_part enclose_part split_and_more (λ op. first (split_of op.enclosed))

-- ---- a repair, as it goes on
-- entries are directed to the side of the segment that is guarded, where it has a ready one, and the rest is mended
abbrev pub redirect_of : RepairOp → RedirectOp
redirect_of op = redirect_begun op.guarded

abbrev pub mend_of : RedirectOp → MendOp
mend_of op = mend_begun op.guarded

abbrev pub redirect_and_mend : Part (Then RedirectOp MendOp)
redirect_and_mend = then_part redirect_part mend_part mend_of

-- which comes to the mending at once where there is no such side
abbrev pub after_guard : RepairOp → Then RedirectOp MendOp
after_guard op = passed redirect_part mend_part mend_of (redirect_part.hands_on (redirect_of op)) (redirect_of op)

-- A STALE SEGMENT IS REPAIRED
abbrev pub whole_repair : Part (Then RepairOp (Then RedirectOp MendOp))
whole_repair = then_part repair_part redirect_and_mend after_guard

-- ---- the states of the machines
-- of the call's own, of a split, and of a repair
abbrev pub CallState : Type 0
CallState = Either ReadOp (Then WriteOp (Then MoveOp (Then StashOp ReleaseOp)))

abbrev pub SplitState : Type 0
SplitState = Then EncloseOp (Then SplitOp (Then DirectoryOp RestOp))

abbrev pub RepairState : Type 0
RepairState = Then RepairOp (Then RedirectOp MendOp)

abbrev pub OpState : Type 0
OpState = Either CallState (Either SplitState RepairState)

-- a line for each machine: what it is there, and its name
abbrev pub state_of : Op → OpState
state_of (Read op) = one (one op)
state_of (Write op) = one (other (first op))
state_of (Move op) = one (other (second (first op)))
state_of (Stash op) = one (other (second (second (first op))))
state_of (Release op) = one (other (second (second (second op))))
state_of (Enclose op) = other (one (first op))
state_of (Split op) = other (one (second (first op)))
state_of (Publish op) = other (one (second (second (first op))))
state_of (Rest op) = other (one (second (second (second op))))
state_of (Repair op) = other (other (first op))
state_of (Redirect op) = other (other (second (first op)))
state_of (Mend op) = other (other (second (second op)))

abbrev pub named : OpState → Op
named (one (one op)) = Read op
named (one (other (first op))) = Write op
named (one (other (second (first op)))) = Move op
named (one (other (second (second (first op))))) = Stash op
named (one (other (second (second (second op))))) = Release op
named (other (one (first op))) = Enclose op
named (other (one (second (first op)))) = Split op
named (other (one (second (second (first op))))) = Publish op
named (other (one (second (second (second op))))) = Rest op
named (other (other (first op))) = Repair op
named (other (other (second (first op)))) = Redirect op
named (other (other (second (second op)))) = Mend op

-- the one that goes on where no record can move
abbrev pub op_after_move : MoveOp → Op
op_after_move op = named (one (other (second (second (after_move op)))))

-- and the one that goes on once a stale segment is guarded
abbrev pub op_after_guard : RepairOp → Op
op_after_guard op = named (other (other (second (after_guard op))))

-- what an answer makes of each, before another goes on from it
abbrev pub answered : Op → Ans → Op
answered (Read op) ans = Read (get_part.taken op ans)
answered (Write op) ans = Write (change_part.taken op ans)
answered (Move op) ans = Move (move_part.taken op ans)
answered (Stash op) ans = Stash (stash_part.taken op ans)
answered (Release op) ans = Release (release_part.taken op ans)
answered (Enclose op) ans = Enclose (enclose_part.taken op ans)
answered (Split op) ans = Split (split_part.taken op ans)
answered (Publish op) ans = Publish (directory_part.taken op ans)
answered (Rest op) ans = Rest (rest_part.taken op ans)
answered (Repair op) ans = Repair (repair_part.taken op ans)
answered (Redirect op) ans = Redirect (redirect_part.taken op ans)
answered (Mend op) ans = Mend (mend_part.taken op ans)

-- whether another goes on
abbrev pub hands_on : Op → Bool
hands_on (Read op) = false
hands_on (Write op) = change_part.hands_on op
hands_on (Move op) = move_part.hands_on op
hands_on (Stash op) = stash_part.hands_on op
hands_on (Release op) = false
hands_on (Enclose op) = enclose_part.hands_on op
hands_on (Split op) = split_part.hands_on op
hands_on (Publish op) = directory_part.hands_on op
hands_on (Rest op) = false
hands_on (Repair op) = repair_part.hands_on op
hands_on (Redirect op) = redirect_part.hands_on op
hands_on (Mend op) = false

-- the machine that goes on from what each kept, where one goes on from it
abbrev pub handed_on : Op → Op
handed_on (Read op) = Read op
handed_on (Write op) = Move (move_of op)
handed_on (Move op) = op_after_move op
handed_on (Stash op) = Release (release_of op)
handed_on (Release op) = Release op
handed_on (Enclose op) = Split (split_of op.enclosed)
handed_on (Split op) = Publish (publish_of op)
handed_on (Publish op) = Rest (rest_after op)
handed_on (Rest op) = Rest op
handed_on (Repair op) = op_after_guard op
handed_on (Redirect op) = Mend (mend_of op)
handed_on (Mend op) = Mend op

abbrev pub call_part : Part CallState
call_part = either_part get_part whole_change

abbrev pub op_part : Part Op
op_part = renamed_part (either_part call_part (either_part whole_split whole_repair)) state_of named

-- ---- what an attempt works on
-- the segment that is split, and the one that is repaired
abbrev pub split_segment_in : SplitState → ℕ
split_segment_in m = segment_of_then enclosed_segment (λ n. segment_of_then made_segment (λ o. segment_of_then published_segment rest_segment o) n) m

abbrev pub repaired_segment_in : RepairState → ℕ
repaired_segment_in m = segment_of_then repaired_segment (λ n. segment_of_then redirected_segment mended_segment n) m

-- THE WORK of an attempt: its call, the split of a segment, or the repair of one
pub data Work : Type 0 where
  calls : Work
  splits : (segment : ℕ) → Work
  repairs : (segment : ℕ) → Work

abbrev pub work_of : Op → Work
work_of (Read op) = calls
work_of (Write op) = calls
work_of (Move op) = calls
work_of (Stash op) = calls
work_of (Release op) = calls
work_of (Enclose op) = splits op.enclosed.segment
work_of (Split op) = splits op.copied.whole.segment
work_of (Publish op) = splits op.copied.whole.segment
work_of (Rest op) = splits op.whole.segment
work_of (Repair op) = repairs op.guarded.segment
work_of (Redirect op) = repairs op.guarded.segment
work_of (Mend op) = repairs op.guarded.segment
