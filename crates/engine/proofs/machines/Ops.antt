-- The machines are one part: by what each owes the next, the laws of either of two parts, and of a part under other names.
use Rattle.std.proofs.Common.{◌≡◌, ℕ, false, refl, sym, subst}
use Rattle.world.specs.Kinds.{Kind}
use Rattle.world.specs.StepKinds.{of_call}
use Rattle.part.specs.Part.{Part, IsPart}
use Rattle.part.specs.Causes.{EndsByCause}
use Rattle.part.specs.Then.{first, second}
use Rattle.part.specs.Either.{Either, one, other, either_part}
use Rattle.part.specs.Renamed.{IsNamed}
use Rattle.part.proofs.Eithers.{either_is_part, either_ends_by_cause}
use Rattle.part.proofs.Renaming.{renamed_is_part}
use Rattle.read_op.specs.Fits.{kind_of as get_kind}
use Rattle.read_op.specs.GetPart.{get_part}
use Rattle.write_op.specs.Fits.{kind_of as change_kind}
use Rattle.move_op.specs.Fits.{kind_at as move_kind}
use Rattle.stash_op.specs.Fits.{kind_at as stash_kind}
use Rattle.release_op.specs.ReleasePart.{kind_at as release_kind}
use Rattle.engine.specs.declared.engine.Op.{Op}
use Rattle.engine.specs.declared.engine.Op.TheVariants.{Read, Write, Move, Stash, Release, Enclose, Split, Publish, Rest, Repair, Redirect, Mend}
use Rattle.engine.specs.OpPart.{OpState, SplitState, RepairState, whole_change, call_part, whole_split, whole_repair, state_of, named, op_part, calls, work_of}

-- the machines of a split, or those of a repair
abbrev pub outer_part : Part (Either SplitState RepairState)
outer_part = either_part whole_split whole_repair

-- those of the call itself, or these
abbrev pub either_ops : Part OpState
either_ops = either_part call_part outer_part

pub each_named : IsNamed either_ops state_of named
each_named (one (one op)) = refl
each_named (one (other (first op))) = refl
each_named (one (other (second (first op)))) = refl
each_named (one (other (second (second (first op))))) = refl
each_named (one (other (second (second (second op))))) = refl
each_named (other (one (first op))) = refl
each_named (other (one (second (first op)))) = refl
each_named (other (one (second (second (first op))))) = refl
each_named (other (one (second (second (second op))))) = refl
each_named (other (other (first op))) = refl
each_named (other (other (second (first op)))) = refl
each_named (other (other (second (second op)))) = refl

-- what is so of a state is so of the machine that has its name
pub renamed_at : (P : OpState → Type 0) (m : OpState) → P m → P (state_of (named m))
renamed_at P m holds = subst P (sym (each_named m)) holds

-- an engine goes on by itself: it hands on nowhere
pub never_hands_on : (op : Op) → op_part.hands_on op ≡ false
never_hands_on (Read op) = refl
never_hands_on (Write op) = refl
never_hands_on (Move op) = refl
never_hands_on (Stash op) = refl
never_hands_on (Release op) = refl
never_hands_on (Enclose op) = refl
never_hands_on (Split op) = refl
never_hands_on (Publish op) = refl
never_hands_on (Rest op) = refl
never_hands_on (Repair op) = refl
never_hands_on (Redirect op) = refl
never_hands_on (Mend op) = refl

-- while it works on its call it does not wait for what another has
pub never_waits : (op : Op) → work_of op ≡ calls → op_part.is_waiting op ≡ false
never_waits (Read op) own = refl
never_waits (Write op) own = refl
never_waits (Move op) own = refl
never_waits (Stash op) own = refl
never_waits (Release op) own = refl
never_waits (Enclose op) own = absurd (cc)
never_waits (Split op) own = absurd (cc)
never_waits (Publish op) own = absurd (cc)
never_waits (Rest op) own = absurd (cc)
never_waits (Repair op) own = absurd (cc)
never_waits (Redirect op) own = absurd (cc)
never_waits (Mend op) own = absurd (cc)

-- and the kind of each event is one of a caller's: no machine of the call itself does anything at the structure
pub call_kind : (op : Op) (n : ℕ) → work_of op ≡ calls → (kind : Kind) × (op_part.kind op n ≡ of_call kind)
call_kind (Read op) n own = (get_kind op, refl)
call_kind (Write op) n own = (change_kind op n, refl)
call_kind (Move op) n own = (move_kind op.kept op.step, refl)
call_kind (Stash op) n own = (stash_kind op.kept op.stage.seen op.stage.step, refl)
call_kind (Release op) n own = (release_kind op.kept op.step, refl)
call_kind (Enclose op) n own = absurd (cc)
call_kind (Split op) n own = absurd (cc)
call_kind (Publish op) n own = absurd (cc)
call_kind (Rest op) n own = absurd (cc)
call_kind (Repair op) n own = absurd (cc)
call_kind (Redirect op) n own = absurd (cc)
call_kind (Mend op) n own = absurd (cc)

pub call_is_part : IsPart get_part → IsPart whole_change → IsPart call_part
call_is_part get change = either_is_part get_part whole_change get change

pub call_ends_by_cause : EndsByCause get_part → EndsByCause whole_change → EndsByCause call_part
call_ends_by_cause get change = either_ends_by_cause get_part whole_change get change

pub op_is_part : IsPart call_part → IsPart whole_split → IsPart whole_repair → IsPart op_part
op_is_part call split repair = renamed_is_part either_ops state_of named each_named (either_is_part call_part outer_part call (either_is_part whole_split whole_repair split repair))
