-- What an attempt tells at its end: the outcome that was decided; and which machine tells which.
use Rattle.std.proofs.Common.{◌≡◌, ◌≢◌, ℕ, Some, refl, sym, ap, ◌∙◌, subst}
use Rattle.std.proofs.lemmas.Option.{none-some}
use Rattle.map_model.specs.declared.call.Call.{Call}
use Rattle.op_core.specs.declared.want.Want.TheVariants as want
use Rattle.world.specs.declared.site.Site.{Site}
use Rattle.world.specs.Ground.{Ground}
use Rattle.world.specs.Views.{View}
use Rattle.part.specs.Outcomes.{need_split, off, finished}
use Rattle.part.specs.Part.{NeverFinished, NeverSplits, EndsAsTold}
use Rattle.read_op.specs.GetPart.{outcome_of as get_outcome, outcome_in as get_outcome_in, get_part, EndsAsSaid as GetSays}
use Rattle.write_op.specs.ChangePart.{change_part}
use Rattle.move_op.specs.MovePart.{move_part}
use Rattle.stash_op.specs.StashPart.{stash_part}
use Rattle.release_op.specs.declared.op.ReleaseOp.{ReleaseOp}
use Rattle.release_op.specs.ReleasePart.{release_part}
use Rattle.enclose_op.specs.declared.op.NotEnclosed.{NotEnclosed}
use Rattle.enclose_op.specs.declared.op.NotEnclosed.TheVariants.{Replied, Again, Room}
use Rattle.enclose_op.specs.declared.op.EncloseStep.{EncloseStep}
use Rattle.enclose_op.specs.declared.op.EncloseStep.TheVariants as enclose
use Rattle.enclose_op.specs.Fits.{outcome_of as enclose_outcome, outcome_at as enclose_outcome_at}
use Rattle.enclose_op.specs.EnclosePart.{enclose_part}
use Rattle.enclose_op.proofs.Giving.{give_some}
use Rattle.split_op.specs.declared.op.SplitOp.{SplitOp}
use Rattle.split_op.specs.declared.step.SplitEnd.{SplitEnd}
use Rattle.split_op.specs.declared.step.SplitEnd.TheVariants as split_ends
use Rattle.split_op.specs.declared.step.SplitStep.{SplitStep}
use Rattle.split_op.specs.declared.step.SplitStep.TheVariants as split
use Rattle.split_op.specs.Steps.{wanted_in as split_wanted_in, end_at as split_end_at}
use Rattle.split_op.specs.Fits.{outcome_of as split_outcome, outcome_at as split_outcome_at}
use Rattle.directory_op.specs.declared.op.DirectoryEnd.TheVariants.{Published, Off}
use Rattle.directory_op.specs.declared.op.DirectoryStep.{DirectoryStep}
use Rattle.directory_op.specs.declared.op.DirectoryStep.TheVariants as publish
use Rattle.directory_op.specs.Steps.{end_at as directory_end_at}
use Rattle.directory_op.specs.DirectoryPart.{outcome_at as directory_outcome_at, EndsOff}
use Rattle.rest_op.specs.declared.op.RestStep.{RestStep}
use Rattle.rest_op.specs.declared.op.RestStep.TheVariants as rest
use Rattle.rest_op.specs.RestPart.{outcome_at as rest_outcome_at, EndsAsSplit}
use Rattle.repair_op.specs.declared.step.RepairEnd.{RepairEnd}
use Rattle.repair_op.specs.declared.step.RepairEnd.TheVariants as repair_ends
use Rattle.repair_op.specs.declared.step.RepairStep.{RepairStep}
use Rattle.repair_op.specs.declared.step.RepairStep.TheVariants as repair
use Rattle.repair_op.specs.RepairPart.{outcome_of as repair_outcome, outcome_at as repair_outcome_at, EndsAsSaid as RepairSays}
use Rattle.redirect_op.specs.declared.step.RedirectEnd.{RedirectEnd}
use Rattle.redirect_op.specs.declared.step.RedirectEnd.TheVariants as redirect_ends
use Rattle.redirect_op.specs.declared.step.RedirectStep.{RedirectStep}
use Rattle.redirect_op.specs.declared.step.RedirectStep.TheVariants as redirect
use Rattle.redirect_op.specs.Ends.{outcome_of as redirect_outcome, outcome_at as redirect_outcome_at}
use Rattle.redirect_op.specs.RedirectPart.{EndsAsSaid as RedirectSays}
use Rattle.mend_op.specs.declared.op.MendStep.{MendStep}
use Rattle.mend_op.specs.declared.op.MendStep.TheVariants as mend
use Rattle.mend_op.specs.MendPart.{outcome_at as mend_outcome_at, EndsRepaired as MendSays}
use Rattle.engine.specs.declared.engine.Op.{Op}
use Rattle.engine.specs.declared.engine.Op.TheVariants.{Read, Write, Move, Stash, Release, Enclose, Split, Publish, Rest, Repair, Redirect, Mend}
use Rattle.engine.specs.Engine.{read_end_at, end_of_op, outcome_of_end, made_outcome, publish_outcome, rest_outcome, repaired_outcome, redirected_outcome, mended_outcome}
use Rattle.engine.specs.OpPart.{op_part, calls, work_of}
use Rattle.engine.specs.Causes.{EndsAreDecided}

-- what is used of the machines
pub record EndLaws : Type 0 where
  pub get : GetSays
  pub change : EndsAsTold change_part (λ op. outcome_of_end (end_of_op (Write op)))
  pub move : EndsAsTold move_part (λ op. outcome_of_end (end_of_op (Move op)))
  pub stash : EndsAsTold stash_part (λ op. outcome_of_end (end_of_op (Stash op)))
  pub release : EndsAsTold release_part (λ op. outcome_of_end (end_of_op (Release op)))
  pub enclose : EndsAsTold enclose_part (λ op. outcome_of_end (end_of_op (Enclose op)))
  pub publish : EndsOff
  pub rest : EndsAsSplit
  pub repair : RepairSays
  pub redirect : RedirectSays
  pub mend : MendSays

-- ---- an end is what was decided
-- while a split gives back it wants something
split_says : (op : SplitOp) (s : SplitStep) → split_wanted_in op s ≡ want.Done → split_outcome_at s ≡ made_outcome (split_end_at s)
split_says op split.Take done = refl
split_says op (split.Search slot) done = refl
split_says op split.Count done = refl
split_says op (split.Return count) done = absurd (cc)
split_says op (split.Look b) done = refl
split_says op (split.Put batch rounds) done = refl
split_says op split.Release done = refl
split_says op (split.Back give end) done = absurd (give_some op.copied.whole give done)
split_says op (split.Ended end) done = refl

publish_says : (s : DirectoryStep) → directory_outcome_at s ≡ Some off → publish_outcome (directory_end_at s) ≡ Some off
publish_says (publish.Ended Published) told = absurd (none-some off told)
publish_says s told = refl

op_says : EndLaws → (site : Ground) (here : Site) (call : Call) (op : Op) (v : View) → op_part.Stands site here call op v → op_part.wanted op ≡ want.Done
    → op_part.outcome op ≡ outcome_of_end (end_of_op op)
op_says laws site here call (Read op) v s done = subst (λ z. get_outcome_in z ≡ Some (get_outcome (read_end_at z))) (sym (laws.get op done).1) refl
op_says laws site here call (Write op) v s done = laws.change op done
op_says laws site here call (Move op) v s done = laws.move op done
op_says laws site here call (Stash op) v s done = laws.stash op done
op_says laws site here call (Release op) v s done = laws.release op done
op_says laws site here call (Enclose op) v s done = laws.enclose op done
op_says laws site here call (Split op) v s done = split_says op op.step done
op_says laws site here call (Publish op) v s done = let told = laws.publish site here call op v s.stands done s.closed in told ∙ sym (publish_says op.step told)
op_says laws site here call (Rest op) v s done = let k = laws.rest site here call op v s done in k.0 ∙ sym (ap rest_outcome k.1)
op_says laws site here call (Repair op) v s done = let k = laws.repair op done in k.2 ∙ sym (ap repaired_outcome k.1)
op_says laws site here call (Redirect op) v s done = let k = laws.redirect site here call op v s.stands done in k.2 ∙ sym (ap redirected_outcome k.1)
op_says laws site here call (Mend op) v s done = let k = laws.mend site here call op v s done in k.0 ∙ sym (ap mended_outcome k.1)

pub ends_are_decided : EndLaws → EndsAreDecided
ends_are_decided laws site here call e v s done = op_says laws site here call e.op v s done

-- ---- which machine tells which
-- no machine of the call itself ends as one that has done its work
pub never_finished : NeverFinished get_part → NeverFinished change_part → NeverFinished move_part → NeverFinished stash_part → NeverFinished release_part
    → (op : Op) → work_of op ≡ calls → op_part.outcome op ≡ Some finished → ⊥
never_finished get change move stash release (Read op) own some = get op some
never_finished get change move stash release (Write op) own some = change op some
never_finished get change move stash release (Move op) own some = move op some
never_finished get change move stash release (Stash op) own some = stash op some
never_finished get change move stash release (Release op) own some = release op some
never_finished get change move stash release (Enclose op) own some = cc
never_finished get change move stash release (Split op) own some = cc
never_finished get change move stash release (Publish op) own some = cc
never_finished get change move stash release (Rest op) own some = cc
never_finished get change move stash release (Repair op) own some = cc
never_finished get change move stash release (Redirect op) own some = cc
never_finished get change move stash release (Mend op) own some = cc

-- A RELEASE alone tells that a segment is to be split
abbrev pub ReleasesTellAlone : Type 0
ReleasesTellAlone = (segment : ℕ) (op : Op) → op_part.outcome op ≡ Some (need_split segment) → (of : ReleaseOp) × (op ≡ Release of)

module _ (segment : ℕ) where
  not_enclosed : (end : NotEnclosed) → Some (enclose_outcome end) ≢ Some (need_split segment)
  not_enclosed (Replied reply place) some = cc
  not_enclosed (Again why) some = cc
  not_enclosed Room some = cc

  enclose_splits : (s : EncloseStep) → enclose_outcome_at s ≢ Some (need_split segment)
  enclose_splits (enclose.Give give end) some = not_enclosed end some
  enclose_splits (enclose.Ended end) some = not_enclosed end some
  enclose_splits s some = none-some (need_split segment) some

  made_splits : (end : SplitEnd) → split_outcome end ≢ Some (need_split segment)
  made_splits split_ends.Copied some = none-some (need_split segment) some
  made_splits (split_ends.Again why) some = cc
  made_splits (split_ends.Full count) some = cc

  split_splits : (s : SplitStep) → split_outcome_at s ≢ Some (need_split segment)
  split_splits (split.Return count) some = cc
  split_splits (split.Back give end) some = made_splits end some
  split_splits (split.Ended end) some = made_splits end some
  split_splits s some = none-some (need_split segment) some

  publish_splits : (s : DirectoryStep) → directory_outcome_at s ≢ Some (need_split segment)
  publish_splits (publish.Ended Off) some = cc
  publish_splits s some = none-some (need_split segment) some

  rest_splits : (s : RestStep) → rest_outcome_at s ≢ Some (need_split segment)
  rest_splits rest.Ended some = cc
  rest_splits s some = none-some (need_split segment) some

  repair_tells : (end : RepairEnd) → repair_outcome end ≢ Some (need_split segment)
  repair_tells repair_ends.Current some = cc
  repair_tells (repair_ends.Again why) some = cc
  repair_tells repair_ends.Guarded some = none-some (need_split segment) some

  repair_splits : (s : RepairStep) → repair_outcome_at s ≢ Some (need_split segment)
  repair_splits (repair.Give end) some = repair_tells end some
  repair_splits (repair.Ended end) some = repair_tells end some
  repair_splits s some = none-some (need_split segment) some

  redirect_tells : (end : RedirectEnd) → redirect_outcome end ≢ Some (need_split segment)
  redirect_tells (redirect_ends.Again why) some = cc
  redirect_tells redirect_ends.Guarded some = none-some (need_split segment) some

  redirect_splits : (s : RedirectStep) → redirect_outcome_at s ≢ Some (need_split segment)
  redirect_splits (redirect.Give end) some = redirect_tells end some
  redirect_splits (redirect.Ended end) some = redirect_tells end some
  redirect_splits s some = none-some (need_split segment) some

  mend_splits : (s : MendStep) → mend_outcome_at s ≢ Some (need_split segment)
  mend_splits mend.Ended some = cc
  mend_splits s some = none-some (need_split segment) some

pub releases_tell_alone : NeverSplits get_part → NeverSplits change_part → NeverSplits move_part → NeverSplits stash_part → ReleasesTellAlone
releases_tell_alone get change move stash segment (Read op) some = absurd (get op segment some)
releases_tell_alone get change move stash segment (Write op) some = absurd (change op segment some)
releases_tell_alone get change move stash segment (Move op) some = absurd (move op segment some)
releases_tell_alone get change move stash segment (Stash op) some = absurd (stash op segment some)
releases_tell_alone get change move stash segment (Release op) some = (op, refl)
releases_tell_alone get change move stash segment (Enclose op) some = absurd (enclose_splits segment op.step some)
releases_tell_alone get change move stash segment (Split op) some = absurd (split_splits segment op.step some)
releases_tell_alone get change move stash segment (Publish op) some = absurd (publish_splits segment op.step some)
releases_tell_alone get change move stash segment (Rest op) some = absurd (rest_splits segment op.step some)
releases_tell_alone get change move stash segment (Repair op) some = absurd (repair_splits segment op.step some)
releases_tell_alone get change move stash segment (Redirect op) some = absurd (redirect_splits segment op.step some)
releases_tell_alone get change move stash segment (Mend op) some = absurd (mend_splits segment op.step some)
