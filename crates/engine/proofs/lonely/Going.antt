-- WHO DOES NOT WAIT GOES ON, wherever all others stand; and behind a split or a repair that has done its work its call begins anew.
use Rattle.std.proofs.Common.{◌≡◌, ◌≢◌, ℕ, suc, false, Option, None, Some, ◌∷◌, length, refl, sym, ◌∙◌, ap, subst}
use Rattle.std.proofs.lemmas.Bool.{false≢true}
use Rattle.trace.specs.Events.{Words}
use Rattle.image_layout.specs.Places.{Shape}
use Rattle.map_model.specs.declared.call.Call.{Call}
use Rattle.map_model.specs.declared.change.Change.{Change}
use Rattle.map_model.specs.Changes.{change_of}
use Rattle.world.specs.declared.site.Site.{Site}
use Rattle.world.specs.Ground.{Ground}
use Rattle.world.specs.World.{fresh_view}
use Rattle.part.specs.Outcomes.{Outcome, finished, reply_of}
use Rattle.part.specs.Part.{next}
use Rattle.restart_op.specs.Restarted.{site_of}
use Rattle.engine.specs.declared.engine.Op.{Op}
use Rattle.engine.specs.declared.engine.Op.TheVariants.{Read, Write, Move, Stash, Release}
use Rattle.engine.specs.declared.engine.Engine.{Engine}
use Rattle.engine.specs.Engine.{begun, end_of, outcome_of_end, reply_of_end, says_again, is_again, anew_by, anew}
use Rattle.engine.specs.OpPart.{op_part, state_of, calls as of_calls, work_of}
use Rattle.engine.specs.Holding.{TurnKeeps}
use Rattle.engine.specs.Laws.{OpenedHolds}
use Rattle.engine.specs.Causes.{Watched, engine_next, CallCauses}
use Rattle.engine.specs.Alone.{IsReply, IsTold, told_reply, told_again, told_to_split, told_stale, told_finished, EndsAreTold, EndsTell, IsNext, along}
use Rattle.engine.specs.Driven.{TurnsGoOn, AttemptsAreShort, EndsBeginAnew}
use Rattle.engine.proofs.machines.Ops.{either_ops}
use Rattle.engine.proofs.machines.Ends.{ReleasesTellAlone}
use Rattle.engine.proofs.attempts.Stepping.{work_named}
use Rattle.engine.proofs.attempts.Seats.{site_there, holds_there, seat_there}
use Rattle.engine.proofs.lonely.Staying.{calls_tell_stale}
use Rattle.engine.proofs.lonely.Stages.{StageLaws, few_left, falls}

pub turns_go_on : CallCauses → StageLaws → OpenedHolds → TurnKeeps → TurnsGoOn
turns_go_on laws stages opens keeps shape words image scripts are turns j e n on =
    let site = site_there opens keeps shape words image scripts are turns in
    let h = holds_there opens keeps shape words image scripts are turns in
    let seated = seat_there opens keeps shape words image scripts are turns laws j n.caller n.call e n.there n.calls n.runs in
    falls stages site n.caller.site n.call (along shape words scripts turns).core.words (fresh_view 0 ∷ h.views) (suc j) seated.before seated.view h.well.holds seated.at e.op seated.suits seated.asks on

pub attempts_are_short : StageLaws → AttemptsAreShort
attempts_are_short stages e = few_left stages e.op

-- ---- behind a split or a repair
-- a machine of a split goes on to none of the call, nor does one of a repair
work_before : (site : Ground) (words : Words) (op : Op) → work_of (next op_part site words op) ≡ of_calls → work_of op ≡ of_calls
work_before site words (Read op) own = refl
work_before site words (Write op) own = refl
work_before site words (Move op) own = refl
work_before site words (Stash op) own = refl
work_before site words (Release op) own = refl
work_before site words op own = absurd (let same = sym (work_named (next either_ops site words (state_of op))) ∙ own in cc)

-- and where it has done its work the call begins anew
call_anew : (here : Site) (call : Call) (o : Option Change) → anew_by here call o (Some finished) ≡ begun here call
call_anew here call None = refl
call_anew here call (Some change) = refl

module _ (alone : ReleasesTellAlone) (site : Ground) (shape : Shape) (w : Watched) (j : ℕ) (e : Engine) (n : IsNext w j e) (beside : work_of e.op ≢ of_calls)
    (same_shape : site.shape ≡ shape) (none : reply_of_end (end_of (engine_next shape w.core.words e)) ≡ None) (calm : is_again (end_of (engine_next shape w.core.words e)) ≡ false) where
  abbrev behind : Engine
  behind = engine_next shape w.core.words e

  no_call : work_of behind.op ≡ of_calls → ⊥
  no_call own = beside (work_before site w.core.words e.op (subst (λ (s : Shape). work_of (engine_next s w.core.words e).op ≡ of_calls) (sym same_shape) own))

  begins_anew : (outcome : Outcome) → op_part.outcome behind.op ≡ Some outcome → outcome_of_end (end_of behind) ≡ Some outcome → IsTold (Some outcome)
      → anew n.caller.site n.call (end_of behind) ≡ begun n.caller.site n.call
  begins_anew outcome tells is (told_reply reply) = absurd (subst IsReply (sym (ap reply_of is) ∙ none) reply)
  begins_anew outcome tells is (told_again why same) = absurd (false≢true (sym calm ∙ ap says_again (is ∙ same)))
  begins_anew outcome tells is (told_to_split segment same) = absurd (no_call (let release = alone segment behind.op (tells ∙ same) in ap work_of release.1))
  begins_anew outcome tells is (told_stale segment byte same) = absurd (no_call (calls_tell_stale segment byte behind.op (tells ∙ same)))
  begins_anew outcome tells is (told_finished same) =
      ap (λ (o : Option Outcome). anew_by n.caller.site n.call (change_of n.call) o) (is ∙ same) ∙ call_anew n.caller.site n.call (change_of n.call)

pub ends_begin_anew : ReleasesTellAlone → EndsAreTold → EndsTell → EndsBeginAnew
ends_begin_anew alone told tell shape words image scripts are turns j e n done beside none calm =
    let end = tell shape words image scripts are turns j e n done in
    begins_anew alone (site_of shape words (length scripts)) shape (along shape words scripts turns) j e n beside refl none calm end.0 end.1 end.2
    (told shape words image scripts are turns j e n end.0 end.1)
