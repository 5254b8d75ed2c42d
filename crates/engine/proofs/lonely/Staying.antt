-- The machine of a caller alone does what is due at the beginning, and its own turns leave it so.
use Rattle.std.proofs.Common.{◌≡◌, ◌≢◌, ℕ, zero, suc, ◌%◌, ◌^◌, Option, None, Some, List, [], ◌∷◌, length, slice_get, slice_set, slice_index, refl, sym, ◌∙◌, ap, subst}
use Rattle.std.proofs.lemmas.Option.{none-some, same_Some}
use Rattle.op_core.specs.declared.want.Want.{Want}
use Rattle.op_core.specs.declared.want.Want.TheVariants as want
use Rattle.trace.specs.Events.{Words}
use Rattle.image_layout.specs.Places.{Shape, state_word}
use Rattle.sound_image.specs.Records.{key_hash}
use Rattle.map_model.specs.declared.call.Call.{Call}
use Rattle.map_model.specs.declared.change.Change.{Change}
use Rattle.map_model.specs.Map.{key_of}
use Rattle.map_model.specs.Changes.{change_of}
use Rattle.map_model.specs.declared.entry.Reply.{Reply}
use Rattle.world.specs.declared.site.Site.{Site}
use Rattle.world.specs.Ground.{version_of}
use Rattle.world.specs.Wants.{words_after}
use Rattle.world.specs.World.{fresh_view}
use Rattle.part.specs.Outcomes.{Outcome, stale, need_split, finished}
use Rattle.part.specs.Room.{HasNoRoom}
use Rattle.restart_op.specs.Restarted.{words_at_end}
use Rattle.enclose_op.specs.declared.op.NotEnclosed.{NotEnclosed}
use Rattle.enclose_op.specs.declared.op.NotEnclosed.TheVariants.{Replied, Again, Room}
use Rattle.enclose_op.specs.declared.op.EncloseStep.{EncloseStep}
use Rattle.enclose_op.specs.declared.op.EncloseStep.TheVariants as enclose
use Rattle.enclose_op.specs.Fits.{outcome_of as enclose_outcome, outcome_at as enclose_outcome_at}
use Rattle.split_op.specs.declared.step.SplitEnd.{SplitEnd}
use Rattle.split_op.specs.declared.step.SplitEnd.TheVariants as split_ends
use Rattle.split_op.specs.declared.step.SplitStep.{SplitStep}
use Rattle.split_op.specs.declared.step.SplitStep.TheVariants as split
use Rattle.split_op.specs.Fits.{outcome_of as split_outcome, outcome_at as split_outcome_at}
use Rattle.directory_op.specs.declared.op.DirectoryEnd.TheVariants.{Off}
use Rattle.directory_op.specs.declared.op.DirectoryStep.{DirectoryStep}
use Rattle.directory_op.specs.declared.op.DirectoryStep.TheVariants as publish
use Rattle.directory_op.specs.DirectoryPart.{outcome_at as directory_outcome_at}
use Rattle.rest_op.specs.declared.op.RestStep.{RestStep}
use Rattle.rest_op.specs.declared.op.RestStep.TheVariants as rest
use Rattle.rest_op.specs.RestPart.{outcome_at as rest_outcome_at}
use Rattle.repair_op.specs.declared.step.RepairEnd.{RepairEnd}
use Rattle.repair_op.specs.declared.step.RepairEnd.TheVariants as repair_ends
use Rattle.repair_op.specs.declared.step.RepairStep.{RepairStep}
use Rattle.repair_op.specs.declared.step.RepairStep.TheVariants as repair
use Rattle.repair_op.specs.RepairPart.{outcome_of as repair_outcome_of, outcome_at as repair_outcome_at}
use Rattle.redirect_op.specs.declared.step.RedirectEnd.{RedirectEnd}
use Rattle.redirect_op.specs.declared.step.RedirectEnd.TheVariants as redirect_ends
use Rattle.redirect_op.specs.declared.step.RedirectStep.{RedirectStep}
use Rattle.redirect_op.specs.declared.step.RedirectStep.TheVariants as redirect
use Rattle.redirect_op.specs.Ends.{outcome_of as redirect_outcome_of, outcome_at as redirect_outcome_at}
use Rattle.mend_op.specs.declared.op.MendStep.{MendStep}
use Rattle.mend_op.specs.declared.op.MendStep.TheVariants as mend
use Rattle.mend_op.specs.MendPart.{outcome_at as mend_outcome_at}
use Rattle.engine.specs.declared.engine.Op.{Op}
use Rattle.engine.specs.declared.engine.Op.TheVariants.{Read, Write, Move, Stash, Release, Enclose, Split, Publish, Rest, Repair, Redirect, Mend}
use Rattle.engine.specs.declared.engine.Engine.{Engine}
use Rattle.engine.specs.Engine.{op_by, begun, wanted, end_of, outcome_of_end, reply_of_end, anew_by, anew}
use Rattle.engine.specs.OpPart.{op_part, calls as of_calls, work_of}
use Rattle.engine.specs.Core.{Caller, call_at, current, engine_for, idle, callers_from, drawn_by, ended, ended_or_on, answered, turn_of_call, turn_of_caller, turn}
use Rattle.engine.specs.Holding.{CoreHolds, TurnKeeps}
use Rattle.engine.specs.Laws.{IsServedImage, OpenedHolds, AreScripts}
use Rattle.engine.specs.Causes.{Watched, answer_now, engine_next, EndsAreDecided, CallCauses}
use Rattle.engine.specs.Alone.{IsStaleIn, TellsStale, IsDue, StandsDue, DueAtStart}
use Rattle.engine.specs.Driven.{OwnTurnsStayDue, BegunIsDue}
use Rattle.engine.proofs.machines.Ends.{ReleasesTellAlone}
use Rattle.engine.proofs.attempts.Doing.{set_there}
use Rattle.engine.proofs.attempts.Seats.{IsSeated, seat_stands, site_there, there, holds_there, seat_there}
use Rattle.engine.proofs.lonely.counts.Stale.{StaleLaws, version_now, seat_stays}
use Rattle.engine.proofs.lonely.Due.{RoomLaws, due_on}

-- ---- what a machine of the call itself tells
pub call_tells : (shape : Shape) (words : Words) (call : Call) (op : Op) → work_of op ≡ of_calls → IsDue shape words call op → TellsStale shape words op
call_tells shape words call (Read op) own due = due
call_tells shape words call (Write op) own due = due
call_tells shape words call (Move op) own due = due
call_tells shape words call (Stash op) own due = due
call_tells shape words call (Release op) own due = due.0
call_tells shape words call (Enclose op) own due = absurd (cc)
call_tells shape words call (Split op) own due = absurd (cc)
call_tells shape words call (Publish op) own due = absurd (cc)
call_tells shape words call (Rest op) own due = absurd (cc)
call_tells shape words call (Repair op) own due = absurd (cc)
call_tells shape words call (Redirect op) own due = absurd (cc)
call_tells shape words call (Mend op) own due = absurd (cc)

-- none but such a machine tells that a segment is stale
module _ (segment byte : ℕ) where
  not_enclosed : (end : NotEnclosed) → Some (enclose_outcome end) ≢ Some (stale segment byte)
  not_enclosed (Replied reply place) some = cc
  not_enclosed (Again why) some = cc
  not_enclosed Room some = cc

  enclose_stale : (s : EncloseStep) → enclose_outcome_at s ≢ Some (stale segment byte)
  enclose_stale (enclose.Give give end) some = not_enclosed end some
  enclose_stale (enclose.Ended end) some = not_enclosed end some
  enclose_stale s some = none-some (stale segment byte) some

  made_stale : (end : SplitEnd) → split_outcome end ≢ Some (stale segment byte)
  made_stale split_ends.Copied some = none-some (stale segment byte) some
  made_stale (split_ends.Again why) some = cc
  made_stale (split_ends.Full count) some = cc

  split_stale : (s : SplitStep) → split_outcome_at s ≢ Some (stale segment byte)
  split_stale (split.Return count) some = cc
  split_stale (split.Back give end) some = made_stale end some
  split_stale (split.Ended end) some = made_stale end some
  split_stale s some = none-some (stale segment byte) some

  publish_stale : (s : DirectoryStep) → directory_outcome_at s ≢ Some (stale segment byte)
  publish_stale (publish.Ended Off) some = cc
  publish_stale s some = none-some (stale segment byte) some

  rest_stale : (s : RestStep) → rest_outcome_at s ≢ Some (stale segment byte)
  rest_stale rest.Ended some = cc
  rest_stale s some = none-some (stale segment byte) some

  guard_stale : (end : RepairEnd) → repair_outcome_of end ≢ Some (stale segment byte)
  guard_stale repair_ends.Current some = cc
  guard_stale (repair_ends.Again why) some = cc
  guard_stale repair_ends.Guarded some = none-some (stale segment byte) some

  repair_stale : (s : RepairStep) → repair_outcome_at s ≢ Some (stale segment byte)
  repair_stale (repair.Give end) some = guard_stale end some
  repair_stale (repair.Ended end) some = guard_stale end some
  repair_stale s some = none-some (stale segment byte) some

  directed_stale : (end : RedirectEnd) → redirect_outcome_of end ≢ Some (stale segment byte)
  directed_stale (redirect_ends.Again why) some = cc
  directed_stale redirect_ends.Guarded some = none-some (stale segment byte) some

  redirect_stale : (s : RedirectStep) → redirect_outcome_at s ≢ Some (stale segment byte)
  redirect_stale (redirect.Give end) some = directed_stale end some
  redirect_stale (redirect.Ended end) some = directed_stale end some
  redirect_stale s some = none-some (stale segment byte) some

  mend_stale : (s : MendStep) → mend_outcome_at s ≢ Some (stale segment byte)
  mend_stale mend.Ended some = cc
  mend_stale s some = none-some (stale segment byte) some

pub calls_tell_stale : (segment byte : ℕ) (op : Op) → op_part.outcome op ≡ Some (stale segment byte) → work_of op ≡ of_calls
calls_tell_stale segment byte (Read op) some = refl
calls_tell_stale segment byte (Write op) some = refl
calls_tell_stale segment byte (Move op) some = refl
calls_tell_stale segment byte (Stash op) some = refl
calls_tell_stale segment byte (Release op) some = refl
calls_tell_stale segment byte (Enclose op) some = absurd (enclose_stale segment byte op.step some)
calls_tell_stale segment byte (Split op) some = absurd (split_stale segment byte op.step some)
calls_tell_stale segment byte (Publish op) some = absurd (publish_stale segment byte op.step some)
calls_tell_stale segment byte (Rest op) some = absurd (rest_stale segment byte op.step some)
calls_tell_stale segment byte (Repair op) some = absurd (repair_stale segment byte op.step some)
calls_tell_stale segment byte (Redirect op) some = absurd (redirect_stale segment byte op.step some)
calls_tell_stale segment byte (Mend op) some = absurd (mend_stale segment byte op.step some)

-- ---- an attempt that has done nothing
module _ (shape : Shape) (words : Words) (call : Call) where
  by_due : (here : Site) (key : ℕ) (change : Option Change) → IsDue shape words call (op_by here key change)
  by_due here key (Some change) = λ segment byte some. absurd (none-some (stale segment byte) some)
  by_due here key None = λ segment byte some. absurd (none-some (stale segment byte) some)

  begun_due : (here : Site) (other : Call) → IsDue shape words call (begun here other).op
  begun_due here other = by_due here (key_of other) (change_of other)

  for_due : (here : Site) (o : Option Call) (e : Engine) → engine_for here o ≡ Some e → IsDue shape words call e.op
  for_due here None e is = absurd (none-some e is)
  for_due here (Some other) e is = subst (λ (z : Engine). IsDue shape words call z.op) (same_Some (begun here other) e is) (begun_due here other)

  -- the next attempt of the call, where there is no room in a segment that is to be split, and one that is to be repaired is stale
  pub record TellsDue (outcome : Option Outcome) : Type 0 where
    pub full : (segment : ℕ) → outcome ≡ Some (need_split segment) → HasNoRoom shape words segment (key_hash shape (key_of call))
    pub old : (segment byte : ℕ) → outcome ≡ Some (stale segment byte) → IsStaleIn shape words segment

  anew_due : (here : Site) (change : Option Change) (outcome : Option Outcome) → TellsDue outcome → IsDue shape words call (anew_by here call change outcome).op
  anew_due here (Some change) (Some (need_split segment)) tells = (tells.full segment refl, λ some. none-some finished some)
  anew_due here (Some change) (Some (stale segment byte)) tells = (tells.old segment byte refl, λ some. none-some finished some)
  anew_due here None (Some (stale segment byte)) tells = (tells.old segment byte refl, λ some. none-some finished some)
  anew_due here None outcome tells = begun_due here call
  anew_due here (Some change) outcome tells = begun_due here call

  started_due : (version number : ℕ) (scripts : List (List Call)) (j : ℕ) (c : Caller) (e : Engine) → slice_get (callers_from shape version number scripts) j ≡ Some c → c.engine ≡ Some e
      → IsDue shape words call e.op
  started_due version number [] j c e at runs = absurd (none-some c at)
  started_due version number (calls ∷ scripts) zero c e at runs =
      let here : Site = record { geometry = shape; version = version; caller = number } in
      for_due here (slice_get calls 0) e (ap (λ (z : Caller). z.engine) (same_Some (idle here calls) c at) ∙ runs)
  started_due version number (calls ∷ scripts) (suc j) c e at runs = started_due version (suc number) scripts j c e at runs

pub due_at_start : DueAtStart
due_at_start shape words scripts j c call e at calls runs = started_due shape (words_at_end shape words) call (words_at_end shape words state_word) 1 scripts j c e at runs

-- ---- a caller that goes on, or whose attempt has ended
module _ (shape : Shape) (words : Words) (c : Caller) (call : Call) (next : Engine) (is : current c ≡ Some call) (here : IsDue shape words call next.op)
    (none : wanted next ≡ want.Done → TellsDue shape words call (outcome_of_end (end_of next))) where
  -- the machine of the caller
  abbrev EachDue : Caller → Type 0
  EachDue d = (other : Call) (e : Engine) → current d ≡ Some other → d.engine ≡ Some e → IsDue shape words other e.op

  same_call : (other : Call) → current c ≡ Some other → call ≡ other
  same_call other now = same_Some call other (sym is ∙ now)

  ended_due : TellsDue shape words call (outcome_of_end (end_of next)) → (o : Option (Reply × ℕ)) → EachDue (ended c call (end_of next) o)
  ended_due room None other e now runs =
      subst (λ (z : Engine). IsDue shape words other z.op) (same_Some (anew c.site call (end_of next)) e runs)
      (subst (λ x. IsDue shape words x (anew c.site call (end_of next)).op) (same_call other now)
      (anew_due shape words call c.site (change_of call) (outcome_of_end (end_of next)) room))
  ended_due room (Some r) other e now runs = for_due shape words other c.site (call_at c (suc (length c.entries))) e runs

  goes_due : (asked : Want) → wanted next ≡ asked → EachDue (ended_or_on c call next asked)
  goes_due want.Done done other e now runs = ended_due (none done) (reply_of_end (end_of next)) other e now runs
  goes_due asked more other e now runs =
      subst (λ (z : Engine). IsDue shape words other z.op) (same_Some next e runs) (subst (λ x. IsDue shape words x next.op) (same_call other now) here)

-- what is used beside
pub record DueLaws : Type 0 where
  pub causes : CallCauses
  pub rooms : RoomLaws
  pub stale : StaleLaws
  pub alone : ReleasesTellAlone
  pub says : EndsAreDecided

-- ---- after any turns, an own turn
module _ (laws : DueLaws) (opens : OpenedHolds) (keeps : TurnKeeps) (shape : Shape) (words : List ℕ) (image : IsServedImage shape words)
    (scripts : List (List Call)) (are : AreScripts scripts) (turns : List ℕ) (j : ℕ) (stands : StandsDue shape j (there opens keeps shape words image scripts are turns)) where
  abbrev w : Watched
  w = there opens keeps shape words image scripts are turns

  abbrev h : CoreHolds (site_there opens keeps shape words image scripts are turns) (slice_index words) w.core
  h = holds_there opens keeps shape words image scripts are turns

  -- the event of its engine
  module _ (c : Caller) (at : slice_get w.core.callers j ≡ Some c) (call : Call) (e : Engine) (calls : current c ≡ Some call) (runs : c.engine ≡ Some e) where
    abbrev seated : IsSeated (site_there opens keeps shape words image scripts are turns) w.core.words (fresh_view 0 ∷ h.views) (suc j) c.site call e (w.doings j)
    seated = seat_there opens keeps shape words image scripts are turns laws.causes j c call e at calls runs

    abbrev later : Words
    later = words_after shape (wanted e) (suc j) w.core.words

    abbrev next : Engine
    next = engine_next shape w.core.words e

    later_is : (turn shape (suc j) w.core).words ≡ later
    later_is =
        ap (λ o. (turn_of_caller shape j w.core o).words) at ∙ ap (λ o. (turn_of_call shape j w.core c o c.engine).words) calls ∙ ap (λ o. (turn_of_call shape j w.core c (Some call) o).words) runs

    -- the version of the image is the same behind it
    pub same_version : later state_word % 2 ^ 8 ≡ version_of (site_there opens keeps shape words image scripts are turns)
    same_version =
        let h2 = keeps (site_there opens keeps shape words image scripts are turns) (slice_index words) w.core (suc j) h in
        subst (λ (ws : Words). ws state_word % 2 ^ 8 ≡ version_of (site_there opens keeps shape words image scripts are turns)) later_is
        (version_now (site_there opens keeps shape words image scripts are turns) _ _ h2.well.holds)

    pub next_due : IsDue shape later call next.op
    next_due =
        due_on laws.causes laws.rooms (site_there opens keeps shape words image scripts are turns) c.site call w.core.words (fresh_view 0 ∷ h.views) (suc j) seated.before seated.view h.well.holds
        seated.at (w.doings j) (suc j) seated.version e.op seated.suits seated.asks seated.small seated.remembers
        (seat_stays laws.causes laws.stale (site_there opens keeps shape words image scripts are turns) w.core.words (fresh_view 0 ∷ h.views) h.well.holds (suc j) c.site call e (w.doings j) seated same_version)
        (stands c call e at calls runs)

    pub next_tells : wanted next ≡ want.Done → op_part.outcome next.op ≡ outcome_of_end (end_of next)
    next_tells done =
        laws.says (site_there opens keeps shape words image scripts are turns) c.site call next _
        (seat_stands laws.causes.part (site_there opens keeps shape words image scripts are turns) w.core.words (fresh_view 0 ∷ h.views) h.well.holds (suc j) c.site call e (w.doings j) seated) done

    next_none : wanted next ≡ want.Done → TellsDue shape later call (outcome_of_end (end_of next))
    next_none done = record {
      full = λ segment is.
          let told : op_part.outcome next.op ≡ Some (need_split segment) = next_tells done ∙ is in
          let release = laws.alone segment next.op told in
          (subst (IsDue shape later call) release.1 next_due).1 segment (subst (λ op. op_part.outcome op ≡ Some (need_split segment)) release.1 told);
      old = λ segment byte is.
          let told : op_part.outcome next.op ≡ Some (stale segment byte) = next_tells done ∙ is in
          call_tells shape later call next.op (calls_tell_stale segment byte next.op told) next_due segment byte told;
    }

    -- its caller behind it
    abbrev drawn : Caller
    drawn = record c { drew = drawn_by c call (answer_now shape w.core.words e) }

    event_due : (d : Caller) (other : Call) (x : Engine) → slice_get (slice_set w.core.callers j (answered c call e (answer_now shape w.core.words e))) j ≡ Some d → current d ≡ Some other → d.engine ≡ Some x
        → IsDue shape later other x.op
    event_due d other x seat now run =
        let same : answered c call e (answer_now shape w.core.words e) ≡ d = set_there w.core.callers j (answered c call e (answer_now shape w.core.words e)) d c at seat in
        goes_due shape later drawn call next calls next_due next_none (wanted next) refl other x (ap current same ∙ now) (ap (λ (z : Caller). z.engine) same ∙ run)

  by_call : (c : Caller) → slice_get w.core.callers j ≡ Some c → (call : Option Call) (engine : Option Engine) → current c ≡ call → c.engine ≡ engine
      → (d : Caller) (other : Call) (x : Engine) → slice_get (turn_of_call shape j w.core c call engine).callers j ≡ Some d → current d ≡ Some other → d.engine ≡ Some x
      → IsDue shape (turn_of_call shape j w.core c call engine).words other x.op
  by_call c at None engine calls runs d other x seat now run = stands d other x seat now run
  by_call c at (Some call) None calls runs d other x seat now run = stands d other x seat now run
  by_call c at (Some call) (Some e) calls runs d other x seat now run = event_due c at call e calls runs d other x seat now run

  turn_due : (o : Option Caller) → slice_get w.core.callers j ≡ o → (d : Caller) (other : Call) (x : Engine) → slice_get (turn_of_caller shape j w.core o).callers j ≡ Some d
      → current d ≡ Some other → d.engine ≡ Some x → IsDue shape (turn_of_caller shape j w.core o).words other x.op
  turn_due None at d other x seat now run = stands d other x seat now run
  turn_due (Some c) at d other x seat now run = by_call c at (current c) c.engine refl refl d other x seat now run

pub begun_is_due : BegunIsDue
begun_is_due shape words here call = begun_due shape words call here call

pub own_turns_stay_due : DueLaws → OpenedHolds → TurnKeeps → OwnTurnsStayDue
own_turns_stay_due laws opens keeps shape words image scripts are turns j stands d other x seat now run =
    turn_due laws opens keeps shape words image scripts are turns j stands (slice_get (there opens keeps shape words image scripts are turns).core.callers j) refl d other x seat now run
