-- EACH OWN TURN of a caller that does not wait leaves fewer events of its call: of the same attempt, or of the next one of the call where the attempt ends
-- without a reply, and not in Again.
use Rattle.std.proofs.Common.{◌≡◌, ℕ, zero, suc, ◌+◌, ◌*◌, ◌%◌, ◌^◌, ◌<◌, ◌≤◌, inl, inr, Bool, true, false, Option, None, Some, List, ◌∷◌, slice_index, refl, sym, ◌∙◌, ap, subst, arith}
use Rattle.std.specs.Prelude.{◌==◌, ◌&&◌, if◌then◌else◌}
use Rattle.std.proofs.Math.Nat.{mul-le-mul_right, add-mul}
use Rattle.std.proofs.lemmas.Bool.{cases_Bool, false≢true}
use Rattle.std.proofs.lemmas.Option.{none-some, same_Some}
use Rattle.op_core.specs.declared.want.Want.TheVariants as want
use Rattle.op_core.specs.declared.why.Why.{Why}
use Rattle.trace.specs.Events.{Words}
use Rattle.segment_head.specs.HeadWord.{state_in, free}
use Rattle.image_layout.specs.Places.{Shape, state_word}
use Rattle.map_model.specs.declared.call.Call.{Call}
use Rattle.map_model.specs.declared.change.Change.{Change}
use Rattle.map_model.specs.Map.{key_of}
use Rattle.map_model.specs.Changes.{change_of}
use Rattle.world.specs.declared.site.Site.{Site}
use Rattle.world.specs.Ground.{Ground, version_of}
use Rattle.world.specs.Wants.{words_after}
use Rattle.world.specs.World.{fresh_view}
use Rattle.world.specs.StepKinds.{of_structure}
use Rattle.world.specs.areas.Areas.{header_word}
use Rattle.world.specs.areas.Rows.{news, frees, renews}
use Rattle.world.specs.areas.Kinds.{moves}
use Rattle.world.specs.Slots.{NewSlotsWereFree, FreedByRepairs}
use Rattle.part.specs.Outcomes.{Outcome, again, stale, need_split, finished, reply_of}
use Rattle.part.specs.Part.{finds, next_view}
use Rattle.release_op.specs.Split.{LeavesThere}
use Rattle.engine.specs.declared.engine.Op.{Op}
use Rattle.split_op.specs.SplitPart.{is_new_slot}
use Rattle.engine.specs.declared.engine.Op.TheVariants.{Read, Write, Move, Stash, Release, Enclose, Split, Publish, Rest, Repair, Redirect, Mend}
use Rattle.engine.specs.declared.engine.Engine.{Engine}
use Rattle.engine.specs.Engine.{op_by, wanted, end_of, outcome_of_end, reply_of_end, says_again, is_again, IsFresh, anew_by, anew}
use Rattle.engine.specs.OpPart.{op_part, calls as of_calls, work_of}
use Rattle.engine.specs.Core.{Caller, current}
use Rattle.engine.specs.Holding.{CoreHolds, TurnKeeps}
use Rattle.engine.specs.Laws.{IsServedImage, OpenedHolds, AreScripts}
use Rattle.engine.specs.Causes.{Watched, engine_next, watched_turn}
use Rattle.engine.specs.Left.{left_alone, most_alone, free_below, free_slots, is_stale, stale_below, stale_segments, has_freed, is_renewed, stage, attempts_left, events_left}
use Rattle.engine.specs.Alone.{IsTold, told_reply, told_again, told_to_split, told_stale, told_finished, IsReply, IsBetween, IsAlone, along, StandsDue, IsNext, LeavesFewer, EventsAreFew, AloneLeavesFewer, AloneNeverAgain, EndsAreTold, EndsTell}
use Rattle.engine.specs.Driven.{tries_now, waits_now, IsHeldByOther, TriesAreOthers, OwnTurnsLeaveFewer}
use Rattle.engine.proofs.attempts.Seats.{IsSeated, seat_stands, site_there, there, holds_there, seat_there}
use Rattle.engine.proofs.lonely.Lonely.{turn_is}
use Rattle.engine.proofs.lonely.counts.Slots.{seat_falls, seat_frees, seat_takes}
use Rattle.engine.proofs.lonely.counts.Stale.{seat_stale, seat_renews}
use Rattle.engine.proofs.lonely.Staying.{DueLaws, calls_tell_stale, next_due}
use Rattle.engine.proofs.lonely.Staying as staying
use Rattle.engine.proofs.lonely.Stages.{StageLaws, few_left, Comes, no_further, by_a_slot, by_freeing, by_renewing, comes, falls, works}

-- ---- numbers
less_by_left : (a b m x y : ℕ) → a ≤ b → x < y → a * m + x < b * m + y
less_by_left a b m x y low less = let more = mul-le-mul_right m low in omega (arith, more, less)

less_by_attempts : (a b m x y : ℕ) → a + 1 ≤ b → x < m → a * m + x < b * m + y
less_by_attempts a b m x y low less =
    let more = mul-le-mul_right m low in
    let whole : (a + 1) * m ≡ a * m + 1 * m = add-mul a 1 m in
    omega (arith, more, whole, less)

few_below : (shape : Shape) (words : Words) (n : ℕ) → free_below shape words n ≤ n
few_below shape words zero = omega arith
few_below shape words (suc n) =
    let rest = few_below shape words n in
    let one = at_most (state_in (words (header_word shape n)) == free) in
    omega (arith, rest, one)
  where
    at_most : (t : Bool) → (if t then 1 else 0) ≤ 1
    at_most true = omega arith
    at_most false = omega arith

stale_few : (shape : Shape) (words : Words) (n : ℕ) → stale_below shape words n ≤ n
stale_few shape words zero = omega arith
stale_few shape words (suc n) =
    let rest = stale_few shape words n in
    let one = at_most (is_stale words (words (header_word shape n))) in
    omega (arith, rest, one)
  where
    at_most : (t : Bool) → (if t then 1 else 0) ≤ 1
    at_most true = omega arith
    at_most false = omega arith

side_most : (t : Bool) → (if t then 4 else 2) ≤ 4
side_most true = omega arith
side_most false = omega arith

guard_most : (t : Bool) → (if t then 0 else 2) ≤ 4
guard_most true = omega arith
guard_most false = omega arith

mend_most : (t : Bool) → (if t then 4 else 0) ≤ 4
mend_most true = omega arith
mend_most false = omega arith

stage_most : (op : Op) → stage op ≤ 4
stage_most (Split op) = side_most (is_new_slot op)
stage_most (Repair op) = guard_most (has_freed op.step)
stage_most (Mend op) = mend_most (is_renewed op.step)
stage_most (Redirect op) = omega arith
stage_most (Enclose op) = omega arith
stage_most (Publish op) = omega arith
stage_most (Rest op) = omega arith
stage_most op = omega arith

-- NO ENGINE has more events left than a call has
pub events_are_few : StageLaws → EventsAreFew
events_are_few laws shape words e =
    let slots = few_below shape words shape.segments in
    let old = stale_few shape words shape.segments in
    let stages = stage_most e.op in
    let low = few_left laws e.op in
    let less = less_by_attempts (attempts_left shape words e) (6 * shape.segments + 5) (most_alone + 1) (left_alone e) 0 (omega (arith, slots, old, stages)) (omega (arith, low)) in
    omega (arith, less)

-- ---- the next attempt of a call
begun_stage : (here : Site) (key : ℕ) (change : Option Change) → stage (op_by here key change) ≡ 3
begun_stage here key (Some change) = refl
begun_stage here key None = refl

-- that which splits a segment, for a change
split_anew : (here : Site) (call : Call) (change : Change) (o : Option Change) (segment : ℕ) → o ≡ Some change → stage (anew_by here call o (Some (need_split segment))).op ≡ 2
split_anew here call change None segment is = absurd (none-some change is)
split_anew here call change (Some given) segment is = refl

-- that which repairs one
repair_anew : (here : Site) (call : Call) (o : Option Change) (segment byte : ℕ) → stage (anew_by here call o (Some (stale segment byte))).op ≡ 2
repair_anew here call None segment byte = refl
repair_anew here call (Some change) segment byte = refl

-- a machine of the call itself
own_stage : (op : Op) → work_of op ≡ of_calls → stage op ≡ 3
own_stage (Read op) own = refl
own_stage (Write op) own = refl
own_stage (Move op) own = refl
own_stage (Stash op) own = refl
own_stage (Release op) own = refl
own_stage (Enclose op) own = absurd (cc)
own_stage (Split op) own = absurd (cc)
own_stage (Publish op) own = absurd (cc)
own_stage (Rest op) own = absurd (cc)
own_stage (Repair op) own = absurd (cc)
own_stage (Redirect op) own = absurd (cc)
own_stage (Mend op) own = absurd (cc)

-- that of the call, begun anew
call_anew : (here : Site) (call : Call) (o : Option Change) → stage (anew_by here call o (Some finished)).op ≡ 3
call_anew here call None = begun_stage here (key_of call) (change_of call)
call_anew here call (Some change) = begun_stage here (key_of call) (change_of call)

-- what is used beside
pub record FewerLaws : Type 0 where
  pub due : DueLaws
  pub stages : StageLaws
  pub leaves : LeavesThere
  pub freed : FreedByRepairs
  pub new : NewSlotsWereFree
  pub told : EndsAreTold
  pub tell : EndsTell

-- ---- after any turns, an own turn
module _ (laws : FewerLaws) (opens : OpenedHolds) (keeps : TurnKeeps) (shape : Shape) (words : List ℕ) (image : IsServedImage shape words)
    (scripts : List (List Call)) (are : AreScripts scripts) (turns : List ℕ) (j : ℕ) (e : Engine)
    (stands : StandsDue shape j (there opens keeps shape words image scripts are turns)) (n : IsNext (there opens keeps shape words image scripts are turns) j e) where
  abbrev site : Ground
  site = site_there opens keeps shape words image scripts are turns

  abbrev w : Watched
  w = there opens keeps shape words image scripts are turns

  abbrev h : CoreHolds site (slice_index words) w.core
  h = holds_there opens keeps shape words image scripts are turns

  abbrev here : Site
  here = n.caller.site

  abbrev seated : IsSeated site w.core.words (fresh_view 0 ∷ h.views) (suc j) here n.call e (w.doings j)
  seated = seat_there opens keeps shape words image scripts are turns laws.due.causes j n.caller n.call e n.there n.calls n.runs

  abbrev later : Words
  later = words_after shape (wanted e) (suc j) w.core.words

  abbrev next : Engine
  next = engine_next shape w.core.words e

  -- its turn leaves these words
  later_is : (watched_turn shape (suc j) w).core.words ≡ later
  later_is = ap (λ (x : Watched). x.core.words) (turn_is shape w j e n)

  same_version : later state_word % 2 ^ 8 ≡ version_of site
  same_version = staying.same_version laws.due opens keeps shape words image scripts are turns j stands n.caller n.there n.call e n.calls n.runs

  stale_falls : stale_segments shape later ≤ stale_segments shape w.core.words
  stale_falls = seat_stale laws.due.causes laws.due.stale site w.core.words (fresh_view 0 ∷ h.views) h.well.holds (suc j) here n.call e (w.doings j) seated same_version

  -- what its event does
  came : Comes laws.stages site here n.call w.core.words (fresh_view 0 ∷ h.views) (suc j) seated.before seated.view h.well.holds seated.at e.op
  came = comes laws.stages site here n.call w.core.words (fresh_view 0 ∷ h.views) (suc j) seated.before seated.view h.well.holds seated.at e.op seated.suits seated.asks

  slots_fall : ((parent s x : ℕ) → op_part.kind e.op (finds op_part site w.core.words e.op) ≡ of_structure (moves (frees parent) s x) → ⊥) → free_slots shape later ≤ free_slots shape w.core.words
  slots_fall none = seat_falls laws.due.causes laws.freed site w.core.words (fresh_view 0 ∷ h.views) h.well.holds (suc j) here n.call e (w.doings j) seated none

  slots_taken : (parent slot head : ℕ) → op_part.kind e.op (finds op_part site w.core.words e.op) ≡ of_structure (moves (news parent) slot head)
      → suc (free_slots shape later) ≤ free_slots shape w.core.words
  slots_taken = seat_takes laws.due.causes laws.freed site w.core.words (fresh_view 0 ∷ h.views) h.well.holds (suc j) here n.call e (w.doings j) seated laws.new

  slots_freed : (parent slot head : ℕ) → op_part.kind e.op (finds op_part site w.core.words e.op) ≡ of_structure (moves (frees parent) slot head)
      → free_slots shape later ≤ free_slots shape w.core.words + 1
  slots_freed = seat_frees laws.due.causes laws.freed site w.core.words (fresh_view 0 ∷ h.views) h.well.holds (suc j) here n.call e (w.doings j) seated

  one_renewed : (segment head : ℕ) → op_part.kind e.op (finds op_part site w.core.words e.op) ≡ of_structure (moves renews segment head)
      → suc (stale_segments shape later) ≤ stale_segments shape w.core.words
  one_renewed = seat_renews laws.due.causes laws.due.stale site w.core.words (fresh_view 0 ∷ h.views) h.well.holds (suc j) here n.call e (w.doings j) seated same_version

  renews_frees_none : (segment head : ℕ) → op_part.kind e.op (finds op_part site w.core.words e.op) ≡ of_structure (moves renews segment head)
      → (parent s x : ℕ) → op_part.kind e.op (finds op_part site w.core.words e.op) ≡ of_structure (moves (frees parent) s x) → ⊥
  renews_frees_none segment head is parent s x other = (let both = sym is ∙ other in cc)

  attempts_fall : attempts_left shape later next ≤ attempts_left shape w.core.words e
  attempts_fall = elim came [
    | no_further none low ↦ (let slots = slots_fall none in let old = stale_falls in omega (arith, low, slots, old))
    | by_a_slot slot low ↦ (let slots = slots_taken slot.0 slot.1 slot.2 slot.3 in let old = stale_falls in omega (arith, low, slots, old))
    | by_freeing slot none two ↦ (let slots = slots_freed slot.0 slot.1 slot.2 slot.3 in let old = stale_falls in omega (arith, none, two, slots, old))
    | by_renewing one most none ↦
        let slots = slots_fall (renews_frees_none one.0 one.1 one.2) in
        let old = one_renewed one.0 one.1 one.2 in
        omega (arith, most, none, slots, old)
  ]

  left_falls : waits_now shape w.core.words e ≡ false → left_alone next < left_alone e
  left_falls on = falls laws.stages site here n.call w.core.words (fresh_view 0 ∷ h.views) (suc j) seated.before seated.view h.well.holds seated.at e.op seated.suits seated.asks on

  goes_on : waits_now shape w.core.words e ≡ false → events_left shape later next < events_left shape w.core.words e
  goes_on on = less_by_left (attempts_left shape later next) (attempts_left shape w.core.words e) (most_alone + 1) (left_alone next) (left_alone e) attempts_fall (left_falls on)

  -- ---- the next attempt
  abbrev fresh : Engine
  fresh = anew here n.call (end_of next)

  fewer_attempts : attempts_left shape later fresh + 1 ≤ attempts_left shape w.core.words e → events_left shape later fresh < events_left shape w.core.words e
  fewer_attempts low =
      less_by_attempts (attempts_left shape later fresh) (attempts_left shape w.core.words e) (most_alone + 1) (left_alone fresh) (left_alone e) low
      (let few = few_left laws.stages fresh.op in omega (arith, few))

  stage_of : (outcome : Outcome) → outcome_of_end (end_of next) ≡ Some outcome → stage fresh.op ≡ stage (anew_by here n.call (change_of n.call) (Some outcome)).op
  stage_of outcome is = ap (λ (o : Option Outcome). stage (anew_by here n.call (change_of n.call) o).op) is

  splits_anew : (segment : ℕ) → op_part.outcome next.op ≡ Some (need_split segment) → outcome_of_end (end_of next) ≡ Some (need_split segment)
      → attempts_left shape later fresh + 1 ≤ attempts_left shape w.core.words e
  splits_anew segment told is =
      let release = laws.due.alone segment next.op told in
      let view = next_view op_part site w.core.words e.op seated.view in
      let stood = seat_stands laws.due.causes.part site w.core.words (fresh_view 0 ∷ h.views) h.well.holds (suc j) here n.call e (w.doings j) seated in
      let left = laws.leaves site here n.call release.0 view (subst (λ op. op_part.Stands site here n.call op view) release.1 stood) segment
      (subst (λ op. op_part.outcome op ≡ Some (need_split segment)) release.1 told) in
      let after = stage_of (need_split segment) is ∙ split_anew here n.call release.0.kept.change (change_of n.call) segment left.change in
      let now = ap stage release.1 in
      let fall = attempts_fall in
      omega (arith, after, now, fall)

  works_anew : op_part.outcome next.op ≡ Some finished → outcome_of_end (end_of next) ≡ Some finished → attempts_left shape later fresh + 1 ≤ attempts_left shape w.core.words e
  works_anew told is =
      let due = next_due laws.due opens keeps shape words image scripts are turns j stands n.caller n.there n.call e n.calls n.runs in
      let now = works laws.stages site here n.call w.core.words (fresh_view 0 ∷ h.views) (suc j) seated.before seated.view h.well.holds seated.at later e.op due told in
      let after = stage_of finished is ∙ call_anew here n.call (change_of n.call) in
      let old = stale_falls in
      elim came [
        | no_further none low ↦ (let slots = slots_fall none in omega (arith, now, after, slots, old))
        | by_a_slot slot low ↦ (let slots = slots_taken slot.0 slot.1 slot.2 slot.3 in omega (arith, now, after, slots, old))
        | by_freeing slot none two ↦ absurd (omega (arith, now, two))
        | by_renewing one most none ↦ absurd (omega (arith, now, none))
      ]

  stale_anew : (segment byte : ℕ) → op_part.outcome next.op ≡ Some (stale segment byte) → outcome_of_end (end_of next) ≡ Some (stale segment byte)
      → attempts_left shape later fresh + 1 ≤ attempts_left shape w.core.words e
  stale_anew segment byte told is =
      let now = own_stage next.op (calls_tell_stale segment byte next.op told) in
      let after = stage_of (stale segment byte) is ∙ repair_anew here n.call (change_of n.call) segment byte in
      let fall = attempts_fall in
      omega (arith, now, after, fall)

  by_outcome : (outcome : Outcome) → op_part.outcome next.op ≡ Some outcome → outcome_of_end (end_of next) ≡ Some outcome → reply_of_end (end_of next) ≡ None → is_again (end_of next) ≡ false
      → IsTold (Some outcome) → attempts_left shape later fresh + 1 ≤ attempts_left shape w.core.words e
  by_outcome outcome told is none calm (told_reply reply) = absurd (subst IsReply (sym (ap reply_of is) ∙ none) reply)
  by_outcome outcome told is none calm (told_again why same) = absurd (false≢true (sym calm ∙ ap says_again (is ∙ same)))
  by_outcome outcome told is none calm (told_to_split segment same) = splits_anew segment (told ∙ same) (is ∙ same)
  by_outcome outcome told is none calm (told_stale segment byte same) = stale_anew segment byte (told ∙ same) (is ∙ same)
  by_outcome outcome told is none calm (told_finished same) = works_anew (told ∙ same) (is ∙ same)

  begins_anew : wanted next ≡ want.Done → reply_of_end (end_of next) ≡ None → is_again (end_of next) ≡ false → events_left shape later fresh < events_left shape w.core.words e
  begins_anew done none calm =
      let end = laws.tell shape words image scripts are turns j e n done in
      fewer_attempts (by_outcome end.0 end.1 end.2 none calm (laws.told shape words image scripts are turns j e n end.0 end.1))

  fewer : waits_now shape w.core.words e ≡ false → (wanted next ≡ want.Done → is_again (end_of next) ≡ false) → LeavesFewer shape w j e
  fewer on calm = record {
    goes_on = λ more. subst (λ (ws : Words). events_left shape ws next < events_left shape w.core.words e) (sym later_is) (goes_on on);
    anew = λ c call at calls done none.
        let caller : n.caller ≡ c = same_Some n.caller c (sym n.there ∙ at) in
        let same : n.call ≡ call = same_Some n.call call (sym n.calls ∙ (ap current caller ∙ calls)) in
        subst (λ x. events_left shape (watched_turn shape (suc j) w).core.words (anew c.site x (end_of next)) < events_left shape w.core.words e) same
        (subst (λ (d : Caller). events_left shape (watched_turn shape (suc j) w).core.words (anew d.site n.call (end_of next)) < events_left shape w.core.words e) caller
        (subst (λ (ws : Words). events_left shape ws fresh < events_left shape w.core.words e) (sym later_is) (begins_anew done none (calm done))));
  }

pub own_turns_leave_fewer : FewerLaws → OpenedHolds → TurnKeeps → OwnTurnsLeaveFewer
own_turns_leave_fewer laws opens keeps shape words image scripts are turns j e stands n on calm = fewer laws opens keeps shape words image scripts are turns j e stands n on calm

-- ---- who is alone waits for nobody, and ends no attempt in Again
again_is : (o : Option Outcome) → says_again o ≡ true → (why : Why) × (o ≡ Some (again why))
again_is (Some (again why)) says = (why, refl)
again_is o says = absurd (false≢true says)

module _ (tries : TriesAreOthers) (never : AloneNeverAgain) (tell : EndsTell) (shape : Shape) (words : List ℕ) (image : IsServedImage shape words) (scripts : List (List Call))
    (are : AreScripts scripts) (turns : List ℕ) (j : ℕ) (e : Engine) (alone : IsAlone shape j (along shape words scripts turns)) (n : IsNext (along shape words scripts turns) j e) where
  abbrev now : Words
  now = (along shape words scripts turns).core.words

  abbrev behind : Engine
  behind = engine_next shape now e

  rests_not : (o : IsHeldByOther (along shape words scripts turns).core j) → IsBetween o.caller → ⊥
  rests_not o (inl none) = none-some o.engine (sym none ∙ o.runs)
  rests_not o (inr p) = o.midst (subst (IsFresh o.caller.site) (same_Some p.0 o.engine (sym p.1 ∙ o.runs)) p.2)

  waits_not : waits_now shape now e ≡ false
  waits_not = elim (cases_Bool (tries_now shape now e)) [
    | inl vain ↦ (let o = tries shape words image scripts are turns j e n vain in absurd (rests_not o (alone.others o.place o.caller o.elsewhere o.there)))
    | inr none ↦ ap (λ b. b && op_part.is_waiting behind.op) none
  ]

  ends_calm : wanted behind ≡ want.Done → is_again (end_of behind) ≡ false
  ends_calm done = elim (cases_Bool (is_again (end_of behind))) [
    | inl says ↦
        let end = tell shape words image scripts are turns j e n done in
        let again = again_is (outcome_of_end (end_of behind)) says in
        absurd (never shape words image scripts are turns j e alone n again.0 (end.1 ∙ (sym end.2 ∙ again.1)))
    | inr calm ↦ calm
  ]

pub alone_leaves_fewer : OwnTurnsLeaveFewer → TriesAreOthers → AloneNeverAgain → EndsTell → AloneLeavesFewer
alone_leaves_fewer fewer tries never tell shape words image scripts are turns j e alone stands n =
    fewer shape words image scripts are turns j e stands n (waits_not tries never tell shape words image scripts are turns j e alone n)
    (ends_calm tries never tell shape words image scripts are turns j e alone n)
