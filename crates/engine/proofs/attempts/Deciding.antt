-- Where the next event of a caller decides the outcome of its attempt, the cause is there.
use Rattle.std.proofs.Common.{◌≡◌, ℕ, suc, Some, List, ◌∷◌, refl, sym, ◌∙◌, ap, subst}
use Rattle.op_core.specs.declared.want.Want.{Want}
use Rattle.trace.specs.Events.{Words}
use Rattle.segment_head.specs.HeadWord.{version_in}
use Rattle.image_layout.specs.Places.{Shape}
use Rattle.image_layout.specs.Volatile.{power_word}
use Rattle.map_model.specs.declared.call.Call.{Call}
use Rattle.world.specs.declared.site.Site.{Site}
use Rattle.world.specs.Ground.{Ground}
use Rattle.world.specs.Views.{View}
use Rattle.world.specs.Invariant.{Holds}
use Rattle.world.specs.areas.Areas.{header_word}
use Rattle.world.specs.World.{fresh_view}
use Rattle.part.specs.Doings.{Doings}
use Rattle.part.specs.Outcomes.{Outcome, replied, again, stale, need_split, off, finished}
use Rattle.part.specs.Causes.{HasCause as HasPartCause}
use Rattle.part.specs.Splits.{HasSplitCause}
use Rattle.part.specs.Repairs.{HasRepairCause}
use Rattle.part.specs.Either.{one, other}
use Rattle.engine.specs.declared.engine.Engine.{Engine}
use Rattle.engine.specs.Engine.{wanted}
use Rattle.engine.specs.OpPart.{OpState, state_of, call_part, whole_split, split_segment_in, whole_repair, repaired_segment_in, calls, work_of}
use Rattle.engine.specs.Holding.{TurnKeeps}
use Rattle.engine.specs.Laws.{OpenedHolds}
use Rattle.engine.specs.Causes.{engine_next, Decides, HasCallCause, HasSplittingCause, HasRepairingCause, HasCauseBy, HasCause, EndsHaveCauses, CallCauses}
use Rattle.engine.proofs.machines.Ops.{either_ops}
use Rattle.engine.proofs.attempts.Stepping.{work_in, work_is, next_work, CausedIn, CurrentIn, op_caused, op_current}
use Rattle.engine.proofs.attempts.Seats.{IsSeated, site_there, there, holds_there, seat_there}

-- ---- while the power is on the cause of an outcome is one of an engine's
module _ (shape : Shape) (words : Words) (powered : words (power_word shape) ≡ 0) (did : Doings) (call : Call) where
  -- of the machines of the call itself
  call_cause : (here : Site) (event : Want) (outcome : Outcome) → (outcome ≡ finished → ⊥) → HasPartCause shape words did call event here outcome
      → HasCallCause shape here.version words did call event outcome
  call_cause here event (replied reply place) never c = c
  call_cause here event (again why) never c = c
  call_cause here event (stale segment byte) never c = c
  call_cause here event (need_split segment) never c = c
  call_cause here event off never c = c.1 powered
  call_cause here event finished never c = never refl

  -- of those of a split
  splitting_cause : (segment : ℕ) (event : Want) (outcome : Outcome) → HasSplitCause shape words did call segment event outcome → HasSplittingCause shape words did call segment event outcome
  splitting_cause segment event (replied reply place) c = c
  splitting_cause segment event (again why) c = c
  splitting_cause segment event (stale slot byte) c = c
  splitting_cause segment event (need_split slot) c = c
  splitting_cause segment event off c = c.1 powered
  splitting_cause segment event finished c = c

  -- and of those of a repair
  repairing_cause : (version segment : ℕ) (event : Want) (outcome : Outcome) → (outcome ≡ finished → version_in (words (header_word shape segment)) ≡ version)
      → HasRepairCause shape words did call segment event outcome → HasRepairingCause shape version words did call segment event outcome
  repairing_cause version segment event (replied reply place) current c = c
  repairing_cause version segment event (again why) current c = c
  repairing_cause version segment event (stale slot byte) current c = c
  repairing_cause version segment event (need_split slot) current c = c
  repairing_cause version segment event off current c = c.1 powered
  repairing_cause version segment event finished current c = current refl

-- ---- in the world, for who sits there
module _ (laws : CallCauses) (site : Ground) (words : Words) (views : List View) (h : Holds site words views) (powered : words (power_word site.shape) ≡ 0)
    (j : ℕ) (here : Site) (call : Call) (e : Engine) (did : Doings) (seat : IsSeated site words views j here call e did) (outcome : Outcome) (decides : Decides site.shape words e outcome) where
  -- a machine of the call itself goes on to one of the call, which never ends as one that has done its work
  never_done : work_of e.op ≡ calls → outcome ≡ finished → ⊥
  never_done own is = laws.never (engine_next site.shape words e) (next_work site words e.op own) (decides.decides ∙ ap Some is)

  by_state : (m : OpState) → (work_in m ≡ calls → outcome ≡ finished → ⊥) → CurrentIn laws.causes site here call words views j seat.before seat.view h seat.at did m outcome
      → CausedIn laws.causes site here call words views j seat.before seat.view h seat.at did m outcome → HasCauseBy (work_in m) site.shape here.version words did call (either_ops.wanted m) outcome
  by_state (one m) never current c = call_cause site.shape words powered did call here (call_part.wanted m) outcome (never refl) c
  by_state (other (one m)) never current c = splitting_cause site.shape words powered did call (split_segment_in m) (whole_split.wanted m) outcome c
  by_state (other (other m)) never current c =
      repairing_cause site.shape words powered did call here.version (repaired_segment_in m) (whole_repair.wanted m) outcome (λ is. current is ∙ sym seat.version) c

  pub seat_cause : HasCause site.shape here.version words did call e outcome
  seat_cause =
      subst (λ s. HasCauseBy s site.shape here.version words did call (wanted e) outcome) (sym (work_is e.op))
      (by_state (state_of e.op) (λ own. never_done (work_is e.op ∙ own))
      (op_current laws.causes site here call words views j seat.before seat.view h seat.at did e.op seat.suits seat.asks seat.small seat.remembers outcome decides.undecided decides.decides)
      (op_caused laws.causes site here call words views j seat.before seat.view h seat.at did e.op seat.suits seat.asks seat.small seat.remembers outcome decides.undecided decides.decides))

-- EACH END HAS ITS CAUSE
pub ends_have_causes : CallCauses → OpenedHolds → TurnKeeps → EndsHaveCauses
ends_have_causes laws opens keeps shape words image scripts are turns j c call e outcome at asked runs decides =
    let h = holds_there opens keeps shape words image scripts are turns in
    let w = there opens keeps shape words image scripts are turns in
    seat_cause laws (site_there opens keeps shape words image scripts are turns) w.core.words (fresh_view 0 ∷ h.views) h.well.holds h.powered (suc j) c.site call e (w.doings j)
    (seat_there opens keeps shape words image scripts are turns laws j c call e at asked runs) outcome decides
