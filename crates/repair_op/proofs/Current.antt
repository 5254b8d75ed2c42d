-- A segment that is told repaired has the image's version in the newest words: the load of its header found that.
use Rattle.std.proofs.Common.{◌≡◌, ℕ, zero, suc, ◌<◌, Bool, true, false, None, Some, refl, sym, ap, ◌∙◌}
use Rattle.std.specs.Prelude.{◌==◌, if◌then◌else◌}
use Rattle.std.proofs.lemmas.Bool.{eqb-true}
use Rattle.std.proofs.lemmas.Option.{none-some, same_Some}
use Rattle.trace.specs.Events.{Words}
use Rattle.op_core.specs.declared.want.Ans.TheVariants.{Value, Won, Lost}
use Rattle.op_core.specs.declared.why.Why.TheVariants.{Busy}
use Rattle.segment_head.specs.HeadWord.{version_in, state_in, depth_in, pattern_in, splitting}
use Rattle.image_layout.specs.Volatile.{allocation_guard}
use Rattle.map_model.specs.declared.call.Call.{Call}
use Rattle.world.specs.declared.site.Site.{Site}
use Rattle.world.specs.Ground.{Ground}
use Rattle.world.specs.Views.{View}
use Rattle.world.specs.Wants.{answer_to, word_of}
use Rattle.world.specs.areas.Kinds.{is_new_side, is_ready_side}
use Rattle.part.specs.Outcomes.{again, finished}
use Rattle.repair_op.specs.declared.guarded.Guarded.{Guarded}
use Rattle.repair_op.specs.declared.step.RepairEnd.TheVariants as ends
use Rattle.repair_op.specs.declared.step.Settling.TheVariants as settling
use Rattle.repair_op.specs.declared.step.RepairStep.{RepairStep}
use Rattle.repair_op.specs.declared.step.RepairStep.TheVariants.{Guard, Head, Link, Side, Slots, Free, GiveSlots, Unmark, Give, Ended}
use Rattle.repair_op.specs.declared.op.RepairOp.{RepairOp}
use Rattle.repair_op.specs.Guarded.{guard_of, RunsHere}
use Rattle.repair_op.specs.Steps.{wanted_in, next_in}
use Rattle.repair_op.specs.Stands.{SuitsStep}
use Rattle.repair_op.specs.Finishing.{HasImageVersion, FinishesCurrent}
use Rattle.repair_op.specs.RepairPart.{outcome_at, repair_part, segment_of}
use Rattle.repair_op.proofs.Words.{head_is}
use Rattle.repair_op.proofs.causes.ByCause.{side_none}

module _ (site : Ground) (here : Site) (call : Call) (words : Words) (op : RepairOp) (runs : RunsHere site here op.guarded) (v : View) where
  abbrev g : Guarded
  g = op.guarded

  abbrev found : RepairStep → ℕ
  found s = words (word_of site.shape (wanted_in op s))

  abbrev next : RepairStep → RepairOp
  next s = next_in op s (answer_to (wanted_in op s) (found s))

  -- a guard that is another's is not the segment's version
  guard_tells_busy : (t : Bool) → outcome_at (next_in op Guard (if t then Won else Lost (words (guard_of g)))).step ≡ Some finished → ⊥
  guard_tells_busy true some = none-some _ some
  guard_tells_busy false some = let no : again (Busy (guard_of g) (words (guard_of g))) ≡ finished = same_Some _ _ some in cc

  slots_tell_busy : (slot side : ℕ) (t : Bool) → outcome_at (next_in op (Slots slot side) (if t then Won else Lost (words (allocation_guard g.site.geometry)))).step ≡ Some finished → ⊥
  slots_tell_busy slot side true some = none-some _ some
  slots_tell_busy slot side false some = let no : again (Busy (allocation_guard g.site.geometry) (words (allocation_guard g.site.geometry))) ≡ finished = same_Some _ _ some in cc

  -- the load of the header finds it
  head_current : (t u : Bool) → (version_in (found Head) == g.site.version) ≡ t → g.segment < site.shape.segments
      → outcome_at (if t then Give ends.Current else if u then Link else Ended ends.Guarded) ≡ Some finished → HasImageVersion site words g.segment
  head_current true u current within some =
      ap (λ i. version_in (words i)) (sym (head_is site g runs.shape g.segment within)) ∙ (eqb-true (version_in (found Head)) g.site.version current ∙ runs.version)
  head_current false true other within some = absurd (none-some _ some)
  head_current false false other within some = absurd (none-some _ some)

  link_tells_nothing : (n : ℕ) → outcome_at (next_in op Link (Value n)).step ≡ Some finished → ⊥
  link_tells_nothing zero some = none-some _ some
  link_tells_nothing (suc slot) some = none-some _ some

  current_at : (s : RepairStep) → SuitsStep site here call g s v → outcome_at s ≡ None → outcome_at (next s).step ≡ Some finished → HasImageVersion site words g.segment
  current_at Guard s yet some = absurd (guard_tells_busy (words (guard_of g) == 0) some)
  current_at Head s yet some = head_current (version_in (found Head) == g.site.version) (state_in (found Head) == splitting) refl s.0 some
  current_at Link s yet some = absurd (link_tells_nothing (found Link) some)
  current_at (Side slot) s yet some =
      let n : ℕ = found (Side slot) in
      absurd (none-some _ (sym (side_none op slot n (is_ready_side (depth_in g.head) (pattern_in g.head) n) (is_new_side (depth_in g.head) (pattern_in g.head) n)) ∙ some))
  current_at (Slots slot side) s yet some = absurd (slots_tell_busy slot side (words (allocation_guard g.site.geometry) == 0) some)
  current_at (Free slot side settling.Store) s yet some = absurd (none-some _ some)
  current_at (Free slot side settling.Flush) s yet some = absurd (none-some _ some)
  current_at (Free slot side settling.Fence) s yet some = absurd (none-some _ some)
  current_at GiveSlots s yet some = absurd (none-some _ some)
  current_at (Unmark settling.Store) s yet some = absurd (none-some _ some)
  current_at (Unmark settling.Flush) s yet some = absurd (none-some _ some)
  current_at (Unmark settling.Fence) s yet some = absurd (none-some _ some)
  current_at (Give end) s yet some = absurd (none-some _ (sym yet ∙ some))
  current_at (Ended end) s yet some = absurd (none-some _ (sym yet ∙ some))

-- WHERE IT DECIDES that it has finished
pub finishes_current : FinishesCurrent repair_part segment_of
finishes_current site here call words views j op before v h at s yet some = current_at site here call words op s.stands.here_is v op.step s.stands.view yet some
