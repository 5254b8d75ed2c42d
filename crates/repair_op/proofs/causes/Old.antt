-- Where another guard than the segment's is told busy, its header is known, and has not the image's version: the guard of free slots alone is such.
use Rattle.std.proofs.Common.{◌≡◌, ◌≢◌, ℕ, zero, suc, Bool, true, false, None, Some, sym, ap, ◌∙◌}
use Rattle.std.specs.Prelude.{◌==◌, if◌then◌else◌}
use Rattle.std.proofs.lemmas.Option.{none-some, same_Some}
use Rattle.trace.specs.Events.{Words}
use Rattle.op_core.specs.declared.want.Ans.TheVariants.{Value, Won, Lost}
use Rattle.op_core.specs.declared.why.Why.TheVariants.{Busy}
use Rattle.segment_head.specs.HeadWord.{version_in, state_in, depth_in, pattern_in, splitting}
use Rattle.image_layout.specs.Volatile.{segment_guard}
use Rattle.map_model.specs.declared.call.Call.{Call}
use Rattle.world.specs.declared.site.Site.{Site}
use Rattle.world.specs.Ground.{Ground, IsGround}
use Rattle.world.specs.Views.{View, Has}
use Rattle.world.specs.Wants.{answer_to, word_of}
use Rattle.world.specs.areas.Areas.{header_word}
use Rattle.world.specs.areas.Kinds.{is_new_side, is_ready_side}
use Rattle.world.specs.areas.Asking.{MayBeNewest}
use Rattle.world.proofs.moving.Known.{known_is_so}
use Rattle.part.specs.Outcomes.{again, finished}
use Rattle.repair_op.specs.declared.guarded.Guarded.{Guarded}
use Rattle.repair_op.specs.declared.step.RepairEnd.TheVariants as ends
use Rattle.repair_op.specs.declared.step.Settling.TheVariants as settling
use Rattle.repair_op.specs.declared.step.RepairStep.{RepairStep}
use Rattle.repair_op.specs.declared.step.RepairStep.TheVariants.{Guard, Head, Link, Side, Slots, Free, GiveSlots, Unmark, Give, Ended}
use Rattle.repair_op.specs.declared.op.RepairOp.{RepairOp}
use Rattle.repair_op.specs.Guarded.{guard_of, RunsHere, IsOld}
use Rattle.repair_op.specs.Steps.{wanted_in, next_in}
use Rattle.repair_op.specs.Stands.{SuitsStep}
use Rattle.repair_op.specs.Finishing.{HasImageVersion, StaysOld}
use Rattle.repair_op.specs.RepairPart.{outcome_at, repair_part, segment_of}
use Rattle.repair_op.proofs.Words.{guard_is}
use Rattle.repair_op.proofs.RepairIsPart.{within_by}
use Rattle.repair_op.proofs.causes.ByCause.{side_none}

-- A SEGMENT WHOSE HEADER IS KNOWN AS OLD has not the image's version in the newest words
pub known_as_old : (site : Ground) (g : Guarded) (v : View) (words : Words) → MayBeNewest site v words → IsOld site g → Has (header_word site.shape g.segment, g.head) v.known
    → HasImageVersion site words g.segment → ⊥
known_as_old site g v words new old header current = old.old (sym (ap version_in (new.knows (header_word site.shape g.segment) g.head header)) ∙ current)

-- the word that is told busy
same_word : (a b c d : ℕ) → again (Busy a b) ≡ again (Busy c d) → a ≡ c
same_word a b c d e = cc

module _ (site : Ground) (here : Site) (call : Call) (words : Words) (op : RepairOp) (runs : RunsHere site here op.guarded) (v : View) (ground : IsGround site) (new : MayBeNewest site v words)
    (word value : ℕ) (other : word ≢ segment_guard site.shape op.guarded.segment) (current : HasImageVersion site words op.guarded.segment) where
  abbrev g : Guarded
  g = op.guarded

  abbrev found : RepairStep → ℕ
  found s = words (word_of site.shape (wanted_in op s))

  abbrev next : RepairStep → RepairOp
  next s = next_in op s (answer_to (wanted_in op s) (found s))

  abbrev IsTold : RepairStep → Type 0
  IsTold s = outcome_at s ≡ Some (again (Busy word value))

  -- at first it is the segment's own guard
  guard_by : (t : Bool) → guard_of g ≡ segment_guard site.shape g.segment → IsTold (next_in op Guard (if t then Won else Lost (words (guard_of g)))).step → ⊥
  guard_by true is some = none-some _ some
  guard_by false is some = other (sym (same_word (guard_of g) (words (guard_of g)) word value (same_Some _ _ some)) ∙ is)

  head_by : (t u : Bool) → IsTold (if t then Give ends.Current else if u then Link else Ended ends.Guarded) → ⊥
  head_by true u some = let no : finished ≡ again (Busy word value) = same_Some _ _ some in cc
  head_by false true some = none-some _ some
  head_by false false some = none-some _ some

  link_by : (n : ℕ) → IsTold (next_in op Link (Value n)).step → ⊥
  link_by zero some = none-some _ some
  link_by (suc slot) some = none-some _ some

  old_at : (s : RepairStep) → SuitsStep site here call g s v → outcome_at s ≡ None → IsTold (next s).step → ⊥
  old_at Guard s yet some =
      guard_by (words (guard_of g) == 0) (guard_is site g runs.shape (within_by site ground here call op runs v Guard words new s (λ same. cc))) some
  old_at Head s yet some = head_by (version_in (found Head) == g.site.version) (state_in (found Head) == splitting) some
  old_at Link s yet some = link_by (found Link) some
  old_at (Side slot) s yet some =
      let n : ℕ = found (Side slot) in
      none-some _ (sym (side_none op slot n (is_ready_side (depth_in g.head) (pattern_in g.head) n) (is_new_side (depth_in g.head) (pattern_in g.head) n)) ∙ some)
  old_at (Slots slot side) s yet some = known_as_old site g v words new s.0.cut.old s.0.knows.header current
  old_at (Free slot side settling.Store) s yet some = none-some _ some
  old_at (Free slot side settling.Flush) s yet some = none-some _ some
  old_at (Free slot side settling.Fence) s yet some = none-some _ some
  old_at GiveSlots s yet some = none-some _ some
  old_at (Unmark settling.Store) s yet some = none-some _ some
  old_at (Unmark settling.Flush) s yet some = none-some _ some
  old_at (Unmark settling.Fence) s yet some = none-some _ some
  old_at (Give end) s yet some = none-some _ (sym yet ∙ some)
  old_at (Ended end) s yet some = none-some _ (sym yet ∙ some)

-- WHERE IT TELLS ANOTHER GUARD TAKEN than the segment's, that is old still
pub stays_old : StaysOld repair_part segment_of
stays_old site here call words views j op before v word value h at s yet some other current =
    old_at site here call words op s.stands.here_is v h.site_is (known_is_so.newest site words views j v h at) word value other current op.step s.stands.view yet some
