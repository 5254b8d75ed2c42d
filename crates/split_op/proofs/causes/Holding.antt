-- Where a split decides that no slot is free, it holds the guard of free slots, that of the segment and all its locks.
use Rattle.std.proofs.Common.{◌≡◌, ℕ, Bool, true, false, None, Some, [], ◌∷◌, sym, ◌∙◌}
use Rattle.std.specs.Prelude.{◌==◌, if◌then◌else◌}
use Rattle.std.proofs.lemmas.Option.{none-some, same_Some}
use Rattle.op_core.specs.declared.want.Ans.TheVariants.{Won, Lost}
use Rattle.op_core.specs.declared.why.Why.TheVariants.{Busy}
use Rattle.image_layout.specs.Volatile.{allocation_guard}
use Rattle.map_model.specs.declared.call.Call.{Call}
use Rattle.map_model.specs.declared.entry.Reply.TheVariants.{Full}
use Rattle.world.specs.declared.site.Site.{Site}
use Rattle.world.specs.Ground.{Ground}
use Rattle.world.specs.Views.{View}
use Rattle.world.specs.Wants.{answer_to, word_of}
use Rattle.world.specs.areas.Areas.{Segment, Allocation}
use Rattle.part.specs.Outcomes.{Outcome, replied, again}
use Rattle.enclose_op.specs.Whole.{HoldsLocks}
use Rattle.split_op.specs.declared.step.SplitStep.{SplitStep}
use Rattle.split_op.specs.declared.step.SplitStep.TheVariants.{Take, Search, Count, Return, Look, Put, Release, Back, Ended}
use Rattle.split_op.specs.declared.op.SplitOp.{SplitOp}
use Rattle.split_op.specs.Steps.{wanted_in, next_in}
use Rattle.split_op.specs.Fits.{outcome_at, SuitsStep}
use Rattle.split_op.specs.SplitPart.{SaysFullOfHeld}
use Rattle.split_op.proofs.SplitIsPart.{open_search, open_look, open_put}
use Rattle.split_op.proofs.causes.ByCause.{no_outcome, open_next, same_next}

module _ (site : Ground) (here : Site) (call : Call) (op : SplitOp) (v : View) (place n : ℕ) where
  abbrev full : Outcome
  full = replied Full place

  -- behind a guard that is another's, it is that
  guard_full : (t : Bool) → outcome_at (next_in op Take (if t then Won else Lost n)).step ≡ Some full → ⊥
  guard_full true some = none-some full some
  guard_full false some = let same = same_Some (again (Busy (allocation_guard op.copied.whole.site.geometry) n)) full some in absurd (cc)

  -- EACH STEP
  held_at : (s : SplitStep) → SuitsStep site here call op.copied op.locks s v → outcome_at s ≡ None → outcome_at (next_in op s (answer_to (wanted_in op s) n)).step ≡ Some full
      → (v.areas ≡ Allocation ∷ Segment op.copied.whole.segment ∷ []) × HoldsLocks site op.copied.whole v
  held_at Take s none some = absurd (guard_full (n == 0) some)
  held_at (Search slot) s none some = absurd (no_outcome _ full (open_search op slot n) some)
  held_at Count s none some = (s.0.areas, s.0.keeps.locks)
  held_at (Return count) s none some = absurd (none-some (replied Full count) (sym none))
  held_at (Look b) s none some = absurd (none-some full (sym (open_look b) ∙ some))
  held_at (Put batch rounds) s none some = absurd (none-some full (sym (open_next op batch rounds _) ∙ some))
  held_at Release s none some = absurd (none-some full (sym (open_put _ _ _) ∙ some))
  held_at (Back give end) s none some = absurd (none-some full (sym none ∙ (sym (same_next op give end _) ∙ some)))
  held_at (Ended end) s none some = absurd (none-some full (sym none ∙ some))

pub says_full_of_held : SaysFullOfHeld
says_full_of_held site here call words op before v s none place some =
    held_at site here call op v place (words (word_of site.shape (wanted_in op op.step))) op.step s.stands.view none some
