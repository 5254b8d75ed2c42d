-- Where a repair tells that it has finished, the segment has the image's version: so it is of the first machine and of the last, and the one between
-- never tells so.
use Rattle.std.proofs.Common.{◌≡◌, ℕ, true, None, Some, refl, ◌∙◌}
use Rattle.world.specs.Wants.{answer_to, word_of}
use Rattle.part.specs.Outcomes.{finished}
use Rattle.part.specs.Part.{Part}
use Rattle.part.specs.Splits.{segment_of_then}
use Rattle.part.specs.Then.{first, second, passed, outcome, then_part, Passes}
use Rattle.part.proofs.Thens.{suits_first, suits_second, outcome_on}
use Rattle.repair_op.specs.Finishing.{FinishesCurrent}
use Rattle.repair_op.specs.RepairPart.{repair_part, segment_of as repaired_segment}
use Rattle.redirect_op.specs.declared.step.RedirectEnd.{RedirectEnd}
use Rattle.redirect_op.specs.declared.step.RedirectEnd.TheVariants as ends
use Rattle.redirect_op.specs.declared.step.RedirectStep.{RedirectStep}
use Rattle.redirect_op.specs.declared.step.RedirectStep.TheVariants.{Give, Ended}
use Rattle.redirect_op.specs.Ends.{outcome_of, outcome_at}
use Rattle.redirect_op.specs.RedirectPart.{redirect_part, segment_of as redirected_segment}
use Rattle.mend_op.specs.MendPart.{mend_part, segment_of as mended_segment}
use Rattle.engine.specs.OpPart.{mend_of, redirect_and_mend, after_guard, whole_repair, repaired_segment_in}
use Rattle.engine.proofs.machines.Passing.{RepairLaws, redirect_passes, repair_passes}

-- ---- one part after another
module _ {A B : Type 0} (a : Part A) (b : Part B) (next : A → B) (of_a : A → ℕ) (of_b : B → ℕ) (passes : Passes a b next) (undecided : (x : A) → a.hands_on x ≡ true → a.outcome x ≡ None)
    (by_a : FinishesCurrent a of_a) (by_b : FinishesCurrent b of_b) where
  then_finishes_current : FinishesCurrent (then_part a b next) (λ m. segment_of_then of_a of_b m)
  then_finishes_current site here call words views j (first x) before v h at s yet some =
      let y : A = a.taken x (answer_to (a.wanted x) (words (word_of site.shape (a.wanted x)))) in
      let told : a.outcome y ≡ outcome a b next (passed a b next (a.hands_on y) y) = outcome_on a b next passes undecided y (a.hands_on y) refl in
      by_a site here call words views j x before v h at (suits_first a b next site here call x before v s) yet (told ∙ some)
  then_finishes_current site here call words views j (second y) before v h at s yet some =
      by_b site here call words views j y before v h at (suits_second a b next site here call y before v s) yet some

-- ---- the one between never tells so
no_end : (end : RedirectEnd) → outcome_of end ≡ Some finished → ⊥
no_end (ends.Again why) some = cc
no_end ends.Guarded some = cc

never_finished : (s : RedirectStep) → outcome_at s ≡ Some finished → ⊥
never_finished (Give end) some = no_end end some
never_finished (Ended end) some = no_end end some
never_finished s some = let no : None ≡ Some finished = some in cc

redirect_finishes_current : FinishesCurrent redirect_part redirected_segment
redirect_finishes_current site here call words views j op before v h at s yet some = absurd (never_finished _ some)

-- ---- A REPAIR
module _ (laws : RepairLaws) where
  rest_finishes_current : FinishesCurrent redirect_and_mend (λ n. segment_of_then redirected_segment mended_segment n)
  rest_finishes_current = then_finishes_current redirect_part mend_part mend_of redirected_segment mended_segment (redirect_passes laws) laws.redirect_causes.undecided redirect_finishes_current laws.mend_current

  pub repair_finishes_current : FinishesCurrent whole_repair repaired_segment_in
  repair_finishes_current = then_finishes_current repair_part redirect_and_mend after_guard repaired_segment (λ n. segment_of_then redirected_segment mended_segment n) (repair_passes laws)
      laws.repair_causes.undecided laws.repair_current rest_finishes_current
