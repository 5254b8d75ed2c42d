-- Where the guard of the directory is told busy, the segment's header is known, and has not the image's version.
use Rattle.std.proofs.Common.{◌≡◌, ℕ, None, Some, refl, sym, ◌∙◌}
use Rattle.std.proofs.lemmas.Option.{none-some}
use Rattle.trace.specs.Events.{Words}
use Rattle.op_core.specs.declared.why.Why.TheVariants.{Busy}
use Rattle.map_model.specs.declared.call.Call.{Call}
use Rattle.world.specs.declared.site.Site.{Site}
use Rattle.world.specs.Ground.{Ground}
use Rattle.world.specs.Views.{View}
use Rattle.world.specs.Wants.{answer_to, word_of}
use Rattle.world.specs.areas.Asking.{MayBeNewest}
use Rattle.world.proofs.moving.Known.{known_is_so}
use Rattle.part.specs.Outcomes.{again}
use Rattle.repair_op.specs.Finishing.{HasImageVersion, StaysOld}
use Rattle.repair_op.proofs.causes.Old.{known_as_old}
use Rattle.redirect_op.specs.declared.step.RedirectStep.{RedirectStep}
use Rattle.redirect_op.specs.declared.step.RedirectStep.TheVariants.{Guard, Root, Entry, Head, Store, Settle, Fence, GiveDirectory, Give, Ended}
use Rattle.redirect_op.specs.declared.op.RedirectOp.{RedirectOp}
use Rattle.redirect_op.specs.Steps.{wanted_in, next_in}
use Rattle.redirect_op.specs.Stands.{SuitsStep}
use Rattle.redirect_op.specs.Ends.{outcome_at}
use Rattle.redirect_op.specs.RedirectPart.{redirect_part, segment_of}
use Rattle.redirect_op.proofs.causes.ByCause.{head_is, store_is, settle_to_is}

module _ (site : Ground) (here : Site) (call : Call) (words : Words) (op : RedirectOp) (v : View) (new : MayBeNewest site v words) (word value : ℕ) (current : HasImageVersion site words op.guarded.segment) where
  abbrev found : RedirectStep → ℕ
  found s = words (word_of site.shape (wanted_in op s))

  abbrev next : RedirectStep → RedirectOp
  next s = next_in op s (answer_to (wanted_in op s) (found s))

  abbrev IsTold : RedirectStep → Type 0
  IsTold s = outcome_at s ≡ Some (again (Busy word value))

  abbrev IsOpen : RedirectStep → Type 0
  IsOpen s = outcome_at s ≡ None

  old_at : (s : RedirectStep) → op.step ≡ s → SuitsStep site here call op s v → IsOpen s → IsTold (next s).step → ⊥
  old_at Guard at s yet some = known_as_old site op.guarded v words new s.0.old s.0.header current
  old_at Root at s yet some = none-some _ some
  old_at (Entry index) at s yet some = none-some _ some
  old_at (Head index slot) at s yet some = none-some _ (sym (head_is IsOpen (λ i. refl) (λ i. refl) refl refl refl op index (found (Head index slot))) ∙ some)
  old_at (Store index) at s yet some =
      none-some _ (sym (store_is IsOpen (λ i. refl) (λ i. refl) refl refl refl op index (answer_to (wanted_in op (Store index)) (found (Store index))) at) ∙ some)
  old_at Settle at s yet some = none-some _ (sym (settle_to_is IsOpen (λ i. refl) (λ i. refl) refl refl refl op (answer_to (wanted_in op Settle) (found Settle))) ∙ some)
  old_at Fence at s yet some = none-some _ some
  old_at GiveDirectory at s yet some = none-some _ some
  old_at (Give end) at s yet some = none-some _ (sym yet ∙ some)
  old_at (Ended end) at s yet some = none-some _ (sym yet ∙ some)

-- WHERE IT TELLS THE GUARD OF THE DIRECTORY TAKEN, the segment is old still
pub stays_old : StaysOld redirect_part segment_of
stays_old site here call words views j op before v word value h at s yet some other current =
    old_at site here call words op v (known_is_so.newest site words views j v h at) word value current op.step refl s.stands yet some
