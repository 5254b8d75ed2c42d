-- What moved, or was taken, is not its own doing: an attempt that is told to try again has not changed that word.
use Rattle.std.proofs.Common.{◌≡◌, ℕ, ◌^◌, ◌<◌, None, refl, sym, subst}
use Rattle.std.specs.Prelude.{⊤}
use Rattle.op_core.specs.declared.want.Ans.{Ans}
use Rattle.image_layout.specs.Places.{IsShape}
use Rattle.sound_image.proofs.Hashes.{key_hash-fits}
use Rattle.world.specs.declared.site.Site.{Site}
use Rattle.world.specs.Views.{Has}
use Rattle.part.specs.Doings.{Doings, nothing_done}
use Rattle.part.specs.Outcomes.{Outcome, again}
use Rattle.phase.specs.declared.walk.Path.{Path}
use Rattle.phase.specs.declared.back.Back.{Back}
use Rattle.phase.specs.declared.back.Back.TheVariants as back
use Rattle.phase.specs.declared.back.Backed.{Backed}
use Rattle.phase.specs.declared.back.Backed.TheVariants as backed
use Rattle.phase.specs.Walks.{walk_taken}
use Rattle.phase.specs.Takes.{take_taken}
use Rattle.phase.specs.Backs.{back_word, back_on, back_taken}
use Rattle.phase.proofs.Backing.{back_cases}
use Rattle.write_op.specs.declared.step.Task.{Task}
use Rattle.write_op.specs.declared.step.Seen.{Seen}
use Rattle.write_op.specs.declared.step.WriteStep.{WriteStep}
use Rattle.write_op.specs.declared.step.WriteStep.TheVariants.{Way, Lock, Check}
use Rattle.write_op.specs.declared.op.WriteOp.{WriteOp}
use Rattle.write_op.specs.Steps.{begun, next_in, lock_of}
use Rattle.write_op.specs.Fits.{outcome_at}
use Rattle.write_op.specs.ChangePart.{RemembersIn}
use Rattle.write_op.specs.AnyMemory.{after_all, did_all, told_word, AgainByOthers}
use Rattle.write_op.proofs.causing.Told.{Told, next_told, walked_told, locked_told, backed_told, counted_told}
use Rattle.write_op.proofs.causing.Unchanged.{back_unchanged, lock_unchanged}
use Rattle.write_op.proofs.causing.Anywhere.{HoldsIn, out, holds_from, same_task, keeps_loads}

-- the word that a way again tells is the one that it looked at
module _ (here : Site) (hash : ℕ) (path : Path) (at : Back) where
  abbrev TellsWord : Backed → Type 0
  TellsWord (backed.Moved word before after) = word ≡ back_word here hash path at
  TellsWord more = ⊤

  on_tells : (b : Back) → TellsWord (back_on b)
  on_tells back.Root = tt
  on_tells back.Entry = tt
  on_tells back.Head = tt

  back_tells : (n : ℕ) → TellsWord (back_taken here hash path at n)
  back_tells n = back_cases TellsWord here hash path at n (on_tells at) refl

module _ (task : Task) (shape : IsShape task.site.geometry) (fits : task.hash < 2 ^ 64) (seen : Seen) (did : Doings) where
  abbrev IsUnchanged : Outcome → Type 0
  IsUnchanged (again why) = Has (told_word why) did.changed → ⊥
  IsUnchanged more = ⊤

  abbrev Keeps : WriteStep → Type 0
  Keeps = RemembersIn task seen did

  unchanged : (s : WriteStep) (a : Ans) → Keeps s → HoldsIn seen s → outcome_at s ≡ None → Told IsUnchanged (next_in task seen s a).step
  unchanged s a r h none = next_told IsUnchanged task seen s a none
      (λ w n e x.
      let way : Keeps (Way w) = subst Keeps e r in
      let bare : (word : ℕ) → Has word did.changed → ⊥ = λ word has. subst (λ l. Has word l) way.1 has in
      walked_told IsUnchanged task seen (walk_taken task.site task.hash w n) (λ y. tt) (λ word value y. bare word) (λ segment byte y. tt))
      (λ place take e.
      let kept : Keeps (Lock place take) = subst Keeps e r in
      let free = lock_unchanged task seen did.loads kept.0 did.changed place (out task seen s h place take e) kept.1 in
      locked_told IsUnchanged task seen place (lock_of task seen place) (take_taken take a) (λ value y. free) (λ first after y. free))
      (λ at n e x.
      let kept : Keeps (Check at) = subst Keeps e r in
      backed_told IsUnchanged task seen (back_taken task.site task.hash seen.path at n)
      (λ word first after y has.
      let is = subst (TellsWord task.site task.hash seen.path at) y (back_tells task.site task.hash seen.path at n) in
      back_unchanged task seen did.loads kept.0 did.changed shape.depth fits at kept.1 (subst (λ m. Has m did.changed) is has)))
      (λ n e x. counted_told IsUnchanged task seen n (λ spot insert there. tt) (λ other nowhere. tt) (λ t. tt))
      (λ n e x. tt)
      (λ n e x. tt)

pub again_by_others : AgainByOthers
again_by_others change here found a why shape key none some =
    let first : WriteOp = begun change here in
    let op : WriteOp = after_all first found in
    let same : op.task ≡ first.task = same_task first found in
    unchanged op.task (subst (λ (t : Task). IsShape t.site.geometry) (sym same) shape) (subst (λ (t : Task). t.hash < 2 ^ 64) (sym same) (key_hash-fits here.geometry change.key key))
    op.stage.seen (did_all first found nothing_done) op.stage.step a (keeps_loads change here found) (holds_from first found refl) none (again why) some
