-- A change wants nothing more exactly where it is over, and it is where it hands on.
use Rattle.std.proofs.Common.{◌≡◌, ℕ, true, false, IsTrue, ◌↔◌, refl}
use Rattle.op_core.specs.declared.want.Want.TheVariants as want
use Rattle.world.specs.declared.site.Site.{Site}
use Rattle.phase.specs.declared.walk.Walk.{Walk}
use Rattle.phase.specs.declared.walk.Walk.TheVariants as walk
use Rattle.phase.specs.Walks.{walk_wanted}
use Rattle.phase.specs.Helds.{give_next}
use Rattle.phase.proofs.Wanting.{IsSome, takes, makes, gives, not_over}
use Rattle.write_op.specs.declared.search.NoteWords.{NoteWords}
use Rattle.write_op.specs.declared.step.Task.{Task}
use Rattle.write_op.specs.declared.step.Seen.{Seen}
use Rattle.phase.specs.declared.note.NoteWord.{NoteWord}
use Rattle.phase.specs.declared.note.NoteWord.TheVariants.{Mark, Fingers}
use Rattle.write_op.specs.declared.step.WriteEnd.TheVariants as ends
use Rattle.write_op.specs.declared.step.WriteStep.{WriteStep}
use Rattle.write_op.specs.declared.step.WriteStep.TheVariants.{Way, Lock, Check, Fill, Count, Draw, Unnote, CountSpent, Give, Ended}
use Rattle.write_op.specs.declared.step.WriteStep.TheVariants as step
use Rattle.write_op.specs.Search.{unnoted}
use Rattle.write_op.specs.Steps.{lock_of, note_wanted, wanted_in, is_over, is_without_slot}

walks : (here : Site) (hash : ℕ) (w : Walk) → IsSome (walk_wanted here hash w)
walks here hash walk.Power e = cc
walks here hash walk.Root e = cc
walks here hash (walk.Entry root) e = cc
walks here hash (walk.Head root segment) e = cc

notes : (task : Task) (seen : Seen) (part : NoteWord) (note : NoteWords) → IsSome (note_wanted task seen part note)
notes task seen Mark note e = cc
notes task seen Fingers note e = cc

pub over_done : (task : Task) (seen : Seen) (s : WriteStep) → IsTrue (is_over s) ↔ (wanted_in task seen s ≡ want.Done)
over_done task seen (Way w) = not_over _ (walks task.site task.hash w)
over_done task seen (Lock place take) = not_over _ (takes (lock_of task seen place) take)
over_done task seen (Check back) = not_over (wanted_in task seen (Check back)) (λ e. cc)
over_done task seen (Fill place load) = not_over (wanted_in task seen (Fill place load)) (λ e. cc)
over_done task seen Count = not_over (wanted_in task seen Count) (λ e. cc)
over_done task seen (step.Make m) = not_over _ (makes (lock_of task seen seen.place) seen.written m)
over_done task seen Draw = not_over want.Draw (λ e. cc)
over_done task seen (Unnote part place) = not_over _ (notes task seen part (unnoted task.hash seen))
over_done task seen CountSpent = not_over (wanted_in task seen CountSpent) (λ e. cc)
over_done task seen (Give held end) = gives task.site task.hash seen.path.segment (give_next held)
over_done task seen (Ended end) = (λ over. refl, λ e. refl)

-- it hands on where it ended without a slot
pub without : (s : WriteStep) → is_without_slot s ≡ true → s ≡ Ended ends.NoSlot
without (Ended ends.NoSlot) is = refl
without (Ended (ends.Replied answer place)) is = absurd (let f : false ≡ true = is in cc)
without (Ended (ends.Again why)) is = absurd (let f : false ≡ true = is in cc)
without (Ended (ends.Stale segment byte)) is = absurd (let f : false ≡ true = is in cc)
without (Ended ends.Off) is = absurd (let f : false ≡ true = is in cc)
without s is = absurd (let f : false ≡ true = is in cc)
