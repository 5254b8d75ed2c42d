-- It wants nothing more exactly where it is over, and hands on where both stash buckets were full.
use Rattle.std.proofs.Common.{◌≡◌, ℕ, true, false, IsTrue, ◌↔◌, refl}
use Rattle.op_core.specs.declared.want.Want.TheVariants as want
use Rattle.phase.specs.declared.kept.Kept.{Kept}
use Rattle.phase.specs.Helds.{give_next}
use Rattle.phase.proofs.Wanting.{IsSome, takes, makes, gives, not_over}
use Rattle.stash_op.specs.declared.step.NoteWords.{NoteWords}
use Rattle.stash_op.specs.declared.step.Seen.{Seen}
use Rattle.phase.specs.declared.note.NoteWord.{NoteWord}
use Rattle.phase.specs.declared.note.NoteWord.TheVariants.{Mark, Fingers}
use Rattle.stash_op.specs.declared.step.StashEnd.TheVariants as ends
use Rattle.stash_op.specs.declared.step.StashStep.{StashStep}
use Rattle.stash_op.specs.declared.step.StashStep.TheVariants.{Lock, Fill, Note, Draw, CountSpent, Give, Ended}
use Rattle.stash_op.specs.declared.step.StashStep.TheVariants as step
use Rattle.stash_op.specs.Search.{place_of, noted}
use Rattle.stash_op.specs.Steps.{lock_of, note_wanted, wanted_in, is_over, needs_split}

notes : (kept : Kept) (part : NoteWord) (note : NoteWords) → IsSome (note_wanted kept part note)
notes kept Mark note e = cc
notes kept Fingers note e = cc

pub over_done : (kept : Kept) (seen : Seen) (s : StashStep) → IsTrue (is_over s) ↔ (wanted_in kept seen s ≡ want.Done)
over_done kept seen (Lock bucket take) = not_over _ (takes (lock_of kept (place_of bucket)) take)
over_done kept seen (Fill bucket load) = not_over (wanted_in kept seen (Fill bucket load)) (λ e. cc)
over_done kept seen (step.Make m) = not_over _ (makes (lock_of kept (place_of seen.bucket)) seen.written m)
over_done kept seen (Note part) = not_over _ (notes kept part (noted kept.hash seen))
over_done kept seen Draw = not_over want.Draw (λ e. cc)
over_done kept seen CountSpent = not_over (wanted_in kept seen CountSpent) (λ e. cc)
over_done kept seen (Give held end) = gives kept.site kept.hash kept.segment (give_next held)
over_done kept seen (Ended end) = (λ over. refl, λ e. refl)

-- it hands on where both stash buckets were full
pub full : (s : StashStep) → needs_split s ≡ true → (segment : ℕ) × (s ≡ Ended (ends.NeedSplit segment))
full (Ended (ends.NeedSplit segment)) is = (segment, refl)
full (Ended (ends.Replied answer place)) is = absurd (let f : false ≡ true = is in cc)
full (Ended (ends.Again why)) is = absurd (let f : false ≡ true = is in cc)
full (Ended ends.Off) is = absurd (let f : false ≡ true = is in cc)
full s is = absurd (let f : false ≡ true = is in cc)
