-- Each event is that of its kind.
use Rattle.std.proofs.Common.{◌≡◌, ◌≢◌, ℕ, ◌+◌, ◌^◌, ◌<◌, Bool, true, false, Option, Some, None, refl, ap, ◌∙◌, subst}
use Rattle.std.specs.Prelude.{nat_le, if◌then◌else◌}
use Rattle.op_core.specs.declared.want.Want.TheVariants as want
use Rattle.hash_word.specs.Hash.{home_of}
use Rattle.image_layout.specs.Places.{Shape}
use Rattle.image_layout.specs.Volatile.{counter_word}
use Rattle.map_model.specs.declared.change.Effect.{Effect}
use Rattle.map_model.specs.declared.change.Effect.TheVariants.{Insert, Update, Remove}
use Rattle.map_model.specs.Changes.{call_of}
use Rattle.world.specs.Ground.{Ground}
use Rattle.world.specs.Views.{View}
use Rattle.world.specs.Kinds.{pins, wanted as wanted_by, finds_room}
use Rattle.phase.specs.declared.role.Role.{Role}
use Rattle.phase.specs.declared.take.Take.{Take}
use Rattle.phase.specs.declared.back.Back.{Back}
use Rattle.phase.specs.declared.held.Held.{Held}
use Rattle.phase.specs.Helds.{give_wanted}
use Rattle.phase.specs.Taking.{IsTaking}
use Rattle.phase.specs.Giving.{give_kind}
use Rattle.phase.proofs.Walking.{walk_wants}
use Rattle.phase.proofs.Backing.{back_wants, back_pins}
use Rattle.phase.proofs.locks.Taking.{take_fits}
use Rattle.phase.proofs.locks.Giving.{give_stands}
use Rattle.phase.proofs.locks.Making.{make_fits}
use Rattle.write_op.specs.declared.search.NoteWords.{NoteWords}
use Rattle.write_op.specs.declared.step.Task.{Task}
use Rattle.write_op.specs.declared.step.Spot.{Spot}
use Rattle.write_op.specs.declared.step.Seen.{Seen}
use Rattle.phase.specs.declared.ending.Ending.{Ending}
use Rattle.phase.specs.declared.note.NoteWord.{NoteWord}
use Rattle.phase.specs.declared.note.NoteWord.TheVariants.{Mark, Fingers}
use Rattle.write_op.specs.declared.step.WriteStep.{WriteStep}
use Rattle.write_op.specs.declared.step.WriteStep.TheVariants.{Way, Lock, Check, Fill, Count, Draw, Unnote, CountSpent, Give, Ended}
use Rattle.write_op.specs.declared.step.WriteStep.TheVariants as step
use Rattle.write_op.specs.Search.{found, leaves_note, unnoted, has_finger}
use Rattle.write_op.specs.Steps.{lock_of, note_wanted, wanted_in}
use Rattle.write_op.specs.Fits.{publish_kind, inserting_kind, changing_kind, deciding_kind, count_kind, mark_kind, note_kind, kind_at, SuitsStep, IsIn}
use Rattle.write_op.proofs.keeping.Storing.{publishing}

module _ (shape : Shape) (task : Task) (seen : Seen) where
  -- ---- the load of the commit counter
  inserting_wants : (there : Option Spot) → want.Load (counter_word shape) ≡ wanted_by shape (inserting_kind task seen there)
  inserting_wants (Some spot) = refl
  inserting_wants None = refl

  changing_wants : (there : Option Spot) → want.Load (counter_word shape) ≡ wanted_by shape (changing_kind task seen there)
  changing_wants (Some spot) = refl
  changing_wants None = refl

  deciding_wants : (d : Effect) → want.Load (counter_word shape) ≡ wanted_by shape (deciding_kind task seen d)
  deciding_wants (Insert value) = inserting_wants (found seen task.change.key)
  deciding_wants (Update value) = changing_wants (found seen task.change.key)
  deciding_wants Remove = changing_wants (found seen task.change.key)

  either_wants : (b : Bool) (d : Effect) → want.Load (counter_word shape) ≡ wanted_by shape (if b then finds_room (call_of task.change) else deciding_kind task seen d)
  either_wants true d = refl
  either_wants false d = deciding_wants d

  count_wants : (n : ℕ) → want.Load (counter_word shape) ≡ wanted_by shape (count_kind task seen n)
  count_wants n = either_wants (nat_le (2 ^ 63) n) task.change.effect

  -- ---- the stores of a note
  mark_wants : (b : Bool) (i x : ℕ) → want.Store i x ≡ wanted_by shape (mark_kind task seen b i x)
  mark_wants true i x = refl
  mark_wants false i x = refl

  note_wants : (part : NoteWord) (note : NoteWords) → note_wanted task seen part note ≡ wanted_by shape (note_kind task seen part note)
  note_wants Mark note = mark_wants (has_finger seen note) (lock_of task seen note.place + 1) note.mark
  note_wants Fingers note = refl

  -- EACH EVENT is of its kind, where a lock is tried with a free value that has a next one, the header that is looked at again is one of
  -- the image, and the next lock goes back so
  pub wants_by : task.site.geometry ≡ shape → (s : WriteStep) (n : ℕ) → ((place : Role) (take : Take) → s ≡ Lock place take → IsTaking take)
      → ((back : Back) → s ≡ Check back → seen.path.segment < shape.segments)
      → ((held : Held) (end : Ending) → s ≡ Give held end → give_wanted task.site task.hash seen.path.segment held ≢ want.Done
      → give_wanted task.site task.hash seen.path.segment held ≡ wanted_by shape (give_kind task.site task.hash seen.path.segment held))
      → wanted_in task seen s ≢ want.Done → wanted_in task seen s ≡ wanted_by shape (kind_at task seen s n)
  wants_by same (Way walk) n taking within gives asks = walk_wants shape task.site task.hash walk same
  wants_by same (Lock place take) n taking within gives asks = take_fits.wants shape (lock_of task seen place) take (taking place take refl)
  wants_by same (Check back) n taking within gives asks = back_wants shape task.site task.hash seen.path (pins seen.path.segment (home_of task.hash)) back
      (back_pins shape task.site task.hash seen.path (home_of task.hash) same (within back refl))
  wants_by same (Fill place load) n taking within gives asks = refl
  wants_by same Count n taking within gives asks = ap (λ g. want.Load (counter_word g)) same ∙ count_wants n
  wants_by same (step.Make make) n taking within gives asks =
      make_fits.wants shape (publish_kind task seen) (publishing task seen (leaves_note task.change.effect seen.place)) (lock_of task seen seen.place) seen.written make
  wants_by same Draw n taking within gives asks = refl
  wants_by same (Unnote part place) n taking within gives asks = note_wants part (unnoted task.hash seen)
  wants_by same CountSpent n taking within gives asks = ap (λ g. want.Load (counter_word g)) same
  wants_by same (Give held end) n taking within gives asks = gives held end refl asks
  wants_by same (Ended end) n taking within gives asks = absurd (asks refl)

-- in a world, by the view of its caller
pub wants_in : (site : Ground) (task : Task) (seen : Seen) → IsIn site task → (v : View) (s : WriteStep) (n : ℕ) → SuitsStep site task seen s v → wanted_in task seen s ≢ want.Done
    → wanted_in task seen s ≡ wanted_by site.shape (kind_at task seen s n)
wants_in site task seen is v s n suits asks = wants_by site.shape task seen is.shape s n
    (λ place take e. let at : SuitsStep site task seen (Lock place take) v = subst (λ z. SuitsStep site task seen z v) e suits in at.3)
    (λ back e. let at : SuitsStep site task seen (Check back) v = subst (λ z. SuitsStep site task seen z v) e suits in at.0.there.within)
    (λ held end e some. let at : SuitsStep site task seen (Give held end) v = subst (λ z. SuitsStep site task seen z v) e suits in
    give_stands.wants site.shape task.site task.hash seen.path.segment held v at.locks some) asks
