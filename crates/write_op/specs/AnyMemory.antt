-- WHATEVER VALUES ITS EVENTS FIND: what a change keeps was loaded, its events are of their kinds and ask for words of the image or right
-- behind it, a lock is tried with a free value, and a word by which it is told to try again is none that it changed itself. No world, and no
-- other caller, is named.
use Rattle.std.specs.Prelude.{◌≡◌, ◌≢◌, ℕ, ◌^◌, ◌<◌, None, Some, List, [], ◌∷◌}
use Rattle.op_core.specs.declared.want.Want.TheVariants.{Done}
use Rattle.op_core.specs.declared.want.Ans.{Ans}
use Rattle.op_core.specs.declared.why.Why.{Why}
use Rattle.op_core.specs.declared.why.Why.TheVariants.{Busy, Moved}
use Rattle.image_layout.specs.Places.{IsShape}
use Rattle.image_layout.specs.Volatile.{all_words_of}
use Rattle.map_model.specs.declared.change.Change.{Change}
use Rattle.world.specs.declared.site.Site.{Site}
use Rattle.world.specs.Views.{Has}
use Rattle.world.specs.Wants.{answer_to, word_of}
use Rattle.world.specs.Kinds.{wanted as wanted_by}
use Rattle.part.specs.Doings.{Doings, with_event_of, nothing_done}
use Rattle.part.specs.Outcomes.{again}
use Rattle.phase.specs.declared.role.Role.{Role}
use Rattle.phase.specs.declared.take.Take.TheVariants.{Try}
use Rattle.phase.specs.Taking.{MayBeTaken}
use Rattle.write_op.specs.declared.step.WriteStep.TheVariants.{Lock}
use Rattle.write_op.specs.declared.op.WriteOp.{WriteOp}
use Rattle.write_op.specs.Steps.{begun, wanted, taken}
use Rattle.write_op.specs.Fits.{kind_of, outcome_at}
use Rattle.write_op.specs.ChangePart.{RemembersIn}

-- the change after events that found these values
abbrev pub after_all : WriteOp → List ℕ → WriteOp
after_all op [] = op
after_all op (n ∷ rest) = after_all (taken op (answer_to (wanted op) n)) rest

-- and what its attempt did by them, beside what it did before
abbrev pub did_all : WriteOp → List ℕ → Doings → Doings
did_all op [] did = did
did_all op (n ∷ rest) did = did_all (taken op (answer_to (wanted op) n)) rest (with_event_of (wanted op) (answer_to (wanted op) n) did)

-- by what it remembers in its step: the words on the way to its segment, those of each bucket that it asked for, the lock words that
-- it holds, which are all that it changed before its stores, and the lock that was found spent
abbrev pub HasLoadedKept : WriteOp → Doings → Type 0
HasLoadedKept op did = RemembersIn op.task op.stage.seen did op.stage.step

-- WHAT IS KEPT WAS LOADED, by this attempt
abbrev pub KeepsLoads : Type 0
KeepsLoads = (change : Change) (here : Site) (found : List ℕ) → HasLoadedKept (after_all (begun change here) found) (did_all (begun change here) found nothing_done)

-- EACH EVENT IS OF ITS KIND, by the value that it finds, where those that were found before are words
abbrev pub EventsHaveKinds : Type 0
EventsHaveKinds = (change : Change) (here : Site) (found : List ℕ) (n : ℕ) → ((m : ℕ) → Has m found → m < 2 ^ 64) → wanted (after_all (begun change here) found) ≢ Done
    → wanted (after_all (begun change here) found) ≡ wanted_by (after_all (begun change here) found).task.site.geometry (kind_of (after_all (begun change here) found) n)

-- A LOCK IS TRIED with a free value that has a next version
abbrev pub TriesFree : Type 0
TriesFree = (change : Change) (here : Site) (found : List ℕ) → ((m : ℕ) → Has m found → m < 2 ^ 64)
    → (place : Role) (free : ℕ) → (after_all (begun change here) found).stage.step ≡ Lock place (Try free) → MayBeTaken free

-- EACH WORD THAT IT ASKS FOR is one of the image, or one of those right behind it; of a flush it is the first word of its line
abbrev pub AsksInside : Type 0
AsksInside = (change : Change) (here : Site) (found : List ℕ) → IsShape here.geometry → change.key < 2 ^ 64
    → word_of here.geometry (wanted (after_all (begun change here) found)) < all_words_of here.geometry

-- the word by which a change is told to try again
abbrev pub told_word : Why → ℕ
told_word (Busy word value) = word
told_word (Moved word before after) = word

-- WHAT MOVED, OR WAS TAKEN, IS NOT ITS OWN DOING: an attempt that is told to try again has not changed the word that it is told, however
-- the event is answered that decides it
abbrev pub AgainByOthers : Type 0
AgainByOthers = (change : Change) (here : Site) (found : List ℕ) (a : Ans) (why : Why) → IsShape here.geometry → change.key < 2 ^ 64
    → outcome_at (after_all (begun change here) found).stage.step ≡ None → outcome_at (taken (after_all (begun change here) found) a).stage.step ≡ Some (again why)
    → Has (told_word why) (did_all (begun change here) found nothing_done).changed → ⊥
