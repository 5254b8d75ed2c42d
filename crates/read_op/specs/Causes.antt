-- What a get asks of the memory and by what its answer comes, in any state; and its ends in a world, beside any other callers.
use Rattle.std.specs.Prelude.{◌≡◌, ◌≢◌, ℕ, Option, List, []}
use Rattle.op_core.specs.declared.want.Want.TheVariants.{Done}
use Rattle.op_core.specs.declared.want.Ans.TheVariants.{Value}
use Rattle.op_core.specs.declared.why.Why.TheVariants.{Busy}
use Rattle.op_core.specs.Answers.{IsReading}
use Rattle.bucket_meta.specs.Bucket.{lock_bit}
use Rattle.trace.specs.Events.{Words}
use Rattle.world.specs.Ground.{Ground, IsLockWord, IsCurrentLock}
use Rattle.world.specs.Views.{View, At, HasLock}
use Rattle.world.specs.Invariant.{Holds}
use Rattle.phase.specs.Stands.{IsCurrent}
use Rattle.phase.specs.declared.role.Role.{Role}
use Rattle.read_op.specs.declared.step.Seen.{Seen}
use Rattle.read_op.specs.declared.step.ReadEnd.{ReadEnd}
use Rattle.read_op.specs.declared.step.ReadEnd.TheVariants as ends
use Rattle.read_op.specs.declared.step.ReadStep.{ReadStep}
use Rattle.read_op.specs.declared.step.ReadStep.TheVariants.{Relook, Ended}
use Rattle.read_op.specs.declared.op.ReadOp.{ReadOp}
use Rattle.read_op.specs.Places.{free_at}
use Rattle.read_op.specs.Steps.{wanted, taken, end_of}
use Rattle.read_op.specs.Fits.{IsIn, Suits, next_op}

-- ---- whatever words there are
-- A GET ONLY READS, in any state: it stores to no word and tries no exchange
abbrev pub ReadsAlone : Type 0
ReadsAlone = (op : ReadOp) → IsReading (wanted op)

-- in this step the event that finds this value loads a lock word again, and finds it free and as it was; what is answered, and its
-- place, were found between the two looks
pub record FindsSame (step : ReadStep) (n : ℕ) (value : Option ℕ) (place : ℕ) : Type 0 where
  pub seen : Seen
  pub last : Role
  pub at_last : step ≡ Relook seen place last
  pub same : n ≡ free_at seen.free last
  pub even : lock_bit n ≢ 1
  pub value_is : seen.value ≡ value

-- AN ANSWER comes by such an event
abbrev pub AnswersBySame : Type 0
AnswersBySame = (op : ReadOp) (n : ℕ) (value : Option ℕ) (place : ℕ) → wanted op ≢ Done → (taken op (Value n)).step ≡ Ended (end_of value place) → FindsSame op.step n value place

-- ---- in a world
-- a lock is another's than the caller's in this seat, who has this view: not this caller, but another seat holds it
pub record IsAnothers (views : List View) (j : ℕ) (v : View) (lock : ℕ) : Type 0 where
  pub not_own : HasLock v.held lock → ⊥
  pub seat : ℕ
  pub elsewhere : seat ≢ j
  pub holder : View
  pub there : At views seat holder
  pub holds : HasLock holder.held lock

module _ (site : Ground) (op : ReadOp) (words : Words) where
  -- the next event ends the get so
  abbrev pub EndsSo : ReadEnd → Type 0
  EndsSo end = (next_op site op words).step ≡ Ended end

-- for a caller that holds no lock, a lock that is told busy is one of the image's, odd in the newest words, and another's
abbrev pub BusyIsAnothers : Type 0
BusyIsAnothers = (site : Ground) (op : ReadOp) (words : Words) (views : List View) (j : ℕ) (v : View) → Holds site words views → At views j v
    → IsIn site op.task → Suits site op v → v.held ≡ [] → wanted op ≢ Done
    → (word value : ℕ) → EndsSo site op words (ends.Again (Busy word value)) → IsLockWord site.shape word × (words word ≡ value) × (lock_bit value ≡ 1) × IsAnothers views j v word

-- where no lock of a current segment is taken, none is found taken
abbrev pub NeverBusy : Type 0
NeverBusy = (site : Ground) (op : ReadOp) (words : Words) (views : List View) (j : ℕ) (v : View) → Holds site words views → At views j v
    → IsIn site op.task → Suits site op v → wanted op ≢ Done → ((lock : ℕ) → IsCurrentLock site words lock → lock_bit (words lock) ≡ 0)
    → (word value : ℕ) → EndsSo site op words (ends.Again (Busy word value)) → ⊥

-- where each live segment has the image's version, no segment is stale
abbrev pub NeverStale : Type 0
NeverStale = (site : Ground) (op : ReadOp) (words : Words) (views : List View) (j : ℕ) (v : View) → Holds site words views → At views j v
    → IsIn site op.task → Suits site op v → wanted op ≢ Done → IsCurrent site.shape words op.task.site.version
    → (segment byte : ℕ) → EndsSo site op words (ends.Stale segment byte) → ⊥
