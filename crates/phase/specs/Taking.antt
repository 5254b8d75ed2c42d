-- How the taking of a lock fits the world: the kind of each event, what the view is after it, and by what each end comes.
use Rattle.std.specs.Prelude.{◌≡◌, ℕ, ◌^◌, ◌<◌, ⊤, List, ◌∷◌, ◌++◌}
use Rattle.op_core.specs.declared.want.Ans.{Ans}
use Rattle.op_core.specs.Answers.{IsAnswer, load_of}
use Rattle.trace.specs.Events.{Words}
use Rattle.bucket_meta.specs.Bucket.{lock_bit, locked, given_back}
use Rattle.image_layout.specs.Places.{Shape}
use Rattle.map_model.specs.declared.call.Call.{Call}
use Rattle.world.specs.Ground.{Ground, spent_lock}
use Rattle.world.specs.Views.{View, Has}
use Rattle.world.specs.Wants.{answer_to}
use Rattle.world.specs.Kinds.{Kind, meets_lock, tries, wanted, view_after}
use Rattle.world.specs.Conditions.{May, IsKnownLock}
use Rattle.part.specs.Doings.{Doings}
use Rattle.part.specs.Causes.{IsOwnLock, IsTaken, HasMoved, Looked}
use Rattle.phase.specs.declared.take.Take.{Take}
use Rattle.phase.specs.declared.take.Take.TheVariants.{Look, Try}
use Rattle.phase.specs.declared.take.Taken.{Taken}
use Rattle.phase.specs.declared.take.Taken.TheVariants as taken
use Rattle.phase.specs.Takes.{take_wanted, take_taken}

abbrev pub take_kind : ℕ → Take → Kind
take_kind lock Look = meets_lock lock
take_kind lock (Try free) = tries lock free

-- a free value with which a lock may be taken: even, and not of the last version
abbrev pub MayBeTaken : ℕ → Type 0
MayBeTaken free = (lock_bit free ≡ 0) × (given_back free < 2 ^ 64)

abbrev pub IsTaking : Take → Type 0
IsTaking Look = ⊤
IsTaking (Try free) = MayBeTaken free

-- ---- the view
-- a view is another, but for the lock words that were found spent
abbrev pub IsButSpent : View → View → Type 0
IsButSpent v u = (locks : List ℕ) × (u ≡ record v { spent_locks = locks })

-- THE VIEW AFTER an answer, beside the one before: with the lock in front of those that it held, where it is held; and else as it
-- was, but for the lock words that were found spent
abbrev pub HasTaken : ℕ → View → Taken → View → Type 0
HasTaken lock v (taken.On take) u = IsTaking take × IsButSpent v u
HasTaken lock v (taken.Held free) u = MayBeTaken free × (u ≡ record v { held = (lock, locked free) ∷ v.held })
HasTaken lock v taken.Spent u = Has lock u.spent_locks × IsButSpent v u
HasTaken lock v end u = IsButSpent v u

-- ---- at most so many events are left
abbrev pub take_left : Take → ℕ
take_left Look = 2
take_left (Try free) = 1

abbrev pub taken_left : Taken → ℕ
taken_left (taken.On take) = take_left take
taken_left end = 0

-- ---- causes, for an attempt that loaded these words
module _ (lock : ℕ) (loads : List (ℕ × ℕ)) where
  -- what is kept was loaded
  abbrev pub RemembersTake : Take → Type 0
  RemembersTake Look = ⊤
  RemembersTake (Try free) = Has (lock, free) loads

  abbrev pub RemembersTaken : Taken → Type 0
  RemembersTaken (taken.On take) = RemembersTake take
  RemembersTaken (taken.Held free) = Has (lock, free) loads
  RemembersTaken taken.Spent = Has (lock, spent_lock) loads
  RemembersTaken end = ⊤

-- THE CAUSE of each end, for an attempt of this call that did this
abbrev pub HasTakeCause : Shape → Words → Doings → Call → ℕ → Take → Taken → Type 0
HasTakeCause shape words did call lock take (taken.Busy seen) = Looked shape words did call (take_wanted lock take) lock seen × IsTaken shape words did call lock seen
HasTakeCause shape words did call lock take (taken.Moved before after) = Looked shape words did call (take_wanted lock take) lock after × HasMoved shape words did call lock before after
HasTakeCause shape words did call lock take more = ⊤

-- ---- the laws
-- each event is of its kind, which a view may take for the lock word of a segment that it knows to be live and current
pub record TakeFits : Type 0 where
  pub wants : (shape : Shape) (lock : ℕ) (take : Take) → IsTaking take → take_wanted lock take ≡ wanted shape (take_kind lock take)
  pub may : (site : Ground) (lock : ℕ) (take : Take) (v : View) → IsKnownLock site v lock → IsTaking take → May site (take_kind lock take) v

-- WHAT IS KNOWN while a lock is taken is kept by each event, which leaves the view so
abbrev pub TakeStands : Type 0
TakeStands = (shape : Shape) (lock : ℕ) (take : Take) (v : View) (n : ℕ) → IsTaking take → n < 2 ^ 64
    → HasTaken lock v (take_taken take (answer_to (take_wanted lock take) n)) (view_after shape (take_kind lock take) n v)

abbrev pub TakeFalls : Type 0
TakeFalls = (lock : ℕ) (take : Take) (a : Ans) → IsAnswer (take_wanted lock take) a → taken_left (take_taken take a) < take_left take

-- WHAT IS KEPT was loaded
abbrev pub TakeRemembers : Type 0
TakeRemembers = (lock : ℕ) (loads : List (ℕ × ℕ)) (take : Take) (a : Ans) → RemembersTake lock loads take → RemembersTaken lock (load_of (take_wanted lock take) a ++ loads) (take_taken take a)

-- EACH END HAS ITS CAUSE, for a lock word of the call's key that the attempt did not change itself
abbrev pub TakeHasCauses : Type 0
TakeHasCauses = (shape : Shape) (words : Words) (did : Doings) (call : Call) (lock : ℕ) → IsOwnLock shape words did call lock → (Has lock did.changed → ⊥)
    → (take : Take) → IsTaking take → RemembersTake lock did.loads take
    → HasTakeCause shape words did call lock take (take_taken take (answer_to (take_wanted lock take) (words lock)))
