-- A lock is taken: each event is of its kind, what the view is after it, and the cause of each end.
use Rattle.std.proofs.Common.{◌≡◌, ℕ, ◌+◌, ◌-◌, ◌%◌, ◌^◌, ◌<◌, Bool, true, false, List, ◌∷◌, inl, inr, refl, sym, ap, ◌∙◌, subst, arith}
use Rattle.std.specs.Prelude.{◌==◌, if◌then◌else◌}
use Rattle.std.proofs.lemmas.Bool.{eqb-true, eqb-false, lt-ltb}
use Rattle.op_core.specs.declared.want.Want.{Want}
use Rattle.op_core.specs.declared.want.Want.TheVariants.{Exchange}
use Rattle.op_core.specs.declared.want.Ans.TheVariants.{Value, Won, Lost}
use Rattle.op_core.specs.Answers.{Finds}
use Rattle.trace.specs.Events.{Words}
use Rattle.image_layout.specs.Places.{Shape, root_word, bucket_at}
use Rattle.sound_image.specs.Records.{key_hash}
use Rattle.map_model.specs.declared.call.Call.{Call}
use Rattle.map_model.specs.Map.{key_of}
use Rattle.world.specs.Ground.{Ground}
use Rattle.world.specs.Views.{View, Has}
use Rattle.world.specs.Kinds.{wanted, with_spent, with_lock}
use Rattle.world.specs.Conditions.{May, IsKnownLock}
use Rattle.part.specs.Doings.{Doings}
use Rattle.part.specs.Causes.{IsLockThere, IsOwnLock}
use Rattle.phase.specs.declared.take.Take.{Take}
use Rattle.phase.specs.declared.take.Take.TheVariants.{Look, Try}
use Rattle.phase.specs.declared.take.Taken.TheVariants.{On, Busy, Moved, Spent}
use Rattle.phase.specs.Takes.{take_wanted, take_taken}
use Rattle.phase.specs.Taking.{take_kind, MayBeTaken, IsTaking, HasTaken, taken_left, RemembersTaken, HasTakeCause, TakeFits, TakeStands, TakeFalls, TakeRemembers, TakeHasCauses}

-- ---- each event is of its kind
wants : (shape : Shape) (lock : ℕ) (take : Take) → IsTaking take → take_wanted lock take ≡ wanted shape (take_kind lock take)
wants shape lock Look is = refl
wants shape lock (Try free) is = let low = is.1 in ap (λ z. Exchange lock free z) (omega (arith, low))

may : (site : Ground) (lock : ℕ) (take : Take) (v : View) → IsKnownLock site v lock → IsTaking take → May site (take_kind lock take) v
may site lock Look v known is = known
may site lock (Try free) v known is = (known, is.0, (λ last. let low = is.1 in omega (arith, last, low)))

pub take_fits : TakeFits
take_fits = record { wants = wants; may = may }

-- ---- the view after it
module _ (lock : ℕ) (v : View) (n : ℕ) where
  look_by : n < 2 ^ 64 → (odd spent : Bool) → (n % 2 == 1) ≡ odd → (n == 2 ^ 64 - 2) ≡ spent
      → HasTaken lock v (if odd then Busy n else if spent then Spent else On (Try n)) (record v { spent_locks = with_spent spent lock v.spent_locks })
  look_by small true spent o s = (with_spent spent lock v.spent_locks, refl)
  look_by small false true o s = (inl refl, (lock ∷ v.spent_locks, refl))
  look_by small false false o s =
      let even = eqb-false (n % 2) 1 o in
      let other = eqb-false n (2 ^ 64 - 2) s in
      ((omega (arith, even), omega (arith, even, other, small)), (v.spent_locks, refl))

  lost_by : (free : ℕ) (odd : Bool) → HasTaken lock v (if odd then Busy n else Moved free n) v
  lost_by free true = (v.spent_locks, refl)
  lost_by free false = (v.spent_locks, refl)

  try_by : (free : ℕ) → MayBeTaken free → (won : Bool) → HasTaken lock v (take_taken (Try free) (if won then Won else Lost n)) (with_lock won lock free v)
  try_by free is true = (is, refl)
  try_by free is false = lost_by free (n % 2 == 1)

pub take_stands : TakeStands
take_stands shape lock Look v n is small = look_by lock v n small (n % 2 == 1) (n == 2 ^ 64 - 2) refl refl
take_stands shape lock (Try free) v n is small = try_by lock v n free is (n == free)

-- ---- fewer events are left
look_most : (n : ℕ) (odd spent : Bool) → taken_left (if odd then Busy n else if spent then Spent else On (Try n)) < 2
look_most n true spent = omega arith
look_most n false true = omega arith
look_most n false false = omega arith

lost_most : (free n : ℕ) (odd : Bool) → taken_left (if odd then Busy n else Moved free n) < 1
lost_most free n true = omega arith
lost_most free n false = omega arith

pub take_falls : TakeFalls
take_falls lock Look (Value n) i = look_most n (n % 2 == 1) (n == 2 ^ 64 - 2)
take_falls lock (Try free) Won i = omega arith
take_falls lock (Try free) (Lost n) i = lost_most free n (n % 2 == 1)
take_falls lock take a i = absurd i

-- ---- what is kept was loaded
module _ (lock : ℕ) (loads : List (ℕ × ℕ)) (n : ℕ) where
  look_kept : (odd spent : Bool) → (n == 2 ^ 64 - 2) ≡ spent → RemembersTaken lock ((lock, n) ∷ loads) (if odd then Busy n else if spent then Spent else On (Try n))
  look_kept true spent s = tt
  look_kept false true s = inl (ap (λ z. (lock, z)) (sym (eqb-true n (2 ^ 64 - 2) s)))
  look_kept false false s = inl refl

  lost_kept : (free : ℕ) (odd : Bool) → RemembersTaken lock loads (if odd then Busy n else Moved free n)
  lost_kept free true = tt
  lost_kept free false = tt

pub take_remembers : TakeRemembers
take_remembers lock loads Look (Value n) r = look_kept lock loads n (n % 2 == 1) (n == 2 ^ 64 - 2) refl
take_remembers lock loads Look a r = tt
take_remembers lock loads (Try free) (Lost n) r = lost_kept lock loads n free (n % 2 == 1)
take_remembers lock loads (Try free) a r = r

-- ---- causes
module _ (shape : Shape) (words : Words) (did : Doings) (call : Call) (lock : ℕ) (own : IsOwnLock shape words did call lock) (not_own : Has lock did.changed → ⊥) where
  there : IsLockThere shape (key_hash shape (key_of call)) did.loads call lock
  there = (own.0, own.1, own.3, own.4, own.5 ∙ sym (ap (λ t. if t then bucket_at shape own.0 own.3 else root_word) (lt-ltb own.0 shape.segments own.2)))

  look_caused : (odd spent : Bool) → (words lock % 2 == 1) ≡ odd
      → HasTakeCause shape words did call lock Look (if odd then Busy (words lock) else if spent then Spent else On (Try (words lock)))
  look_caused true spent o = ((refl, refl), record { own = own; newest = refl; odd = eqb-true (words lock % 2) 1 o; by_others = not_own })
  look_caused false true o = tt
  look_caused false false o = tt

  module _ (free : ℕ) (is : MayBeTaken free) (r : Has (lock, free) did.loads) where
    abbrev event : Want
    event = Exchange lock free ((free + 1) % 2 ^ 64)

    module _ (other : (words lock == free) ≡ false) where
      looked : Finds event (if words lock == free then Won else Lost (words lock)) lock (words lock)
      looked = subst (λ b. Finds event (if b then Won else Lost (words lock)) lock (words lock)) (sym other) (refl, refl)

      lost_caused : (odd : Bool) → (words lock % 2 == 1) ≡ odd
          → HasTakeCause shape words did call lock (Try free) (if odd then Busy (words lock) else Moved free (words lock))
      lost_caused true o = (looked, record { own = own; newest = refl; odd = eqb-true (words lock % 2) 1 o; by_others = not_own })
      lost_caused false o = (
        looked,
        record {
          watched = inr (there, is.0, (let even = eqb-false (words lock % 2) 1 o in omega (arith, even)));
          loaded = r;
          newest = refl;
          differ = λ same. eqb-false (words lock) free other (sym same);
          by_others = not_own;
        },
      )

    try_caused : (won : Bool) → (words lock == free) ≡ won → HasTakeCause shape words did call lock (Try free) (take_taken (Try free) (if won then Won else Lost (words lock)))
    try_caused true e = tt
    try_caused false e = lost_caused e (words lock % 2 == 1) refl

pub take_caused : TakeHasCauses
take_caused shape words did call lock own not_own Look is r = look_caused shape words did call lock own not_own (words lock % 2 == 1) (words lock == 2 ^ 64 - 2) refl
take_caused shape words did call lock own not_own (Try free) is r = try_caused shape words did call lock own not_own free is r (words lock == free) refl
