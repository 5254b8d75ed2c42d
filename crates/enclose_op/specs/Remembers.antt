-- What an enclosing remembers of what its attempt did, in each step: which words it changed, and which it loaded, as they are kept.
use Rattle.std.specs.Prelude.{◌≡◌, ◌≢◌, ℕ, ◌<◌, ⊤, [], slice_index}
use Rattle.bucket_meta.specs.Bucket.{lock_place}
use Rattle.image_layout.specs.Places.{numbered_at, buckets, place_in_bucket}
use Rattle.image_layout.specs.Volatile.{segment_guard}
use Rattle.world.specs.Ground.{Ground, spent_lock}
use Rattle.world.specs.Views.{Has}
use Rattle.part.specs.Doings.{Doings}
use Rattle.phase.specs.Taking.{RemembersTake}
use Rattle.enclose_op.specs.declared.enclosed.Enclosed.{Enclosed}
use Rattle.enclose_op.specs.declared.op.EncloseStep.{EncloseStep}
use Rattle.enclose_op.specs.declared.op.EncloseStep.TheVariants.{Guard, Lock, Head, Fill, CountSpent, CountDeep, Give, Ended, Whole}
use Rattle.enclose_op.specs.Whole.{HasTakenBefore, HasChangedOnly, HasLoadedHeader, RemembersWhole}
use Rattle.enclose_op.specs.Giving.{lock_of}

module _ (site : Ground) (e : Enclosed) (did : Doings) where
  -- the guard and the locks before this bucket were taken, and no other word was changed
  pub record RemembersLocks (to : ℕ) : Type 0 where
    pub taken : HasTakenBefore site e did to
    pub only : HasChangedOnly site e did to

  -- all of them, and the header and the words before this one were loaded
  pub record RemembersWords (at : ℕ) : Type 0 where
    pub locks : RemembersLocks buckets
    pub header : HasLoadedHeader site e did
    pub words : (j : ℕ) → j < at → place_in_bucket j ≢ lock_place → Has (numbered_at site.shape e.segment j, slice_index e.buckets j) did.loads

  -- the guard was taken, and the lock word of this bucket was loaded as free with its last version
  pub record RemembersSpent (b : ℕ) : Type 0 where
    pub near : b < buckets
    pub guard : Has (segment_guard site.shape e.segment) did.changed
    pub spent : Has (lock_of e b, spent_lock) did.loads

  -- IN EACH STEP; once it is decided nothing has to be remembered
  abbrev pub RemembersAt : EncloseStep → Type 0
  RemembersAt Guard = did.changed ≡ []
  RemembersAt (Lock b take) = RemembersLocks b × RemembersTake (lock_of e b) did.loads take
  RemembersAt Head = RemembersLocks buckets
  RemembersAt (Fill at) = RemembersWords at
  RemembersAt (CountSpent b) = RemembersSpent b
  RemembersAt CountDeep = RemembersWhole site e did
  RemembersAt Whole = RemembersWhole site e did
  RemembersAt (Give give end) = ⊤
  RemembersAt (Ended end) = ⊤
