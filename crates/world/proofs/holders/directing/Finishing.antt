-- What who has a segment whole may do to end its split, and to open it then.
use Rattle.std.proofs.Common.{ℕ, ◌+◌, ◌<◌, ◌≤◌, inl, arith}
use Rattle.image_layout.specs.Places.{Shape, block, bucket_at}
use Rattle.world.specs.Ground.{Ground, IsGround}
use Rattle.world.specs.Views.{View, HasLock}
use Rattle.world.specs.areas.Fitting.{HoldsWord}
use Rattle.world.specs.areas.Splitting.{MayFinish}
use Rattle.world.proofs.holders.publishing.Opening.{may_open}
use Rattle.world.proofs.holders.directing.Clearing.{clear, rebuild}
use Rattle.world.proofs.holders.directing.Ending.{finish}

-- a word behind a lock that is held is held
under_own : (v : View) (shape : Shape) (s b m : ℕ) → HasLock v.held (bucket_at shape s b) → 1 ≤ m → m < block → HoldsWord shape v (bucket_at shape s b + m)
under_own v shape s b m lock from inside = inl (bucket_at shape s b, lock, (omega (arith, from), omega (arith, inside)))

pub may_finish : (site : Ground) (v : View) → IsGround site → MayFinish site v
may_finish site v ground = record {
  clear = λ s b x d p word holder holds lacks known clears. clear site ground v holder s b holds.slot holds.bucket holds.no_side x d p word lacks known clears
      (under_own v site.shape s b 1 holds.lock (omega arith) (omega arith));
  end = λ s x word holder whole guard sides head splits lacks deep becomes. finish site ground v s x word holder (λ _ _ _. whole) guard sides head.slot head.header splits lacks deep becomes;
  rebuild = λ s b m x w holder holds from to known same. rebuild site ground v holder s b holds.slot holds.bucket holds.no_side m x w from to
      (under_own v site.shape s b m holds.lock from (omega (arith, to))) known same;
  reopens = λ s b x word holder whole near held head is known firm own once exact. may_open site ground v s b x word holder whole near held head is known firm own once exact;
}
