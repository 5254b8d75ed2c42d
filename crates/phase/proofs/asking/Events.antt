-- What the events of the phases store is a word; and what they ask for, and the lines that they flush, lie in the image or right behind it.
use Rattle.std.proofs.Common.{◌≡◌, ℕ, ◌+◌, ◌*◌, ◌%◌, ◌^◌, ◌<◌, ◌≤◌, Option, Some, None, subst, arith}
use Rattle.std.specs.Prelude.{⊤}
use Rattle.op_core.specs.declared.want.Want.{Want}
use Rattle.op_core.specs.declared.want.Want.TheVariants as want
use Rattle.bucket_meta.specs.Bucket.{record_slots}
use Rattle.bucket_meta.specs.Marks.{finger_place}
use Rattle.trace.specs.Events.{line_of}
use Rattle.image_layout.specs.Places.{Shape, IsShape, block, words_of}
use Rattle.image_layout.specs.Volatile.{all_words_of}
use Rattle.world.specs.declared.site.Site.{Site}
use Rattle.world.specs.Ground.{Ground}
use Rattle.world.specs.Wants.{word_of}
use Rattle.part.specs.Asks.{IsWithin, PutsWord}
use Rattle.phase.specs.declared.role.Role.{Role}
use Rattle.phase.specs.declared.walk.Walk.{Walk}
use Rattle.phase.specs.declared.walk.Walk.TheVariants as walk
use Rattle.phase.specs.declared.take.Take.{Take}
use Rattle.phase.specs.declared.take.Take.TheVariants.{Look, Try}
use Rattle.phase.specs.declared.make.Record.{Record}
use Rattle.phase.specs.declared.make.Make.{Make}
use Rattle.phase.specs.declared.make.Make.TheVariants as make
use Rattle.phase.specs.Places.{lock_word}
use Rattle.phase.specs.Walks.{walk_wanted}
use Rattle.phase.specs.Takes.{take_wanted}
use Rattle.phase.specs.Makes.{make_wanted}
use Rattle.phase.specs.Helds.{give_wanted_of}
use Rattle.phase.specs.Giving.{IsLocated}
use Rattle.phase.proofs.Wanting.{number_of}
use Rattle.phase.proofs.locks.Giving.{lock_at}
use Rattle.phase.proofs.locks.Storing.{place_near}
use Rattle.phase.proofs.asking.Asking.{lock_within}

-- ---- what is stored
-- an event puts a word where the number that it leaves is one
pub puts_word : (w : Want) → number_of w < 2 ^ 64 → PutsWord w
puts_word w small = record {
  stores = λ i x e. subst (λ z. number_of z < 2 ^ 64) e small;
  exchanges = λ i a b e. subst (λ z. number_of z < 2 ^ 64) e small;
}

-- the numbers of a record that is stored are words
pub record IsSmall (r : Record) : Type 0 where
  pub key : r.key < 2 ^ 64
  pub value : r.value < 2 ^ 64
  pub fingers : r.fingers < 2 ^ 64
  pub mark : r.mark < 2 ^ 64

pub make_small : (lock : ℕ) (r : Record) (m : Make) → IsSmall r → number_of (make_wanted lock r m) < 2 ^ 64
make_small lock r make.Key s = s.key
make_small lock r make.Value s = s.value
make_small lock r make.Fingers s = s.fingers
make_small lock r make.FlushFingers s = omega arith
make_small lock r make.FlushRecord s = omega arith
make_small lock r make.FenceRecord s = omega arith
make_small lock r make.Publish s = s.mark
make_small lock r make.FlushPublished s = omega arith
make_small lock r make.FencePublished s = omega arith

pub walk_small : (here : Site) (hash : ℕ) (w : Walk) → number_of (walk_wanted here hash w) < 2 ^ 64
walk_small here hash walk.Power = omega arith
walk_small here hash walk.Root = omega arith
walk_small here hash (walk.Entry root) = omega arith
walk_small here hash (walk.Head root segment) = omega arith

-- ---- what is asked for
-- a record that is stored lies in its bucket
pub record IsInBucket (r : Record) : Type 0 where
  pub slot : r.slot < record_slots
  pub published : r.published < block

-- a line that is flushed is one of the image
abbrev pub FlushesWithin : Shape → Want → Type 0
FlushesWithin shape (want.Flush l) = 8 * l + 8 ≤ words_of shape
FlushesWithin shape w = ⊤

pub asks_within : (shape : Shape) (w : Want) → word_of shape w < all_words_of shape → FlushesWithin shape w → IsWithin shape w
asks_within shape w low line = record { word = low; line = λ l e. subst (FlushesWithin shape) e line }

-- the way flushes nothing
pub walk_line : (here : Site) (hash : ℕ) (w : Walk) → FlushesWithin here.geometry (walk_wanted here hash w)
walk_line here hash walk.Power = tt
walk_line here hash walk.Root = tt
walk_line here hash (walk.Entry root) = tt
walk_line here hash (walk.Head root segment) = tt

module _ (here : Site) (hash segment : ℕ) (shape : IsShape here.geometry) where
  abbrev lock : Role → ℕ
  lock p = lock_word here hash segment p

  -- a word of one of the buckets
  pub here_within : (p : Role) (n : ℕ) → n < block → lock p + n < all_words_of here.geometry
  here_within p n low = let w = lock_within here hash segment shape p n low in omega (arith, w)

  pub make_within : (p : Role) (r : Record) (m : Make) → IsInBucket r → word_of here.geometry (make_wanted (lock p) r m) < all_words_of here.geometry
  make_within p r make.Key b = let low = b.slot in let w = here_within p (4 + 2 * r.slot) (omega (arith, low)) in omega (arith, w)
  make_within p r make.Value b = let low = b.slot in let w = here_within p (5 + 2 * r.slot) (omega (arith, low)) in omega (arith, w)
  make_within p r make.Fingers b = let near = place_near r.slot in here_within p (finger_place r.slot) (let z = near.1 in omega (arith, z))
  make_within p r make.FlushFingers b = let near = place_near r.slot in let w = here_within p (finger_place r.slot) (let z = near.1 in omega (arith, z)) in omega (arith, w)
  make_within p r make.FlushRecord b = let low = b.slot in let w = here_within p (4 + 2 * r.slot) (omega (arith, low)) in omega (arith, w)
  make_within p r make.FenceRecord b = omega arith
  make_within p r make.Publish b = here_within p r.published b.published
  make_within p r make.FlushPublished b = let w = here_within p r.published b.published in omega (arith, w)
  make_within p r make.FencePublished b = omega arith

  pub take_within : (p : Role) (t : Take) → word_of here.geometry (take_wanted (lock p) t) < all_words_of here.geometry
  take_within p Look = let w = here_within p 0 (omega arith) in omega (arith, w)
  take_within p (Try free) = let w = here_within p 0 (omega arith) in omega (arith, w)

  pub give_within : (next : Option (Role × ℕ)) → word_of here.geometry (give_wanted_of here hash segment next) < all_words_of here.geometry
  give_within (Some next) = let w = here_within next.0 0 (omega arith) in omega (arith, w)
  give_within None = omega arith

  -- ---- and the lines
  module _ (site : Ground) (at : IsLocated site here segment) where
    line_here : (p : Role) (k : ℕ) → k < block → 8 * line_of (lock p + k) + 8 ≤ words_of here.geometry
    line_here p k low =
        let e = lock_at site here hash segment at p in
        let w = lock_within here hash segment shape p 31 (omega arith) in
        let even : lock p % 32 ≡ 0 = omega (arith, e) in
        omega (arith, even, w, low)

    pub make_line : (p : Role) (r : Record) (m : Make) → IsInBucket r → FlushesWithin here.geometry (make_wanted (lock p) r m)
    make_line p r make.FlushFingers b = let near = place_near r.slot in line_here p (finger_place r.slot) (let z = near.1 in omega (arith, z))
    make_line p r make.FlushRecord b = let low = b.slot in subst (λ x. 8 * line_of x + 8 ≤ words_of here.geometry) (omega arith) (line_here p (4 + 2 * r.slot) (omega (arith, low)))
    make_line p r make.FlushPublished b = line_here p r.published b.published
    make_line p r m b = tt

  pub take_line : (p : Role) (t : Take) → FlushesWithin here.geometry (take_wanted (lock p) t)
  take_line p Look = tt
  take_line p (Try free) = tt

  pub give_line : (next : Option (Role × ℕ)) → FlushesWithin here.geometry (give_wanted_of here hash segment next)
  give_line (Some next) = tt
  give_line None = tt
