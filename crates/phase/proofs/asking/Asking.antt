-- The words that the phases ask for lie in the image or right behind it.
use Rattle.std.proofs.Common.{◌≡◌, ℕ, ◌+◌, ◌^◌, ◌<◌, Bool, true, false, refl, arith}
use Rattle.std.specs.Prelude.{if◌then◌else◌, nat_lt, nat_le}
use Rattle.std.proofs.lemmas.Bool.{ltb-true, leb-true}
use Rattle.hash_word.specs.Hash.{index_of}
use Rattle.image_layout.specs.Places.{Shape, IsShape, root_word, entry_at, head_at, bucket_at, buckets, words_of}
use Rattle.image_layout.proofs.Areas.{entry_before}
use Rattle.way.specs.Ways.{entry_word, head_word, bucket_word}
use Rattle.way.proofs.Indexes.{index_below}
use Rattle.world.specs.declared.site.Site.{Site}
use Rattle.phase.specs.declared.walk.Walk.TheVariants as walk
use Rattle.phase.specs.declared.back.Back.TheVariants as back
use Rattle.phase.specs.declared.role.Role.{Role}
use Rattle.phase.specs.Places.{bucket_of_role, lock_word}
use Rattle.phase.specs.Laws.{WalkAsksWithin, BackAsksWithin}
use Rattle.phase.proofs.locks.Giving.{bucket_near}

-- ---- words of the image
module _ (shape : Shape) (is : IsShape shape) where
  root_within : (n : ℕ) → n < 32 → root_word + n < words_of shape
  root_within n below = let some = is.some in omega (arith, some, below)

  entry_by : (hash root : ℕ) → hash < 2 ^ 64 → (b : Bool) → nat_le root shape.depth ≡ b → (if b then entry_at root (index_of root hash) else root_word) < words_of shape
  entry_by hash root fits true low =
      let most = is.depth in
      let within = leb-true root shape.depth low in
      let index = index_below root hash (omega (arith, within, most)) fits in
      let before = entry_before shape root (index_of root hash) within index in
      omega (arith, before)
  entry_by hash root fits false low = let first = root_within 0 (omega arith) in omega (arith, first)

  head_by : (segment : ℕ) (b : Bool) → nat_lt segment shape.segments ≡ b → (if b then head_at shape segment + 1 else root_word) < words_of shape
  head_by segment true low = let under = ltb-true segment shape.segments low in omega (arith, under)
  head_by segment false low = let first = root_within 0 (omega arith) in omega (arith, first)

  bucket_by : (segment bucket n : ℕ) → bucket < buckets → n < 32 → (b : Bool) → nat_lt segment shape.segments ≡ b
      → (if b then bucket_at shape segment bucket else root_word) + n < words_of shape
  bucket_by segment bucket n near below true low = let under = ltb-true segment shape.segments low in omega (arith, under, near, below)
  bucket_by segment bucket n near below false low = root_within n below

  pub entry_within : (hash root : ℕ) → hash < 2 ^ 64 → entry_word shape hash root < words_of shape
  entry_within hash root fits = entry_by hash root fits _ refl

  pub head_within : (segment : ℕ) → head_word shape segment < words_of shape
  head_within segment = head_by segment _ refl

  pub bucket_within : (segment bucket n : ℕ) → bucket < buckets → n < 32 → bucket_word shape segment bucket + n < words_of shape
  bucket_within segment bucket n near below = bucket_by segment bucket n near below _ refl

-- ---- the way, and the way again
pub walk_within : WalkAsksWithin
walk_within here hash is fits walk.Power = let some = is.some in omega (arith, some)
walk_within here hash is fits walk.Root = let low = root_within here.geometry is 0 (omega arith) in omega (arith, low)
walk_within here hash is fits (walk.Entry root) = let low = entry_within here.geometry is hash root fits in omega (arith, low)
walk_within here hash is fits (walk.Head root segment) = let low = head_within here.geometry is segment in omega (arith, low)

pub back_within : BackAsksWithin
back_within here hash is fits path back.Root = let low = root_within here.geometry is 0 (omega arith) in omega (arith, low)
back_within here hash is fits path back.Entry = let low = entry_within here.geometry is hash path.root fits in omega (arith, low)
back_within here hash is fits path back.Head = let low = head_within here.geometry is path.segment in omega (arith, low)

-- ---- a word of one of the six buckets
pub lock_within : (here : Site) (hash segment : ℕ) → IsShape here.geometry → (place : Role) (n : ℕ) → n < 32 → lock_word here hash segment place + n < words_of here.geometry
lock_within here hash segment is place n below = bucket_within here.geometry is segment (bucket_of_role hash place) n (bucket_near hash place) below
