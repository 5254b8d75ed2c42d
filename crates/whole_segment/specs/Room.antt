-- Where a segment has no room for a hash: its two buckets and the stash are full, and no record of the two can be moved.
use Rattle.std.specs.Prelude.{ℕ, zero, suc, ◌⊎◌, Bool, true, not, ◌==◌, ◌&&◌, ◌||◌}
use Rattle.hash_word.specs.Hash.{probing_of, next_of, previous_of}
use Rattle.bucket_meta.specs.Bucket.{member, record_slots}
use Rattle.bucket_meta.specs.Search.{is_taken}
use Rattle.bucket_meta.specs.Slots.{IsFull, HasOnlyMembers, HasNoMembers}
use Rattle.image_layout.specs.Places.{homes, second_stash}

-- the two buckets of a home and both stash buckets are full, by word 1 of each bucket
pub record IsCrowded (first : ℕ → ℕ) (home : ℕ) : Type 0 where
  pub own : IsFull (first home)
  pub probing : IsFull (first (probing_of home))
  pub stash : IsFull (first homes)
  pub last : IsFull (first second_stash)

-- no record of the probing bucket can move on to the next bucket, and none of the home bucket back to the previous one
pub record NothingMoves (first : ℕ → ℕ) (home : ℕ) : Type 0 where
  pub forward : HasOnlyMembers (first (probing_of home)) ⊎ IsFull (first (next_of home))
  pub backward : HasNoMembers (first home) ⊎ IsFull (first (previous_of home))

-- NO ROOM for a record of this home
pub record HasNoRoom (first : ℕ → ℕ) (home : ℕ) : Type 0 where
  pub crowded : IsCrowded first home
  pub moves : NothingMoves first home

-- ---- the same as a test
-- each slot below n passes
unfoldable pub all_below : (ℕ → Bool) → ℕ → Bool
all_below test zero = true
all_below test (suc n) = test n && all_below test n

abbrev pub is_full : ℕ → Bool
is_full w1 = all_below (λ r. is_taken w1 r) record_slots

abbrev pub has_only_members : ℕ → Bool
has_only_members w1 = all_below (λ r. not (is_taken w1 r) || (member r w1 == 1)) record_slots

abbrev pub has_no_members : ℕ → Bool
has_no_members w1 = all_below (λ r. not (is_taken w1 r) || (member r w1 == 0)) record_slots

abbrev pub is_crowded : (ℕ → ℕ) → ℕ → Bool
is_crowded first home = is_full (first home) && (is_full (first (probing_of home)) && (is_full (first homes) && is_full (first second_stash)))

abbrev pub nothing_moves : (ℕ → ℕ) → ℕ → Bool
nothing_moves first home =
    (has_only_members (first (probing_of home)) || is_full (first (next_of home))) && (has_no_members (first home) || is_full (first (previous_of home)))

abbrev pub has_no_room : (ℕ → ℕ) → ℕ → Bool
has_no_room first home = is_crowded first home && nothing_moves first home
