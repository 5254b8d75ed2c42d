-- Which words lie in a slot, in the directory and under a lock: each as a proposition, and as a test.
use Rattle.std.specs.Prelude.{◌≡◌, ℕ, ◌+◌, ◌<◌, ◌≤◌, ◌⊎◌, Bool, ◌==◌, ◌&&◌, ◌||◌, nat_le, nat_lt}
use Rattle.image_layout.specs.Places.{Shape, block, root_word, first_segment, head_at, segment_words}

-- word i is one of slot n
pub record IsInSlot (shape : Shape) (n i : ℕ) : Type 0 where
  pub from : head_at shape n ≤ i
  pub to : i < head_at shape n + segment_words

abbrev pub is_in_slot : Shape → ℕ → ℕ → Bool
is_in_slot shape n i = nat_le (head_at shape n) i && nat_lt i (head_at shape n + segment_words)

-- a word is the root, or lies where entries stand
abbrev pub IsDirectoryWord : Shape → ℕ → Type 0
IsDirectoryWord shape i = (i ≡ root_word) ⊎ ((block ≤ i) × (i < first_segment shape))

abbrev pub is_directory_word : Shape → ℕ → Bool
is_directory_word shape i = (i == root_word) || (nat_le block i && nat_lt i (first_segment shape))

-- word i is one of the 31 words behind a lock word, which the lock guards
abbrev pub IsUnder : ℕ → ℕ → Type 0
IsUnder lock i = (lock < i) × (i < lock + block)

abbrev pub is_under : ℕ → ℕ → Bool
is_under lock i = nat_lt lock i && nat_lt i (lock + block)
