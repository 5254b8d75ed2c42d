-- Which hashes a header covers, and its 1-side.
use Rattle.std.specs.Prelude.{◌≡◌, ℕ, ◌%◌, ◌^◌, ◌<◌, ◌↔◌}
use Rattle.hash_word.specs.Hash.{top, Covers}
use Rattle.segment_head.specs.declared.Head.{Head}
use Rattle.segment_head.specs.Prefixes.{depth_of_sides, pattern_of_one_side}

-- the bit of a hash that follows its top d bits, which says in which side of a segment of that depth it is
abbrev pub next_bit : ℕ → ℕ → ℕ
next_bit d h = top (depth_of_sides d) h % 2

-- a header covers a hash whose top bits, as many as its depth, are its pattern
abbrev pub CoversHash : Head → ℕ → Type 0
CoversHash head h = Covers head.depth head.pattern h

-- the side is one bit deeper, its pattern has a 1 behind the head's, and all else is the head's
pub record IsOneSideOf (head side : Head) : Type 0 where
  pub version : side.version ≡ head.version
  pub state : side.state ≡ head.state
  pub depth : side.depth ≡ depth_of_sides head.depth
  pub pattern : side.pattern ≡ pattern_of_one_side head.pattern

-- the side covers exactly the hashes that the head covers and whose next bit is 1
abbrev pub CoversOnes : Head → Head → Type 0
CoversOnes head side = (h : ℕ) → h < 2 ^ 64 → CoversHash side h ↔ (CoversHash head h × (next_bit head.depth h ≡ 1))
