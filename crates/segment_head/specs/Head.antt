-- A `Head` and the word that it was read of.
use Rattle.std.specs.Prelude.{◌≡◌, ℕ}
use Rattle.segment_head.specs.declared.State.{State}
use Rattle.segment_head.specs.declared.State.TheVariants.{Free, Normal, Splitting, Fresh}
use Rattle.segment_head.specs.declared.Head.{Head}
use Rattle.segment_head.specs.HeadWord.{version_in, state_in, depth_in, pattern_in, free, normal, splitting, fresh}

-- the number of a state
abbrev pub number_of : State → ℕ
number_of Free = free
number_of Normal = normal
number_of Splitting = splitting
number_of Fresh = fresh

-- the word says what the head says
pub record IsHeadOf (head : Head) (h1 : ℕ) : Type 0 where
  pub version : head.version ≡ version_in h1
  pub state : number_of head.state ≡ state_in h1
  pub depth : head.depth ≡ depth_in h1
  pub pattern : head.pattern ≡ pattern_in h1
