-- Each event is a store, a flush of a line of the round, or a fence.
use Rattle.std.specs.Prelude.{◌≡◌, ℕ, ◌<◌, ◌≤◌, true, false, Option, Some, length, slice_index, ◌⊎◌}
use Rattle.trace.specs.Events.{line_of}
use Rattle.op_core.specs.declared.want.Want.{Want}
use Rattle.op_core.specs.declared.want.Want.TheVariants.{Store, Flush, Fence}
use Rattle.whole_segment.specs.Rounds.{takes, touched}
use Rattle.rounds.specs.declared.rounds.RoundStep.TheVariants.{Storing, Flushing, Fencing}
use Rattle.rounds.specs.declared.rounds.Rounds.{Rounds}
use Rattle.rounds.specs.Steps.{at_step, begun, flushed_to, rounds_stores, rounds_taken}

module _ (rounds : Rounds) (next : Option (ℕ × ℕ)) (want : Want) where
  -- the store that is to come; the round has touched its line then
  pub record IsStore : Type 0 where
    pub word : ℕ
    pub value : ℕ
    pub comes : next ≡ Some (word, value)
    pub step : rounds.step ≡ Storing
    pub takes : takes rounds.round (line_of word) ≡ true
    pub wants : want ≡ Store word value
    pub leaves : rounds_taken rounds next ≡ at_step (touched rounds.round (line_of word)) Storing
    pub stores : rounds_stores rounds next ≡ true

  -- the flush of a line of the round, by its number: the first one is flushed where no store is taken
  pub record IsFlush : Type 0 where
    pub number : ℕ
    pub low : number < length rounds.round
    pub step : ((rounds.step ≡ Storing) × (number ≡ 0)) ⊎ (rounds.step ≡ Flushing number)
    pub wants : want ≡ Flush (slice_index rounds.round number)
    pub leaves : rounds_taken rounds next ≡ at_step rounds.round (flushed_to rounds.round number)
    pub stores : rounds_stores rounds next ≡ false

  -- the fence, behind which a round begins
  pub record IsFence : Type 0 where
    pub step : (rounds.step ≡ Fencing) ⊎ ((i : ℕ) × (rounds.step ≡ Flushing i) × (length rounds.round ≤ i))
    pub wants : want ≡ Fence
    pub leaves : rounds_taken rounds next ≡ begun
    pub stores : rounds_stores rounds next ≡ false

  -- one of the three
  abbrev pub IsRoundEvent : Type 0
  IsRoundEvent = IsStore ⊎ IsFlush ⊎ IsFence
