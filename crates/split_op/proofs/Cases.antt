-- Which store is the next event of rounds.
use Rattle.std.proofs.Common.{◌≡◌, ℕ, true, Option, Some, inl, inr}
use Rattle.std.proofs.lemmas.Bool.{both_ways}
use Rattle.op_core.specs.declared.want.Want.{Want}
use Rattle.op_core.specs.declared.want.Want.TheVariants.{Store}
use Rattle.rounds.proofs.Events.{event_cases, some_store}
use Rattle.rounds.specs.declared.rounds.Rounds.{Rounds}
use Rattle.rounds.specs.Steps.{rounds_stores}
use Rattle.rounds.specs.Events.{IsRoundEvent}

-- where the next event is a store, it is the one that was to come
came_by : (rounds : Rounds) (next : Option (ℕ × ℕ)) (w : Want) → rounds_stores rounds next ≡ true → IsRoundEvent rounds next w → (word : ℕ) × (value : ℕ) × (next ≡ Some (word, value))
came_by rounds next w is (inl s) = (s.word, s.value, s.comes)
came_by rounds next w is (inr (inl f)) = absurd (both_ways (rounds_stores rounds next) f.stores is)
came_by rounds next w is (inr (inr f)) = absurd (both_ways (rounds_stores rounds next) f.stores is)

pub came : (rounds : Rounds) (next : Option (ℕ × ℕ)) → rounds_stores rounds next ≡ true → (word : ℕ) × (value : ℕ) × (next ≡ Some (word, value))
came rounds next is = let some = some_store rounds next is in came_by rounds next (Store some.0 some.1) is (event_cases rounds next (Store some.0 some.1) some.2)
