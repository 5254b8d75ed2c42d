-- How an attempt ends that gives its locks back first.
use Rattle.part.specs.Outcomes.{Outcome, replied, again, IsDone}
use Rattle.phase.specs.declared.ending.Ending.{Ending}
use Rattle.phase.specs.declared.ending.Ending.TheVariants.{Replied, Again}

-- the outcome that is decided
abbrev pub outcome_then : Ending → Outcome
outcome_then (Replied answer place) = replied answer place
outcome_then (Again why) = again why

-- the change is made
abbrev pub HasMadeThen : Ending → Type 0
HasMadeThen (Replied answer place) = IsDone answer
HasMadeThen (Again why) = ⊥
