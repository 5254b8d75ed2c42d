-- A machine that reads the commit counter, in each step, and as a part of a call: it gives the call no reply.
use Rattle.std.specs.Prelude.{◌≡◌, ℕ, ◌==◌, true, false, Bool, Option, None, Some, [], if◌then◌else◌}
use Rattle.op_core.specs.declared.want.Want.{Want}
use Rattle.op_core.specs.declared.want.Want.TheVariants.{Load, Power, Done}
use Rattle.op_core.specs.declared.want.Ans.{Ans}
use Rattle.op_core.specs.declared.want.Ans.TheVariants.{Value}
use Rattle.image_layout.specs.Places.{Shape}
use Rattle.image_layout.specs.Volatile.{counter_word, power_on}
use Rattle.map_model.specs.declared.call.Call.{Call}
use Rattle.world.specs.declared.site.Site.{Site}
use Rattle.world.specs.Ground.{Ground}
use Rattle.world.specs.Views.{View, Has}
use Rattle.world.specs.Kinds.{Kind, peeks, asks_power}
use Rattle.world.specs.StepKinds.{of_call}
use Rattle.world.specs.Attempts.{HoldsOnly}
use Rattle.part.specs.declared.count.CountEnd.{CountEnd}
use Rattle.part.specs.declared.count.CountEnd.TheVariants.{Counted, Off}
use Rattle.part.specs.declared.count.CountStep.{CountStep}
use Rattle.part.specs.declared.count.CountStep.TheVariants.{AskPower, LoadCounter, Ended}
use Rattle.part.specs.declared.count.CountOp.{CountOp}
use Rattle.part.specs.Doings.{Doings, nothing_done}
use Rattle.part.specs.Outcomes.{Outcome, off, finished}
use Rattle.part.specs.Part.{Part}
use Rattle.part.specs.Then.{Then, first, then_part}
use Rattle.part.specs.Either.{Either, one, other, either_part}
use Rattle.part.specs.Renamed.{renamed_part}
use Rattle.part.specs.Splits.{segment_of_then}
use Rattle.part.specs.Repairs.{EndsByRepairCause}

-- ---- the machine
-- a count that has done nothing yet
abbrev pub begun : Site → CountOp
begun here = record { site = here; step = AskPower }

abbrev pub wanted_in : Shape → CountStep → Want
wanted_in shape AskPower = Power
wanted_in shape LoadCounter = Load (counter_word shape)
wanted_in shape (Ended end) = Done

abbrev pub wanted : CountOp → Want
wanted op = wanted_in op.site.geometry op.step

abbrev pub step_after : CountStep → ℕ → CountStep
step_after AskPower n = if n == power_on then LoadCounter else Ended Off
step_after LoadCounter n = Ended (Counted n)
step_after (Ended end) n = Ended end

abbrev pub taken : CountOp → Ans → CountOp
taken op (Value n) = record op { step = step_after op.step n }
taken op a = op

-- ---- the part
abbrev pub kind_in : Shape → CountStep → Kind
kind_in shape AskPower = asks_power
kind_in shape LoadCounter = peeks (counter_word shape)
kind_in shape (Ended end) = peeks (counter_word shape)

abbrev pub left_in : CountStep → ℕ
left_in AskPower = 2
left_in LoadCounter = 1
left_in (Ended end) = 0

abbrev pub outcome_of : CountEnd → Outcome
outcome_of (Counted n) = finished
outcome_of Off = off

abbrev pub outcome_in : CountStep → Option Outcome
outcome_in (Ended end) = Some (outcome_of end)
outcome_in step = None

-- it runs in this image, and its caller holds and owes nothing
pub record Stands (site : Ground) (here : Site) (call : Call) (op : CountOp) (v : View) : Type 0 where
  pub at : op.site ≡ here
  pub shape : op.site.geometry ≡ site.shape
  pub nothing : HoldsOnly [] v

-- it has loaded the commit counter, with the number that it tells
abbrev pub HasCounted : Shape → CountStep → Doings → Type 0
HasCounted shape (Ended (Counted n)) did = Has (counter_word shape, n) did.loads
HasCounted shape step did = ⊥

-- it changes nothing
abbrev pub count_part : Part CountOp
count_part = record {
  wanted = wanted;
  taken = taken;
  kind = λ op n. of_call (kind_in op.site.geometry op.step);
  Stands = Stands;
  outcome = λ op. outcome_in op.step;
  Remembers = λ site op did. did.changed ≡ [];
  HasWorked = λ site op did. HasCounted op.site.geometry op.step did;
  HasMade = λ op. ⊥;
  left = λ op. left_in op.step;
  most_events = 2;
  is_waiting = λ op. false;
  waiting = λ op. 0;
  most_waiting = 0;
  hands_on = λ op. false;
}

-- ---- where it begins
-- in this image, by a caller that holds and owes nothing
abbrev pub BeginsAsPart : Type 0
BeginsAsPart = (site : Ground) (here : Site) (call : Call) (v : View) → here.geometry ≡ site.shape → HoldsOnly [] v → count_part.Stands site here call (begun here) v

-- it remembers what it did, which is nothing
abbrev pub BeginsRemembering : Type 0
BeginsRemembering = (site : Ground) (here : Site) → count_part.Remembers site (begun here) nothing_done

-- and nothing is decided
abbrev pub BeginsUndecided : Type 0
BeginsUndecided = (here : Site) → count_part.outcome (begun here) ≡ None

-- ---- two of them, one after another
-- where the first has counted, the second is begun
abbrev pub has_counted : CountStep → Bool
has_counted (Ended (Counted n)) = true
has_counted step = false

-- so nothing is decided there
abbrev pub first_outcome : CountStep → Option Outcome
first_outcome (Ended Off) = Some off
first_outcome step = None

abbrev pub first_count : Part CountOp
first_count = record count_part { outcome = λ op. first_outcome op.step; hands_on = λ op. has_counted op.step }

abbrev pub begun_again : CountOp → CountOp
begun_again op = begun op.site

abbrev pub two_counts : Part (Then CountOp CountOp)
two_counts = then_part first_count count_part begun_again

-- ---- two counts or one, where two come first
abbrev pub TwoOrOne : Type 0
TwoOrOne = Either (Then CountOp CountOp) CountOp

abbrev pub one_or_two : TwoOrOne → Either CountOp (Then CountOp CountOp)
one_or_two (one counts) = other counts
one_or_two (other op) = one op

abbrev pub two_or_one : Either CountOp (Then CountOp CountOp) → TwoOrOne
two_or_one (one op) = other op
two_or_one (other counts) = one counts

abbrev pub two_or_one_counts : Part TwoOrOne
two_or_one_counts = renamed_part (either_part count_part two_counts) one_or_two two_or_one

-- ---- three of them, as the parts of a repair
abbrev pub three_counts : Part (Then CountOp (Then CountOp CountOp))
three_counts = then_part first_count two_counts (λ op. first (begun_again op))

-- a count repairs nothing: whatever segment it is taken to repair, its outcomes have the causes of a repair
abbrev pub EndsAsRepair : Part CountOp → Type 0
EndsAsRepair count = (segment : ℕ) → EndsByRepairCause count (λ op. segment)

abbrev pub segment_of_three : ℕ → Then CountOp (Then CountOp CountOp) → ℕ
segment_of_three segment m = segment_of_then (λ op. segment) (λ n. segment_of_then (λ op. segment) (λ op. segment) n) m

abbrev pub ThreeEndAsRepair : Type 0
ThreeEndAsRepair = (segment : ℕ) → EndsByRepairCause three_counts (segment_of_three segment)
