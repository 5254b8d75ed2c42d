-- Which replies are decided: none on the way, at the locks and while buckets are loaded.
use Rattle.std.proofs.Common.{◌≡◌, ℕ, Option, None, Some, refl, ap}
use Rattle.op_core.specs.declared.why.Why.{Why}
use Rattle.op_core.specs.declared.why.Why.TheVariants.{Busy, Moved}
use Rattle.map_model.specs.declared.entry.Reply.{Reply}
use Rattle.part.specs.Outcomes.{reply_of}
use Rattle.phase.specs.declared.role.Role.{Role}
use Rattle.phase.specs.declared.role.Role.TheVariants.{Home, Probing, First, Second}
use Rattle.phase.specs.declared.walk.Walked.{Walked}
use Rattle.phase.specs.declared.walk.Walked.TheVariants as walked
use Rattle.phase.specs.declared.take.Take.TheVariants.{Look}
use Rattle.phase.specs.declared.take.Taken.{Taken}
use Rattle.phase.specs.declared.take.Taken.TheVariants as taking
use Rattle.phase.specs.declared.back.Backed.{Backed}
use Rattle.phase.specs.declared.back.Backed.TheVariants as backed
use Rattle.phase.specs.declared.load.Loaded.{Loaded}
use Rattle.phase.specs.declared.load.Loaded.TheVariants as loaded
use Rattle.phase.specs.declared.held.Held.{Held}
use Rattle.write_op.specs.declared.step.Seen.{Seen}
use Rattle.phase.specs.declared.ending.Ending.{Ending}
use Rattle.phase.specs.declared.ending.Ending.TheVariants as ending
use Rattle.phase.specs.Endings.{outcome_then}
use Rattle.phase.proofs.locks.Choosing.{by_both, by_step}
use Rattle.write_op.specs.declared.step.WriteStep.{WriteStep}
use Rattle.write_op.specs.declared.step.WriteStep.TheVariants.{Lock, Count, Give, Ended}
use Rattle.write_op.specs.Steps.{end_of, giving, walked_to, locked, locked_to, backed_to, visit_second, visit_first, with_visits, filled, filled_to}
use Rattle.write_op.specs.Fits.{outcome_at}

-- the reply that is decided
abbrev pub reply_at : WriteStep → Option (Reply × ℕ)
reply_at s = reply_of (outcome_at s)

-- ---- locks back
end_outcome : (end : Ending) → outcome_at (Ended (end_of end)) ≡ Some (outcome_then end)
end_outcome (ending.Replied answer place) = refl
end_outcome (ending.Again why) = refl

pub giving_outcome : (held : Held) (end : Ending) → outcome_at (giving held end) ≡ Some (outcome_then end)
giving_outcome held end = by_step (λ (s : WriteStep). outcome_at s ≡ Some (outcome_then end)) held (Give held end) (Ended (end_of end)) refl (end_outcome end)

giving_again : (held : Held) (why : Why) → reply_at (giving held (ending.Again why)) ≡ None
giving_again held why = ap reply_of (giving_outcome held (ending.Again why))

-- ---- nothing is entered on the way, at the locks, and while buckets are loaded
pub walked_quiet : (seen : Seen) (x : Walked) → reply_at (walked_to seen x).step ≡ None
walked_quiet seen (walked.On w) = refl
walked_quiet seen (walked.There path) = refl
walked_quiet seen walked.Off = refl
walked_quiet seen (walked.Amiss word value) = refl
walked_quiet seen (walked.Stale segment version) = refl

locked_quiet : (place : Role) → reply_at (locked place) ≡ None
locked_quiet Home = refl
locked_quiet Probing = refl
locked_quiet place = refl

pub taken_quiet : (seen : Seen) (place : Role) (lock : ℕ) (x : Taken) → reply_at (locked_to seen place lock x).step ≡ None
taken_quiet seen place lock (taking.On take) = refl
taken_quiet seen place lock (taking.Held free) = locked_quiet place
taken_quiet seen place lock (taking.Busy value) = giving_again seen.held (Busy lock value)
taken_quiet seen place lock (taking.Moved before after) = giving_again seen.held (Moved lock before after)
taken_quiet seen place lock taking.Spent = refl

pub backed_quiet : (seen : Seen) (x : Backed) → reply_at (backed_to seen x).step ≡ None
backed_quiet seen (backed.On back) = refl
backed_quiet seen backed.Same = refl
backed_quiet seen (backed.Moved word before after) = giving_again seen.held (Moved word before after)

second_quiet : (seen : Seen) → reply_at (visit_second seen) ≡ None
second_quiet seen = by_both (λ (s : WriteStep). reply_at s ≡ None) seen.second (Lock Second Look) Count refl refl

first_quiet : (seen : Seen) → reply_at (visit_first seen) ≡ None
first_quiet seen = by_both (λ (s : WriteStep). reply_at s ≡ None) seen.first (Lock First Look) (visit_second seen) refl (second_quiet seen)

all_quiet : (hash : ℕ) (seen : Seen) (place : Role) → reply_at (filled hash seen place).step ≡ None
all_quiet hash seen Home = refl
all_quiet hash seen Probing = first_quiet (with_visits hash seen)
all_quiet hash seen First = second_quiet seen
all_quiet hash seen place = refl

pub filled_quiet : (hash : ℕ) (seen : Seen) (place : Role) (x : Loaded) → reply_at (filled_to hash seen place x).step ≡ None
filled_quiet hash seen place (loaded.On load) = refl
filled_quiet hash seen place (loaded.All words) = all_quiet hash _ place
