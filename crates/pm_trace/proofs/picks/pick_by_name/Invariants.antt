-- What is left is chosen from here on.
use Rattle.std.proofs.Common.{◌≡◌, ◌++◌, take, drop, length}
use Rattle.pm_trace.specs.Choice.{chosen_by_name}
use Rattle.pm_trace.proofs.picks.pick_by_name.Given as goal

abbrev pub invariant-loop-word : goal.invariant-loop-word
invariant-loop-word l = record {
  so_far : take l.word l.settled ++ chosen_by_name l.choice l.word (drop l.word l.settled) (drop l.word l.newest)
      ≡ chosen_by_name l.choice 0 l.initial.settled l.newest;
  long : length l.settled ≡ length l.newest;
}
