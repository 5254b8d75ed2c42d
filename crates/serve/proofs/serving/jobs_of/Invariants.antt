use Rattle.std.proofs.Common.{◌≡◌, ◌+◌, ◌≤◌, length, map}
use Rattle.std.specs.Prelude.{All, vec_capacity}
use Rattle.play.specs.Played.{scripts_to}
use Rattle.shared_image.specs.Powered.{IsKeeperOf, callers_left}
use Rattle.serve.specs.Jobs.{IsReadyJob}
use Rattle.serve.proofs.serving.jobs_of.Given as goal

abbrev pub invariant-loop-before : goal.invariant-loop-before
invariant-loop-before l = record {
  keeper : IsKeeperOf l.image l.keeper;
  callers : callers_left l.keeper + l.before ≡ l.last + 1;
  ready : All (IsReadyJob l.image) l.jobs.items;
  calls : map (λ j. j.calls.items) l.jobs.items ≡ scripts_to l.before l.lines;
  count : length l.jobs.items ≡ l.before;
  room : l.last ≤ vec_capacity l.jobs;
}
