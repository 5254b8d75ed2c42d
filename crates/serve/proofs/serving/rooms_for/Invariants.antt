use Rattle.std.proofs.Common.{◌≡◌, length, map, take}
use Rattle.serve.proofs.serving.rooms_for.Given as goal

abbrev pub invariant-loop-job : goal.invariant-loop-job
invariant-loop-job l = l.rooms.items ≡ map (λ j. length j.calls.items) (take l.job-index l.jobs)
