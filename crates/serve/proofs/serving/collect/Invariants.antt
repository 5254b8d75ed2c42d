use Rattle.std.proofs.Common.{◌≡◌, ◌++◌, ◌≤◌, length}
use Rattle.std.specs.Prelude.{vec_capacity}
use Rattle.std.specs.Vec.Iter.{into_iter_items, into_iter_len}
use Rattle.serve.proofs.Collected.{IsCollecting}
use Rattle.serve.proofs.serving.collect.Given as goal

abbrev pub invariant-loop-job : goal.invariant-loop-job
invariant-loop-job l = record {
  rest : l.yielded ++ into_iter_items l.job-iterator ≡ into_iter_items l.initial.job-iterator;
  count : into_iter_len l.job-iterator ≡ length (into_iter_items l.job-iterator);
  so_far : IsCollecting l.image l.yielded (into_iter_items l.job-iterator) l.passes.items l.lists;
  room : length (into_iter_items l.initial.job-iterator) ≤ vec_capacity l.passes;
}
