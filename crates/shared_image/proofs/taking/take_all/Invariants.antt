use Rattle.std.proofs.Common.{◌≡◌, ◌++◌, length}
use Rattle.std.specs.Vec.Iter.{into_iter_items, into_iter_len}
use Rattle.vlock.specs.Plays.{IsSeatOf}
use Rattle.shared_image.specs.Closed.{with_all}
use Rattle.shared_image.proofs.taking.take_all.Given as goal

abbrev pub invariant-loop-pass : goal.invariant-loop-pass
invariant-loop-pass l = record {
  rest : l.yielded ++ into_iter_items l.pass-iterator ≡ into_iter_items l.initial.pass-iterator;
  count : into_iter_len l.pass-iterator ≡ length (into_iter_items l.pass-iterator);
  seat : IsSeatOf l.fn.image.table_id l.fn.image.key l.seat;
  taken : l.seat.me.0 ≡ with_all l.initial.seat.me.0 l.yielded;
}
