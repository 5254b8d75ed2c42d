-- It is the slot that `displace` gives.
use Rattle.std.proofs.Common.{◌≡◌, sym, subst, slice_index}
use Rattle.bucket_meta.specs.Search.{lowest_free}
use Rattle.move_op.specs.declared.step.Direction.{Direction}
use Rattle.move_op.specs.Shifts.{moving_slot}
use Rattle.move_op.proofs.Slots.{forward_is, backward_is}
use Rattle.move_op.proofs.shift.moving_slot.Goals as goal

pub returns-in-Forward-clause-is : goal.returns-in-Forward-clause-is
returns-in-Forward-clause-is c =
    let e = c.forward.ensures in
    subst (λ (d : Direction). c.forward.result ≡ moving_slot d (slice_index c.args.source.now 1) (lowest_free (slice_index c.args.target.now 1))) (sym c.in-Forward.is)
    (forward_is c.read-from.result c.read-to.result _ _ _ _ _ _ c.read-from.ensures c.read-to.ensures c.forward.result e.within e.allocated e.own e.lowest e.none)

pub returns-in-Backward-clause-is : goal.returns-in-Backward-clause-is
returns-in-Backward-clause-is c =
    let e = c.backward.ensures in
    subst (λ (d : Direction). c.backward.result ≡ moving_slot d (slice_index c.args.source.now 1) (lowest_free (slice_index c.args.target.now 1))) (sym c.in-Backward.is)
    (backward_is c.read-from.result c.read-to.result _ _ _ _ _ _ c.read-from.ensures c.read-to.ensures c.backward.result e.within e.allocated e.member e.lowest e.none)
