use Rattle.std.proofs.Common.{take}
use Rattle.stash.specs.Noted.{AreNotedInOrder}
use Rattle.stash.specs.Segment.{IsExactSegment, SameSlotsInAll}
use Rattle.stash.proofs.segment.rebuild.Given as goal

abbrev pub invariant-loop-home : goal.invariant-loop-home
invariant-loop-home l = record {
  order : AreNotedInOrder (take l.home-index l.stashed) l.initial.metas l.metas;
  exact : IsExactSegment l.metas (take l.home-index l.stashed);
  slots : SameSlotsInAll l.fn.metas l.metas;
}
