use Rattle.std.proofs.Common.{◌∙◌, add-one, arith, length-set}
use Rattle.play.specs.Callers.{awoken}
use Rattle.play.proofs.Mapped.{map_step}
use Rattle.play.proofs.deeds.wake.Goals as goal

pub loop-index-preserved : goal.loop-index-preserved
loop-index-preserved c = record {
  so_far = rw (add-one, c.wake.ensures) (map_step (awoken c.args.version) c.loop-index.callers c.loop-index.index c.index-callers-index.result (omega arith)
      ∙ c.loop-index.invariant.so_far);
  long = simp length-set c.loop-index.invariant.long;
}
