-- It wants nothing more exactly where it is over.
use Rattle.std.proofs.Common.{◌≡◌, Bool, IsTrue, ◌↔◌, sym, subst}
use Rattle.op_core.specs.declared.want.Want.TheVariants.{Done}
use Rattle.write_op.specs.Steps.{wanted}
use Rattle.write_op.proofs.Over.{over_done}
use Rattle.write_op.proofs.op.WriteOp.wants_nothing.Goals as goal

pub returns : goal.returns
returns c = let op = c.args.self.now in subst (λ (b : Bool). IsTrue b ↔ (wanted op ≡ Done)) (sym c.is_over.ensures) (over_done op.task op.stage.seen op.stage.step)
