-- What who repairs a segment without a ready side may do to its split.
use Rattle.world.specs.Ground.{Ground, IsGround}
use Rattle.world.specs.Views.{View}
use Rattle.world.specs.areas.Repairing.{MayTakeBack}
use Rattle.world.proofs.holders.repairing.Freeing.{free_side}
use Rattle.world.proofs.holders.repairing.Unmarking.{unmark}

pub may_take_back : (site : Ground) (v : View) → IsGround site → MayTakeBack site v
may_take_back site v ground = record {
  frees = λ s n x word mine guard has into side_head was deep behind becomes. free_side site ground v s n x word mine into side_head was deep behind becomes guard has;
  unmarks = λ s x word mine sides splits unready becomes. unmark site ground v s x word mine splits becomes unready sides;
}
