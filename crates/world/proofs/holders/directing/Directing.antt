-- What who has the guard of the directory may do.
use Rattle.world.specs.Ground.{Ground, IsGround}
use Rattle.world.specs.Views.{View}
use Rattle.world.specs.areas.Splitting.{MayDirect}
use Rattle.world.proofs.holders.directing.Directory.{fill, double, enter}
use Rattle.world.proofs.holders.directing.Settled.{settle}

pub may_direct : (site : Ground) (v : View) → IsGround site → MayDirect site v
may_direct site v ground = record {
  fill = λ g e i x holder guard root above within below. fill site ground v holder guard g e i x root above within below;
  root = λ g word holder guard root room upper deeper filled. double site ground v holder guard g word root room upper deeper filled;
  enter = λ g i n d p holder guard root within less below inside owns. enter site ground v holder guard g i n d p root within less below inside owns;
  settled = λ s n g word sides apart head splits linked root shallow owns named. settle site ground v s n g word sides apart head splits linked root shallow owns named;
}
