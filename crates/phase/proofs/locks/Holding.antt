-- The load of a bucket by the holder of its lock, who knows each word then.
use Rattle.std.proofs.Common.{ℕ, ◌+◌, ◌%◌, inr, arith}
use Rattle.image_layout.specs.Places.{Shape}
use Rattle.world.specs.Ground.{Ground}
use Rattle.world.specs.Views.{View, HasLock}
use Rattle.world.specs.Kinds.{learns, view_after}
use Rattle.world.specs.Conditions.{May}
use Rattle.phase.specs.declared.load.Load.{Load}
use Rattle.phase.specs.Loads.{load_taken}
use Rattle.phase.specs.Stands.{IsLoading, HasLoaded}
use Rattle.phase.specs.Knows.{HoldersLoad}
use Rattle.phase.proofs.Loading.{load_stands}

pub learn_may : (site : Ground) (lock : ℕ) (load : Load) (v : View) → IsLoading lock v.known load → HasLock v.held lock → May site (learns (lock + load.next % 32)) v
learn_may site lock load v l held = (lock, held, (let from = l.from in let last = l.last in (omega (arith, from, last), omega arith)))

pub learn_stands : (shape : Shape) (lock : ℕ) (load : Load) (v : View) (n : ℕ) → IsLoading lock v.known load
    → HasLoaded lock (view_after shape (learns (lock + load.next % 32)) n v).known (load_taken load n)
learn_stands shape lock load v n l = load_stands lock v.known load n l

pub holders_load : HoldersLoad
holders_load = record {
  may = learn_may;
  stands = learn_stands;
  whole = λ shape lock words v i n whole j from low. inr (whole j from low);
}
