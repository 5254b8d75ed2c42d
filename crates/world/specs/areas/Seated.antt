-- What is said of areas stays so where a view is cut in two, or two are joined.
use Rattle.std.specs.Prelude.{◌≢◌, ℕ, List, [], ◌∷◌, ◌++◌, set}
use Rattle.trace.specs.Events.{Words}
use Rattle.world.specs.Ground.{Ground}
use Rattle.world.specs.Views.{View, At}
use Rattle.world.specs.Seats.{cut_off, left_of, joined, spent}
use Rattle.world.specs.areas.Beginning.{AreasStand}

-- A VIEW THAT IS CUT IN TWO keeps its areas, and the new one has none
abbrev pub CutsKeepAreas : Type 0
CutsKeepAreas = (site : Ground) (words : Words) (views : List View) (j : ℕ) (v : View) (n : ℕ) → AreasStand site words views → At views j v
    → AreasStand site words (set views j (left_of v n) ++ cut_off v n ∷ [])

-- TWO VIEWS THAT ARE JOINED have the areas of both at one seat
abbrev pub JoinsKeepAreas : Type 0
JoinsKeepAreas = (site : Ground) (words : Words) (views : List View) (j i : ℕ) (v w : View) → AreasStand site words views → At views j v → At views i w → i ≢ j
    → AreasStand site words (set (set views j (joined v w)) i (spent w))
