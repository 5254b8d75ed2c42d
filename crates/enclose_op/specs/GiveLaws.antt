-- THE LAWS OF THE GIVING BACK, as any machine may cite them that holds the guard and locks of a segment, and knows words of it alone.
use Rattle.std.specs.Prelude.{◌≡◌, ℕ, ◌<◌, ◌≤◌, Option, None, Some, []}
use Rattle.image_layout.specs.Places.{buckets}
use Rattle.world.specs.Ground.{Ground}
use Rattle.world.specs.Views.{View}
use Rattle.world.specs.Attempts.{HoldsOnly}
use Rattle.world.specs.StepKinds.{wanted_of, view_by, MayTake}
use Rattle.phase.specs.Giving.{IsLocated}
use Rattle.enclose_op.specs.declared.enclosed.Enclosed.{Enclosed}
use Rattle.enclose_op.specs.declared.give.Give.{Give}
use Rattle.enclose_op.specs.Giving.{give_from, give_wanted, given}
use Rattle.enclose_op.specs.Fits.{give_kind, give_left, HoldsPart, SuitsGive}

-- what is given back next suits the view; where nothing is, it holds and knows nothing
abbrev pub SuitsNext : Ground → Enclosed → Option Give → View → Type 0
SuitsNext site e (Some more) v = SuitsGive site e more v
SuitsNext site e None v = HoldsOnly [] v

-- and so many events are left at most
abbrev pub left_of : Option Give → ℕ
left_of (Some give) = give_left give
left_of None = 0

-- it begins with the locks that are held; each event is of its kind, which the view may take, and leaves one less; and fewer events are left
pub record GiveStands : Type 0 where
  pub begins : (site : Ground) (e : Enclosed) (b to : ℕ) (v : View) → b ≤ to → to ≤ buckets → HoldsPart site e b to v → SuitsGive site e (give_from b to) v
  pub wants : (site : Ground) (e : Enclosed) (v : View) (give : Give) → IsLocated site e.site e.segment → SuitsGive site e give v → give_wanted e give ≡ wanted_of site.shape (give_kind e give)
  pub may : (site : Ground) (e : Enclosed) (v : View) (give : Give) → IsLocated site e.site e.segment → SuitsGive site e give v → MayTake site (give_kind e give) v
  pub next : (site : Ground) (e : Enclosed) (v : View) (give : Give) (n : ℕ) → IsLocated site e.site e.segment → SuitsGive site e give v
      → SuitsNext site e (given give) (view_by site.shape (give_kind e give) n v)
  pub falls : (give : Give) → left_of (given give) < give_left give
