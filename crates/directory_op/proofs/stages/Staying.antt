-- A stage stays where nothing is stored.
use Rattle.std.proofs.Common.{◌≡◌, ℕ, ◌/◌, ◌^◌, ◌∙◌}
use Rattle.std.specs.Prelude.{⊤}
use Rattle.image_layout.specs.Places.{entry_at}
use Rattle.segment_head.specs.HeadWord.{depth_in}
use Rattle.frame_facts.specs.Facts.{Fact, Owns}
use Rattle.map_model.specs.declared.call.Call.{Call}
use Rattle.world.specs.declared.site.Site.{Site}
use Rattle.world.specs.Ground.{Ground}
use Rattle.world.specs.Views.{View, Has}
use Rattle.world.specs.areas.Areas.{header_word}
use Rattle.rounds.specs.declared.rounds.Rounds.{Rounds}
use Rattle.directory_op.specs.declared.op.Stage.{Stage}
use Rattle.directory_op.specs.declared.op.Stage.TheVariants.{Fill, Filled, Deepen, Deepened, GoLive, Live, Enter, Entered}
use Rattle.directory_op.specs.declared.op.DirectoryStep.{DirectoryStep}
use Rattle.directory_op.specs.declared.op.DirectoryOp.{DirectoryOp}
use Rattle.directory_op.specs.Places.{live_head}
use Rattle.directory_op.specs.Fits.{side_depth, side_pattern, with_side, SuitsStage, IsFilling, IsRooted, IsEntering}
use Rattle.directory_op.proofs.Keeping.{Keeps, split_stays, new_stays, live_stays, doubles_stays, deep_stays, filled_stays, entered_stays}

-- ---- each stage stays where all known words do
module _ (site : Ground) (here : Site) (call : Call) (op : DirectoryOp) (rounds : Rounds) (step : DirectoryStep) (v u : View) (k : Keeps (λ i. ⊤) v u) (areas : u.areas ≡ v.areas)
    (claims : (fact : Fact) → Has fact v.facts → Has fact u.facts) where
  abbrev Every : ℕ → Type 0
  Every i = ⊤

  abbrev later : DirectoryOp
  later = record op { rounds = rounds; step = step }

  pub filling_stays : (place : ℕ) → IsFilling site here op call place v → IsFilling site here later call place u
  filling_stays place f = record {
    new = new_stays site here call op.copied Every v u k areas (λ i far. tt) f.new;
    doubles = doubles_stays site here op rounds step Every v u k tt f.doubles;
    filled = filled_stays site here op rounds step Every v u k place (λ j low. (tt, tt)) f.filled;
  }

  pub rooted_stays : IsRooted site here op call v → IsRooted site here later call u
  rooted_stays r = record {
    new = new_stays site here call op.copied Every v u k areas (λ i far. tt) r.new;
    root = deep_stays site here op rounds step Every v u k tt r.root;
  }

  pub entering_stays : (index : ℕ) → IsEntering site here op call index v → IsEntering site here later call index u
  entering_stays index e = record {
    live = live_stays site here call op.copied Every v u k areas (λ i far. tt) (claims (Owns op.copied.side (side_depth op.copied) (side_pattern op.copied))) e.live;
    root = deep_stays site here op rounds step Every v u k tt e.root;
    entered = entered_stays site here op rounds step Every v u k index (λ j low. tt) e.entered;
  }

  pub stage_stays : (stage : Stage) → SuitsStage site here op call stage v → SuitsStage site here later call stage u
  stage_stays (Fill place value) s = record {
    filling = filling_stays place s.filling;
    low = s.low;
    small = s.small;
    known = k.known (entry_at (depth_in op.copied.whole.head) (place / 2)) value tt s.known;
  }
  stage_stays Filled s = filling_stays (2 ^ op.root) s
  stage_stays Deepen s = filling_stays (2 ^ op.root) s
  stage_stays Deepened s = rooted_stays s
  stage_stays GoLive s = rooted_stays s
  stage_stays Live s = record {
    split = split_stays site here call op.copied Every v u k (with_side site here call op.copied) (areas ∙ s.split.areas) (with_side site here call op.copied) (λ i is. tt) s.split;
    root = deep_stays site here op rounds step Every v u k tt s.root;
    known = k.known (header_word site.shape op.copied.side) (live_head op.side_head) tt s.known;
  }
  stage_stays (Enter index) s = record { entering = entering_stays index s.entering; low = s.low; of_side = s.of_side; small = s.small }
  stage_stays Entered s = entering_stays (2 ^ op.root) s
