-- HOW A SPLIT STANDS once its side is published, as one machine hands it on to the next: what its segment is, and what the view knows and holds of it.
use Rattle.std.specs.Prelude.{◌≡◌, ℕ, [], ◌∷◌}
use Rattle.segment_head.specs.HeadWord.{version_in, depth_in, pattern_in, splitting}
use Rattle.world.specs.Facts.{Lacks, Deep}
use Rattle.map_model.specs.declared.call.Call.{Call}
use Rattle.world.specs.declared.site.Site.{Site}
use Rattle.world.specs.Ground.{Ground}
use Rattle.world.specs.Views.{View, Has}
use Rattle.world.specs.Holders.{KnowsWord}
use Rattle.world.specs.areas.Areas.{Segment, Whole, header_word}
use Rattle.world.specs.areas.Splitting.{link_word, IsHeader, KnowsBuckets}
use Rattle.enclose_op.specs.declared.enclosed.Enclosed.{Enclosed}
use Rattle.enclose_op.specs.Whole.{kept_words, side_depth, side_pattern, IsOf, IsWhole, HoldsLocks, KnowsOnlyOf}
use Rattle.enclose_op.specs.Phases.{IsQuiet}

-- WHAT THE REST OF A SPLIT GOES ON FROM: the segment is splitting still, and whole; its header, its link and its words are known and
-- settled; and of its 1-side it claims nothing, and all entries name deeper segments
pub record KeepsSplit (site : Ground) (here : Site) (call : Call) (e : Enclosed) (v : View) : Type 0 where
  pub is : IsOf site here call e
  pub whole : IsWhole site e
  pub areas : v.areas ≡ Whole e.segment ∷ Segment e.segment ∷ []
  pub locks : HoldsLocks site e v
  pub head : ℕ
  pub header : KnowsWord v (header_word site.shape e.segment) head
  pub is_head : IsHeader head splitting (depth_in e.head) (pattern_in e.head) (version_in e.head)
  pub link : (l : ℕ) × KnowsWord v (link_word site.shape e.segment) l
  pub buckets_are : KnowsBuckets site.shape v e.segment (kept_words e)
  pub known : KnowsOnlyOf site e v
  pub lacks : Has (Lacks e.segment (side_depth e) (side_pattern e)) v.facts
  pub deep : Has (Deep (depth_in e.head) (side_depth e) (side_pattern e)) v.facts
  pub quiet : IsQuiet v
