-- What who repairs a segment with a ready side may do to the directory.
use Rattle.std.proofs.Common.{suc}
use Rattle.image_layout.specs.Places.{root_word}
use Rattle.world.specs.Ground.{Ground, IsGround}
use Rattle.world.specs.Views.{View}
use Rattle.world.specs.areas.Areas.{header_word, link_word}
use Rattle.world.specs.areas.Repairing.{lacks_side, MayRedirect}
use Rattle.world.proofs.holders.repairing.Ready.{deeper, later}
use Rattle.world.proofs.holders.repairing.Entering.{redirect}
use Rattle.world.proofs.holders.repairing.Settled.{settle_side}

pub may_redirect : (site : Ground) (v : View) → IsGround site → MayRedirect site v
may_redirect site v ground = record {
  deeper = λ s n g word has words new. deeper site ground word words s n g has.mine.slot has.into.splits new.structure
      (new.knows (header_word site.shape s) (word (header_word site.shape s)) has.mine.header.known) (new.knows (link_word site.shape s) (suc n) has.into.linked.known)
      (new.knows root_word g has.root.known) (new.says (lacks_side site s word) has.lacks).1;
  later = λ s n g word has words new. later site ground word words s n g has.mine.slot has.into.splits new.structure
      (new.knows (header_word site.shape s) (word (header_word site.shape s)) has.mine.header.known) (new.knows (link_word site.shape s) (suc n) has.into.linked.known)
      (new.knows root_word g has.root.known) (new.says (lacks_side site s word) has.lacks).1;
  enter = λ s n g i t begin word has within entry names begins early. redirect site ground v s n g i t begin word has entry names begins early within;
  settled = λ s n g word has named. settle_side site ground v s n g word has named;
}
