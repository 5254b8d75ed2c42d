-- The state of the header word says whether the segment is live.
use Rattle.std.proofs.Common.{◌↔◌, ℕ, subst, IsTrue}
use Rattle.segment_head.specs.HeadWord.{HasLiveState}
use Rattle.image_rules.proofs.heads.is_live.Goals as goal

pub returns : goal.returns
returns c = subst (λ (w : ℕ). IsTrue c.is_live.result ↔ HasLiveState w) c.header_at.ensures c.is_live.ensures.live
