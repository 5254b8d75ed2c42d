-- What who has a stale segment may do to mend it.
use Rattle.std.proofs.Common.{arith}
use Rattle.world.specs.Ground.{Ground, IsGround}
use Rattle.world.specs.Views.{View}
use Rattle.world.specs.areas.Repairing.{MayMend}
use Rattle.world.proofs.holders.directing.Clearing.{clear, rebuild}
use Rattle.world.proofs.holders.directing.Ending.{finish}
use Rattle.world.proofs.holders.mending.Stale.{holds_bucket, not_current}
use Rattle.world.proofs.holders.mending.Unlocking.{unlock}
use Rattle.world.proofs.holders.mending.Spoiled.{mend}
use Rattle.world.proofs.holders.mending.Renewing.{renew}

pub may_mend : (site : Ground) (v : View) → IsGround site → MayMend site v
may_mend site v ground = record {
  clear = λ s b x d p word mine sides near lacks known clears. clear site ground v mine.holder s b mine.slot near (sides s) x d p word lacks known clears
      (holds_bucket site v s word mine b 1 near (omega arith));
  end = λ s x word mine sides splits lacks deep becomes. finish site ground v s x word mine.holder (λ words new is. absurd (not_current site v s word mine words new is))
      mine.guard sides mine.slot mine.header splits lacks deep becomes;
  unlock = λ s b x w word mine sides near known taken even. unlock site ground v s b x w word mine sides near known taken even;
  mend = λ s b x word spoiled able mending near first frees. mend site ground v s b x word spoiled able mending near first frees;
  rebuild = λ s b m x w word mine sides near from to known same. rebuild site ground v mine.holder s b mine.slot near (sides s) m x w from to
      (holds_bucket site v s word mine b m near (omega (arith, to))) known same;
  renews = λ s x word mine is known free firm own once exact becomes. renew site ground v s x word mine is known free firm own once exact becomes;
}
