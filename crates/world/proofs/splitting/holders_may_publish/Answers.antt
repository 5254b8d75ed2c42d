use Rattle.world.proofs.holders.publishing.Publishing.{may_publish}
use Rattle.world.proofs.splitting.holders_may_publish.Goals as goal

pub returns : goal.returns
returns c = may_publish
