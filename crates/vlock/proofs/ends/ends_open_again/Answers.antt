use Rattle.vlock.proofs.Reopened.{opens_again}
use Rattle.vlock.proofs.ends.ends_open_again.Goals as goal

pub returns : goal.returns
returns c = opens_again
