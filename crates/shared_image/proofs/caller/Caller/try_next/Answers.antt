-- It is the next try of the caller's parts.
use Rattle.shared_image.proofs.caller.Caller.try_next.Goals as goal

pub returns-clause-tried : goal.returns-clause-tried
returns-clause-tried g c = c.next_try.ensures.tried
