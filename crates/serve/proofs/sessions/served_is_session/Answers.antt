use Rattle.serve.proofs.ToSession.{served_is_session}
use Rattle.serve.proofs.sessions.served_is_session.Goals as goal

pub returns : goal.returns
returns c = served_is_session
