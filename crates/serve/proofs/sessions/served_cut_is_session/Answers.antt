use Rattle.serve.proofs.cutting.CutToSession.{served_cut_is_session}
use Rattle.serve.proofs.sessions.served_cut_is_session.Goals as goal

pub returns : goal.returns
returns c = served_cut_is_session
