use Rattle.map_model.proofs.Histories.{drawn-IsLegal}
use Rattle.map_model.proofs.laws.drawn_keeps_legal.Goals as goal

pub returns : goal.returns
returns c = λ start before mine after' e. drawn-IsLegal before mine after' e start
