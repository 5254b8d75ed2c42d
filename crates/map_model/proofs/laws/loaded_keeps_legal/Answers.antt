use Rattle.map_model.proofs.Histories.{loaded-IsLegal}
use Rattle.map_model.proofs.laws.loaded_keeps_legal.Goals as goal

pub returns : goal.returns
returns c = λ start before mine after' e. loaded-IsLegal before mine after' e start
