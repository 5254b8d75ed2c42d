use Rattle.map_model.proofs.Histories.{by_places, from_places}
use Rattle.map_model.proofs.laws.legal_by_places.Goals as goal

pub returns : goal.returns
returns c = λ start lists. (by_places start lists, from_places start lists)
