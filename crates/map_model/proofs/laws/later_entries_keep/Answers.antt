use Rattle.map_model.proofs.Histories.{loaded-KeepsMaps, drawn-KeepsMaps}
use Rattle.map_model.proofs.laws.later_entries_keep.Goals as goal

pub returns : goal.returns
returns c = record {
  loaded = λ start before mine after' e. loaded-KeepsMaps before mine after' e start;
  drawn = λ start before mine after' e. drawn-KeepsMaps before mine after' e start;
}
