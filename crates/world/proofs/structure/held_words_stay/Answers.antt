use Rattle.world.proofs.moving.Words.{keeps_held_words}
use Rattle.world.proofs.structure.held_words_stay.Goals as goal

pub returns : goal.returns
returns c = keeps_held_words
