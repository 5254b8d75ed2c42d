use Rattle.vlock.specs.Ruling.{ground_of}
use Rattle.engine.specs.Engine.{wanted, kind_of}
use Rattle.shared_call.proofs.turns.turn.Given as goal

abbrev pub ghosts-event : goal.ghosts-event
ghosts-event a = record { ground = ground_of a.image.now.key; want = wanted a.about.now; kind = kind_of a.about.now }
