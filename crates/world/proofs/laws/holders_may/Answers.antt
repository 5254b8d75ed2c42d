use Rattle.world.proofs.holding.Holders.{may_place, may_unstash_all, may_change, may_tell}
use Rattle.world.proofs.holding.Moving.{may_move}
use Rattle.world.proofs.holding.Preparing.{may_prepare}
use Rattle.world.proofs.holding.Drawing.{may_draw}
use Rattle.world.proofs.holding.Repaying.{may_repay}
use Rattle.world.proofs.laws.holders_may.Goals as goal

pub returns-clause-place : goal.returns-clause-place
returns-clause-place c = may_place

pub returns-clause-moves : goal.returns-clause-moves
returns-clause-moves c = may_move

pub returns-clause-change : goal.returns-clause-change
returns-clause-change c = may_change

pub returns-clause-tell : goal.returns-clause-tell
returns-clause-tell c = may_tell

pub returns-clause-repay : goal.returns-clause-repay
returns-clause-repay c = may_repay

pub returns-clause-unstash : goal.returns-clause-unstash
returns-clause-unstash c = may_unstash_all

pub returns-clause-prepare : goal.returns-clause-prepare
returns-clause-prepare c = may_prepare

pub returns-clause-draw : goal.returns-clause-draw
returns-clause-draw c = may_draw
