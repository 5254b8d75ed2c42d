-- Claims tell owners.
use Rattle.segment_table.proofs.Claimers.{kept_back, kept_owner, handed_owner, unhanded_owner}
use Rattle.segment_table.proofs.laws.owners_stay_or_move.Goals as goal

pub returns-clause-claims : goal.returns-clause-claims
returns-clause-claims c greatest before after most = kept_back greatest most before after

pub returns-clause-stay : goal.returns-clause-stay
returns-clause-stay c greatest before after most = kept_owner greatest most before after

pub returns-clause-moves : goal.returns-clause-moves
returns-clause-moves c greatest before after most = handed_owner greatest most before after

pub returns-clause-others : goal.returns-clause-others
returns-clause-others c greatest before after most = unhanded_owner greatest most before after
