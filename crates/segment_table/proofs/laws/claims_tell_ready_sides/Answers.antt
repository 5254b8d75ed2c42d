-- A live segment claims the middle of its region, or has a ready side.
use Rattle.segment_table.proofs.Claimers.{ready_claims_none, unready_claims_all}
use Rattle.segment_table.proofs.laws.claims_tell_ready_sides.Goals as goal

pub returns-clause-ready : goal.returns-clause-ready
returns-clause-ready c greatest frame most sound s slot live = ready_claims_none greatest most frame sound s slot live

pub returns-clause-unready : goal.returns-clause-unready
returns-clause-unready c greatest frame most sound s slot live = unready_claims_all greatest most frame sound s slot live
