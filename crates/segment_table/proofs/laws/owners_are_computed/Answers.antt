-- Who claims a hash is the deepest that covers it, and is found.
use Rattle.std.proofs.Common.{sym, ◌∙◌}
use Rattle.std.proofs.lemmas.Option.{none-some}
use Rattle.segment_table.proofs.frames.SoundFrames.{claimer_owns, owner_claims}
use Rattle.segment_table.proofs.frames.Owner.{found_owns, claimer_found, same_owner}
use Rattle.segment_table.proofs.laws.owners_are_computed.Goals as goal

pub returns-clause-claimer : goal.returns-clause-claimer
returns-clause-claimer c greatest frame most sound s h fits = (claimer_owns greatest most frame sound s h fits, owner_claims greatest most frame sound s h fits)

pub returns-clause-computed : goal.returns-clause-computed
returns-clause-computed c greatest frame most sound s h fits =
    (λ owns. claimer_found greatest frame most sound s h fits (owner_claims greatest most frame sound s h fits owns), found_owns frame h s)

pub returns-clause-every : goal.returns-clause-every
returns-clause-every c greatest frame most sound h fits none =
    let claims = sound.some h fits in
    none-some _ (sym none ∙ claimer_found greatest frame most sound claims.0 h fits claims.1)

pub returns-clause-headers : goal.returns-clause-headers
returns-clause-headers c = same_owner
