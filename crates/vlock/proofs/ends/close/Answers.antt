use Rattle.std.proofs.Common.{◌∙◌, ◌∷◌, ℕ, List, sym, ap, length, subst}
use Rattle.vlock.specs.Ruling.{word, ground_of}
use Rattle.vlock.specs.Ends.{IsEnd}
use Rattle.vlock.proofs.Ended.{ended}
use Rattle.vlock.proofs.ends.close.Goals as goal

pub returns-clause-length : goal.returns-clause-length
returns-clause-length c = ap length c.words_in.ensures ∙ sym c.close_with-closed.result.words.ok.0 ∙ c.close_with-closed.ensures.counts.0

pub returns-clause-end : goal.returns-clause-end
returns-clause-end c =
    let k = c.args.keeper in
    let f = c.close_with-closed.ensures.values.2 in
    let site = ground_of c.args.table.shared.key in
    subst (λ (ws : List ℕ). IsEnd site (word ws) (k.me.0.view ∷ k.me.0.past)) (f.2 ∙ sym c.words_in.ensures) (ended site f.0 k.id k.me.0 f.1.0 f.1.1 c.requires.callers c.requires.owes)
