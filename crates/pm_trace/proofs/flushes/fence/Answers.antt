-- What is kept passes the test, of what the flushes hold then.
use Rattle.std.proofs.Common.{rules, ◌≡◌, ◌++◌, ◌∙◌, ap, sym, eqb, not, filter, take, drop, length, take_at}
use Rattle.std.proofs.lemmas.Fn.{filter_same}
use Rattle.pm_trace.specs.declared.flushes.Flush.{Flush}
use Rattle.pm_trace.specs.FlushLists.{renewed_by}
use Rattle.pm_trace.proofs.Renews.{length-renewed_by}
use Rattle.pm_trace.proofs.flushes.fence.Goals as goal

pub returns-clause-items : goal.returns-clause-items
returns-clause-items c =
    let flushes = c.args.flushes.now in
    let renewed : c.renew_older.new.flushes ≡ renewed_by c.args.caller flushes.items = c.renew_older.ensures ∙ ap (λ fs. renewed_by c.args.caller fs) c.deref_mut.ensures.value in
    let long : length c.renew_older.new.flushes ≡ flushes.len = ap length renewed ∙ length-renewed_by c.args.caller flushes.items ∙ sym flushes.ok.0 in
    let whole : take flushes.len (c.renew_older.new.flushes ++ drop (length c.renew_older.new.flushes) flushes.items) ≡ renewed_by c.args.caller flushes.items =
    take_at c.renew_older.new.flushes (drop (length c.renew_older.new.flushes) flushes.items) flushes.len long ∙ renewed in
    filter_same _ (λ (f : Flush). not (eqb f.caller c.args.caller)) _ (λ x b f' k. search rules) _ _ c.retain.ensures.filtered
    ∙ ap (λ fs. filter (λ (f : Flush). not (eqb f.caller c.args.caller)) fs) whole
