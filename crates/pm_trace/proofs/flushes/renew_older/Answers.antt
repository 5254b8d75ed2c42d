-- One flush more is looked at.
use Rattle.std.proofs.Common.{◌+◌, ◌∙◌, ap, take, drop, arith, []}
use Rattle.pm_trace.proofs.Renews.{own_before, own_behind, other_before, other_behind}
use Rattle.pm_trace.proofs.flushes.renew_older.Goals.{then-flush-caller, else-flush-caller}
use Rattle.pm_trace.proofs.flushes.renew_older.Goals as goal

pub loop-at-preserved : goal.loop-at-preserved
loop-at-preserved c =
    let i = c.loop-at.invariant in
    elim c.if-flush-caller.branch [
      | then-flush-caller w ↦ record {
        before = ap (λ fs. take (c.loop-at.at + 1) fs) w.flushes-is
            ∙ own_before c.args.caller c.loop-at.at c.args.flushes.now c.loop-at.flushes c.loop-at-test.true i.long i.before i.behind _ w.renew.new.flushes w.if-flush-caller.true w.renew.ensures;
        behind = ap (λ fs. drop (c.loop-at.at + 1) fs) w.flushes-is
            ∙ own_behind c.args.caller c.loop-at.at c.args.flushes.now c.loop-at.flushes c.loop-at-test.true i.long i.before i.behind _ w.renew.new.flushes w.renew.ensures;
        long = omega arith;
      }
      | else-flush-caller w ↦ record {
        before = ap (λ fs. take (c.loop-at.at + 1) fs) w.flushes-is
            ∙ other_before c.args.caller c.loop-at.at c.args.flushes.now c.loop-at.flushes c.loop-at-test.true i.long i.before i.behind _ w.if-flush-caller.false;
        behind = ap (λ fs. drop (c.loop-at.at + 1) fs) w.flushes-is
            ∙ other_behind c.args.caller c.loop-at.at c.args.flushes.now c.loop-at.flushes c.loop-at-test.true i.long i.before i.behind (record { caller = 0; line = 0; words = [] });
        long = omega arith;
      }
    ]
