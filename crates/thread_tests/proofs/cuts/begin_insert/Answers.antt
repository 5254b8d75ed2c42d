use Rattle.std.proofs.Common.{ap, ◌∙◌}
use Rattle.thread_tests.proofs.Begun.{callers_stay}
use Rattle.thread_tests.proofs.cuts.begin_insert.Goals as goal

pub returns-clause-callers : goal.returns-clause-callers
returns-clause-callers c =
    ap (λ s. s.me.0.view.callers) c.into_pass.ensures ∙ (callers_stay _ _ _ _ _ _ _ _ _ _ _ _ c.try_insert.ensures.called ∙ ap (λ s. s.me.0.view.callers) c.new-caller.ensures.parts.0)
