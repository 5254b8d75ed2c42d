-- The engine that takes the answer is the caller's.
use Rattle.std.proofs.Common.{◌≡◌, ap, sym, ◌∙◌, subst}
use Rattle.std.specs.Prelude.{IsTrue, ◌↔◌}
use Rattle.std.proofs.lemmas.Option.{same_Some}
use Rattle.op_core.specs.declared.want.Want.TheVariants as want
use Rattle.core_run.specs.Engines.{Engine, wanted, taken}
use Rattle.play.specs.Callers.{taken_to}
use Rattle.play.proofs.caller.Caller.answer_engine.Goals as goal

pub returns-clause-ended : goal.returns-clause-ended
returns-clause-ended c e its =
    let same : c.in-Some.engine ≡ e = same_Some c.in-Some.engine e (sym c.in-Some.is ∙ its) in
    subst (λ (x : Engine). IsTrue c.take.result ↔ (wanted (taken x c.args.ans) ≡ want.Done)) same c.take.ensures.ended

pub returns-clause-taken : goal.returns-clause-taken
returns-clause-taken c e its =
    ap (λ (x : Engine). taken_to x c.args.self.now)
    (c.take.ensures.engine ∙ ap (λ (x : Engine). taken x c.args.ans) (same_Some c.in-Some.engine e (sym c.in-Some.is ∙ its)))
