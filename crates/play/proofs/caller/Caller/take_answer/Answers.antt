-- The caller has its engine's step, and the entry of a call that drew.
use Rattle.std.proofs.Common.{◌≡◌, Option, Some, true, ap, ◌∙◌, sym}
use Rattle.map_model.specs.declared.entry.Entry.{Entry}
use Rattle.core_run.specs.Engines.{Engine, taken}
use Rattle.play.specs.declared.caller.Caller.{Caller as PlayCaller}
use Rattle.play.specs.Callers.{taken_to}
use Rattle.play.proofs.caller.Caller.take_answer.Goals as goal

-- behind the step of its engine the entry is what it was before that
pub returns-clause-taken : goal.returns-clause-taken
returns-clause-taken c e its =
    let r : PlayCaller = c.args.self.now in let drawn : PlayCaller = c.keep_drawn.new.self in let next : PlayCaller = c.answer_engine.new.self in
    let others : drawn ≡ record r { drew = drawn.drew } = c.keep_drawn.ensures.others in
    let its_drawn : drawn.engine ≡ Some e = ap (λ (q : PlayCaller). q.engine) others ∙ its in
    let is : next ≡ record r { engine = Some (taken e c.args.ans); begun = true; drew = drawn.drew } =
    c.answer_engine.ensures.taken e its_drawn ∙ ap (λ (q : PlayCaller). taken_to (taken e c.args.ans) q) others in
    is ∙ ap (λ (d : Option Entry). record r { engine = Some (taken e c.args.ans); begun = true; drew = d }) (sym (ap (λ (q : PlayCaller). q.drew) is))

pub returns-clause-drew : goal.returns-clause-drew
returns-clause-drew c told many =
    let e : Engine = c.requires.runs.0 in
    let its_drawn = ap (λ (q : PlayCaller). q.engine) c.keep_drawn.ensures.others ∙ c.requires.runs.1 in
    ap (λ (q : PlayCaller). q.drew) (c.answer_engine.ensures.taken e its_drawn) ∙ c.keep_drawn.ensures.drew told many

pub returns-clause-ended : goal.returns-clause-ended
returns-clause-ended c e its = c.answer_engine.ensures.ended e (ap (λ (q : PlayCaller). q.engine) c.keep_drawn.ensures.others ∙ its)
