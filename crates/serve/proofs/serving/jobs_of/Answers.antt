-- One job more is ready.
use Rattle.std.proofs.Common.{rules, ◌∷◌, ◌++◌, ◌+◌, [], ℕ, List, Some, false, length, refl, ap, sym, subst, ◌∙◌, arith, map, length-append}
use Rattle.std.specs.Prelude.{All, ◌<◌}
use Rattle.std.specs.List.{range_with_len}
use Rattle.std.proofs.lemmas.List.{map-append}
use Rattle.std.proofs.lemmas.List.FromFn.{map-range_with_len_more}
use Rattle.std.proofs.lemmas.List.Elements.{All-push}
use Rattle.map_model.specs.declared.call.Call.{Call}
use Rattle.shared_image.specs.Engines.{IsWordCall}
use Rattle.world.specs.Attempts.{HoldsOnly}
use Rattle.script_text.specs.Calls.{calls_of}
use Rattle.shared_image.specs.Watch.{Watch}
use Rattle.serve.specs.declared.job.Job.{Job}
use Rattle.serve.specs.Jobs.{IsReadyJob}
use Rattle.serve.proofs.Readied.{word_calls, fresh}
use Rattle.serve.proofs.serving.jobs_of.Goals as goal

pub loop-before-preserved : goal.loop-before-preserved
loop-before-preserved c =
    let at = c.loop-before in
    let image = c.args.image.now in
    let job : Job = record { pass = Some c.split_pass-pass.result; number = at.before + 1; calls = c.in_ok-calls.calls; told = c.in_ok-told.told; all = false } in
    let lines = c.args.lines.now in
    let view = c.split_pass-pass.ensures.view in
    let items = c.push_reserved.ensures.items in
    let calls = c.in_ok-calls.ensures in
    let low = c.loop-before-test.true in
    let was = at.invariant.callers in
    let now = c.split_pass-pass.ensures.callers in
    let said = c.requires.callers.1 in
    let long = ap length items ∙ length-append at.jobs.items (job ∷ []) in
    let count = at.invariant.count in
    let ready : IsReadyJob image job = record {
      token = c.split_pass-pass.result;
      is = refl;
      pass_of = c.split_pass-pass.ensures.pass;
      rests = (subst (λ (w : Watch). HoldsOnly [] w.view) (sym view) (fresh at.keeper.seat.me.0), subst (λ (w : Watch). 0 < w.view.callers) (sym view) (omega arith));
      own = ap (λ (w : Watch). w.view.own) view;
      past = ap (λ (w : Watch). w.past) view;
      one = ap (λ (w : Watch). w.view.callers) view;
      told = c.in_ok-told.ensures.items;
      room = search rules;
      words = subst (λ (cs : List Call). All IsWordCall cs) (sym calls) (word_calls (at.before + 1) lines c.requires.words);
      number = omega arith;
    } in
    record {
      keeper = c.split_pass-pass.ensures.keeper;
      callers = omega (arith, was, now, low, said);
      ready = subst (λ (js : List Job). All (IsReadyJob image) js) (sym items) (All-push (IsReadyJob image) at.jobs.items job at.invariant.ready ready);
      calls = ap (map (λ (j : Job). j.calls.items)) items
          ∙ map-append (λ (j : Job). j.calls.items) at.jobs.items (job ∷ [])
          ∙ ap (λ (css : List (List Call)). css ++ job.calls.items ∷ []) at.invariant.calls
          ∙ ap (λ (cs : List Call). map (λ (caller : ℕ). calls_of caller lines) (range_with_len 1 at.before) ++ cs ∷ []) calls
          ∙ sym (map-range_with_len_more (λ (caller : ℕ). calls_of caller lines) 1 at.before (at.before + 1) (omega arith));
      count = omega (arith, long, count);
      room = search rules;
    }
