-- One caller more.
use Rattle.std.proofs.Common.{◌≡◌, ℕ, ◌+◌, List, [], ◌∷◌, ◌++◌, length, ap, sym, ◌∙◌, subst, arith, rules}
use Rattle.std.proofs.lemmas.List.FromFn.{map-range_with_len_more, length-map-range_with_len}
use Rattle.map_model.specs.declared.call.Call.{Call}
use Rattle.core_run.specs.State.{waiting}
use Rattle.script_text.specs.Calls.{calls_of}
use Rattle.play.specs.Callers.{IsWaiting, AreWaiting}
use Rattle.play.specs.Played.{scripts_to}
use Rattle.play.proofs.Beginning.{one_more_waits}
use Rattle.play.proofs.starting.waiting_callers.Goals as goal

pub loop-before-preserved : goal.loop-before-preserved
loop-before-preserved c =
    let shape = c.args.geometry in let lines = c.args.lines.now in let n : ℕ = c.loop-before.before in
    let scripts : List (List Call) = scripts_to n lines in let calls : List Call = calls_of (n + 1) lines in
    let callers = c.loop-before.callers.items in let r = c.waiting_caller.result in
    let many : length scripts ≡ n = length-map-range_with_len (λ (caller : ℕ). calls_of caller lines) 1 n in
    let number : n + 1 ≡ 1 + length scripts = omega arith in
    let its : IsWaiting shape (n + 1) calls r = record {
      caller = c.waiting_caller.ensures.caller ∙ ap (λ cs. waiting shape (n + 1) cs) c.in_ok-calls.ensures;
      ended = c.waiting_caller.ensures.ended;
    } in
    let all : AreWaiting shape 1 (scripts ++ calls ∷ []) (callers ++ r ∷ []) =
    one_more_waits shape 1 scripts callers calls r c.loop-before.invariant (subst (λ (m : ℕ). IsWaiting shape m calls r) number its) in
    let more : scripts_to (n + 1) lines ≡ scripts ++ calls ∷ [] = map-range_with_len_more (λ (caller : ℕ). calls_of caller lines) 1 n (n + 1) (omega arith) in
    subst (λ ss. AreWaiting shape 1 ss c.push.new.self.items) (sym more) (subst (λ cs. AreWaiting shape 1 (scripts ++ calls ∷ []) cs) (sym c.in_ok-push.ensures.items) all)

pub returns : goal.returns
returns c = search rules
