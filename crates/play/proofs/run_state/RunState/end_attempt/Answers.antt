-- The attempt's end is the engine's, and its call is that of the caller at the index.
use Rattle.std.proofs.Common.{◌≡◌, Some, sym, ap, ◌∙◌, subst}
use Rattle.std.specs.Prelude.{slice_get}
use Rattle.std.proofs.lemmas.Option.{none-some, same_Some}
use Rattle.map_model.specs.declared.call.Call.{Call}
use Rattle.op_core.specs.declared.want.Want.TheVariants as want
use Rattle.core_run.specs.Engines.{End, Engine, wanted, end_of, reply_of_end, ended}
use Rattle.core_run.specs.Run.{ends_call, ends_in_again}
use Rattle.play.specs.declared.run_state.RunState.{RunState}
use Rattle.play.specs.declared.caller.Caller.{Caller as PlayCaller}
use Rattle.play.specs.Callers.{caller_of, counted_with}
use Rattle.play.proofs.driven.Listed.{at_index}
use Rattle.play.proofs.run_state.RunState.end_attempt.Goals as goal

pub end-end-requires : goal.end-end-requires
end-end-requires c other its =
    let (call, r, e, come) = c.requires.come in
    let same : r ≡ c.index_mut-caller.result.now = at_index c.args.self.now.callers.items c.args.index r c.index_mut-caller.result.now come.is_there c.index_mut-caller.ensures.value in
    subst (λ (x : Engine). wanted x ≡ want.Done) (same_Some e other (sym come.its_engine ∙ ap (λ (q : PlayCaller). q.engine) same ∙ its)) come.is_done

pub end_attempt-entry-requires-clause-current : goal.end_attempt-entry-requires-clause-current
end_attempt-entry-requires-clause-current c = sym c.current.ensures ∙ c.in-Some.is

pub end_attempt-entry-requires-clause-ran : goal.end_attempt-entry-requires-clause-ran
end_attempt-entry-requires-clause-ran c =
    let (call, r, e, come) = c.requires.come in
    let same : r ≡ c.index_mut-caller.result.now = at_index c.args.self.now.callers.items c.args.index r c.index_mut-caller.result.now come.is_there c.index_mut-caller.ensures.value in
    (e, ap (λ (q : PlayCaller). q.engine) (sym same) ∙ come.its_engine)

pub list_entry-requires-clause-few : goal.list_entry-requires-clause-few
list_entry-requires-clause-few c = c.requires.few

pub list_entry-requires-clause-room : goal.list_entry-requires-clause-room
list_entry-requires-clause-room c =
    let (call, r, e, come) = c.requires.come in
    (come.kept, come.its_list, come.spare)

pub unreachable-requires : goal.unreachable-requires
unreachable-requires c =
    let (call, r, e, come) = c.requires.come in
    let same : r ≡ c.index_mut-caller.result.now = at_index c.args.self.now.callers.items c.args.index r c.index_mut-caller.result.now come.is_there c.index_mut-caller.ensures.value in
    let is : c.end-end.result ≡ Some (end_of e) = c.end-end.ensures e (ap (λ (q : PlayCaller). q.engine) (sym same) ∙ come.its_engine) in
    none-some (end_of e) (sym c.in-None-end.is ∙ is)

pub unreachable-requires-in-None : goal.unreachable-requires-in-None
unreachable-requires-in-None c =
    let (call, r, e, come) = c.requires.come in
    let same : r ≡ c.index_mut-caller.result.now = at_index c.args.self.now.callers.items c.args.index r c.index_mut-caller.result.now come.is_there c.index_mut-caller.ensures.value in
    let is : c.current.result ≡ Some call = c.current.ensures ∙ ap (λ (q : PlayCaller). slice_get q.calls.items q.ended) (sym same) ∙ come.is_current in
    none-some call (sym c.in-None.is ∙ is)

pub returns : goal.returns
returns c call r e come =
    let same : r ≡ c.index_mut-caller.result.now = at_index c.args.self.now.callers.items c.args.index r c.index_mut-caller.result.now come.is_there c.index_mut-caller.ensures.value in
    let is : c.end-end.result ≡ Some (end_of e) = c.end-end.ensures e (ap (λ (q : PlayCaller). q.engine) (sym same) ∙ come.its_engine) in
    let same_end : c.in-Some-end.its_end ≡ end_of e = same_Some c.in-Some-end.its_end (end_of e) (sym c.in-Some-end.is ∙ is) in
    let current : c.current.result ≡ Some call = c.current.ensures ∙ ap (λ (q : PlayCaller). slice_get q.calls.items q.ended) (sym same) ∙ come.is_current in
    let same_call : c.in-Some.call ≡ call = same_Some c.in-Some.call call (sym c.in-Some.is ∙ current) in
    record {
      after = c.end_attempt-entry.new.self;
      entry = c.end_attempt-entry.result;
      caller = λ told many.
          c.end_attempt-entry.ensures.caller told (many ∙ ap (λ (q : PlayCaller). q.ended) same)
          ∙ ap (λ (q : PlayCaller). ended (caller_of q told) c.in-Some.call c.in-Some-end.its_end (reply_of_end c.in-Some-end.its_end)) (sym same)
          ∙ ap (λ (k : Call). ended (caller_of r told) k c.in-Some-end.its_end (reply_of_end c.in-Some-end.its_end)) same_call
          ∙ ap (λ (x : End). ended (caller_of r told) call x (reply_of_end x)) same_end;
      count = c.end_attempt-entry.ensures.count ∙ ap (λ (q : PlayCaller). counted_with c.end_attempt-entry.result q.ended) (sym same);
      calls = c.end_attempt-entry.ensures.calls ∙ ap (λ (q : PlayCaller). q.calls) (sym same);
      replied = c.ends_call.ensures ∙ ap (λ (x : End). ends_call (Some x)) same_end;
      again = c.ends_in_again.ensures ∙ ap (λ (x : End). ends_in_again (Some x)) same_end;
      callers = ap (λ (s : RunState). s.callers.items) c.list_entry.ensures;
      lists = ap (λ (s : RunState). s.lists) c.list_entry.ensures;
      device = ap (λ (s : RunState). s.device) c.list_entry.ensures;
      keeper = ap (λ (s : RunState). s.keeper) c.list_entry.ensures;
    }
