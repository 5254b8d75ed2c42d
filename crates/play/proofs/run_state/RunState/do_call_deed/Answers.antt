-- The caller at the index takes the answer to its event, and goes on with its attempt, or ends it.
use Rattle.std.proofs.Common.{◌≡◌, ◌+◌, Some, None, false, refl, sym, ap, ◌∙◌, add-one, arith, subst}
use Rattle.std.specs.Prelude.{slice_get}
use Rattle.std.proofs.lemmas.List.{set-set}
use Rattle.std.proofs.lemmas.Option.{slice_get_within}
use Rattle.image_layout.specs.Places.{Shape}
use Rattle.image_rules.proofs.Answered.{never}
use Rattle.pm_trace.specs.Memory.{Memory}
use Rattle.core_run.specs.Engines.{Engine, taken, tries_in_vain}
use Rattle.play.specs.declared.caller.Caller.{Caller as PlayCaller}
use Rattle.play.proofs.driven.Listed.{at_index}
use Rattle.play.proofs.driven.RunStateParts.{WasDone, has_gone_on, has_come, comes, call_left}
use Rattle.play.proofs.run_state.RunState.do_call_deed.Goals as goal

pub overflow_cast-index : goal.overflow_cast-index
overflow_cast-index c = let few = c.requires.few in record { fits = omega arith }

pub do_event-ans-requires : goal.do_event-ans-requires
do_event-ans-requires c = c.requires.may

pub index_mut-caller-requires : goal.index_mut-caller-requires
index_mut-caller-requires c =
    let runs = c.requires.runs in
    let within = slice_get_within c.args.self.now.callers.items c.args.index runs.caller runs.is_there in
    let is_len = c.args.self.now.callers.ok.0 in
    omega arith

pub take_answer-has_ended-requires-clause-current : goal.take_answer-has_ended-requires-clause-current
take_answer-has_ended-requires-clause-current c =
    let runs = c.requires.runs in
    let r : PlayCaller = c.index_mut-caller.result.now in
    let same : runs.caller ≡ r = at_index c.args.self.now.callers.items c.args.index runs.caller r runs.is_there c.index_mut-caller.ensures.value in
    subst (λ (q : PlayCaller). slice_get q.calls.items q.ended ≡ Some c.args.call) same runs.is_current

pub take_answer-has_ended-requires-clause-runs : goal.take_answer-has_ended-requires-clause-runs
take_answer-has_ended-requires-clause-runs c =
    let runs = c.requires.runs in
    let r : PlayCaller = c.index_mut-caller.result.now in
    let same : runs.caller ≡ r = at_index c.args.self.now.callers.items c.args.index runs.caller r runs.is_there c.index_mut-caller.ensures.value in
    (runs.engine, ap (λ (q : PlayCaller). q.engine) (sym same) ∙ runs.its_engine)

pub end_attempt-ending-requires-clause-few : goal.end_attempt-ending-requires-clause-few
end_attempt-ending-requires-clause-few c = c.requires.few

pub returns-then-not-has_ended : goal.returns-then-not-has_ended
returns-then-not-has_ended c runs t s caller is opened there =
    let r : PlayCaller = c.index_mut-caller.result.now in
    let same : runs.caller ≡ r = at_index c.args.self.now.callers.items c.args.index runs.caller r runs.is_there c.index_mut-caller.ensures.value in
    let its_engine : r.engine ≡ Some runs.engine = ap (λ (q : PlayCaller). q.engine) (sym same) ∙ runs.its_engine in
    let took = c.take_answer-has_ended.ensures.taken runs.engine its_engine in
    call_left t c.args.self.now _ s c.args.index _ c.args.call runs.engine caller r c.take_answer-has_ended.new.self c.args.want c.do_event-ans.result
    c.tries_in_vain-tried.result false false None c.waits_after-waits.result is opened there (runs.is_there ∙ ap Some same)
    (subst (λ (q : PlayCaller). slice_get q.calls.items q.ended ≡ Some c.args.call) same runs.is_current) (add-one c.args.index)
    (record {
      answer = c.do_event-ans.ensures.answer;
      follows = c.do_event-ans.ensures.follows;
      shape = c.do_event-ans.ensures.shape;
      callers = c.do_event-ans.ensures.callers;
    })
    (sym runs.wants)
    (has_gone_on r c.take_answer-has_ended.new.self c.args.call runs.engine c.do_event-ans.result c.tries_in_vain-tried.result c.waits_after-waits.result took
    c.take_answer-has_ended.ensures.drew
    (never c.take_answer-has_ended.result (c.take_answer-has_ended.ensures.ended runs.engine its_engine) c.if-not-has_ended.true)
    (c.waits_after-waits.ensures (taken runs.engine c.do_event-ans.result) (ap (λ (q : PlayCaller). q.engine) took)))
    refl refl refl
    (c.tries_in_vain-tried.ensures ∙ ap (λ (shape : Shape). tries_in_vain shape c.args.want c.do_event-ans.result) c.do_event-ans.ensures.shape)

pub end_attempt-ending-requires-clause-come : goal.end_attempt-ending-requires-clause-come
end_attempt-ending-requires-clause-come c =
    let runs = c.requires.runs in
    let r : PlayCaller = c.index_mut-caller.result.now in
    let e : Engine = taken runs.engine c.do_event-ans.result in
    let same : runs.caller ≡ r = at_index c.args.self.now.callers.items c.args.index runs.caller r runs.is_there c.index_mut-caller.ensures.value in
    let its_engine : r.engine ≡ Some runs.engine = ap (λ (q : PlayCaller). q.engine) (sym same) ∙ runs.its_engine in (
      c.args.call,
      c.take_answer-has_ended.new.self,
      e,
      comes c.args.self.now _ c.args.index c.args.call r c.take_answer-has_ended.new.self e runs.room (runs.is_there ∙ ap Some same)
          (subst (λ (q : PlayCaller). slice_get q.calls.items q.ended ≡ Some c.args.call) same runs.is_current)
          (c.take_answer-has_ended.ensures.taken runs.engine its_engine) ((c.take_answer-has_ended.ensures.ended runs.engine its_engine).0 c.if-not-has_ended.false)
          refl refl,
    )

pub returns : goal.returns
returns c runs t s caller is opened there =
    let r : PlayCaller = c.index_mut-caller.result.now in
    let next : PlayCaller = c.take_answer-has_ended.new.self in
    let e : Engine = taken runs.engine c.do_event-ans.result in
    let same : runs.caller ≡ r = at_index c.args.self.now.callers.items c.args.index runs.caller r runs.is_there c.index_mut-caller.ensures.value in
    let its : slice_get c.args.self.now.callers.items c.args.index ≡ Some r = runs.is_there ∙ ap Some same in
    let current : slice_get r.calls.items r.ended ≡ Some c.args.call =
    subst (λ (q : PlayCaller). slice_get q.calls.items q.ended ≡ Some c.args.call) same runs.is_current in
    let its_engine : r.engine ≡ Some runs.engine = ap (λ (q : PlayCaller). q.engine) (sym same) ∙ runs.its_engine in
    let took = c.take_answer-has_ended.ensures.taken runs.engine its_engine in
    let done = (c.take_answer-has_ended.ensures.ended runs.engine its_engine).0 c.if-not-has_ended.false in
    let ended = c.end_attempt-ending.ensures c.args.call next e (comes c.args.self.now _ c.args.index c.args.call r next e runs.room its current took done refl refl) in
    call_left t c.args.self.now c.end_attempt-ending.new.self s c.args.index _ c.args.call runs.engine caller r ended.after c.args.want c.do_event-ans.result
    c.tries_in_vain-tried.result c.end_attempt-ending.result.replied c.end_attempt-ending.result.again ended.entry c.waits_after-waits.result is opened there its current
    (add-one c.args.index)
    (subst (λ (d : Memory). WasDone c.args.self.now.device (c.args.index + 1) c.args.want c.do_event-ans.result d) (sym ended.device) (record {
      answer = c.do_event-ans.ensures.answer;
      follows = c.do_event-ans.ensures.follows;
      shape = c.do_event-ans.ensures.shape;
      callers = c.do_event-ans.ensures.callers;
    }))
    (sym runs.wants)
    (has_come r next c.args.call runs.engine c.do_event-ans.result c.tries_in_vain-tried.result c.waits_after-waits.result c.args.index c.end_attempt-ending.result _
    c.end_attempt-ending.new.self took done ended (c.waits_after-waits.ensures e (ap (λ (q : PlayCaller). q.engine) took)))
    ended.keeper (ended.callers ∙ set-set c.args.self.now.callers.items c.args.index next ended.after) ended.lists
    (c.tries_in_vain-tried.ensures ∙ ap (λ (shape : Shape). tries_in_vain shape c.args.want c.do_event-ans.result) c.do_event-ans.ensures.shape)
