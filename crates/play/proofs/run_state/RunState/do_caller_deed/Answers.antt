-- The caller at an index does the event that its engine wants, where it runs a call.
use Rattle.std.proofs.Common.{ℕ, suc, None, Some, arith, add-one, sym, subst}
use Rattle.core_run.specs.State.{deed, engine_deed}
use Rattle.keeping.specs.Asked.{MayBeAsked}
use Rattle.play.specs.RunStates.{HasDone}
use Rattle.op_core.specs.declared.want.Want.{Want}
use Rattle.play.proofs.driven.Doing.{deed_may, has_done, has_none, may_go, is_open, no_deed, has_event, index_few, keeper_is}
use Rattle.core_run.specs.declared.keeper.Keeper.TheVariants.{Open}
use Rattle.play.proofs.run_state.RunState.do_caller_deed.Goals as goal

pub do_call_deed-requires-clause-runs : goal.do_call_deed-requires-clause-runs
do_call_deed-requires-clause-runs c =
    may_go c.args.self.now c.args.index c.in-Some.running c.requires.2.is_of.room (sym c.in-Some.ensures)

pub do_call_deed-requires-clause-few : goal.do_call_deed-requires-clause-few
do_call_deed-requires-clause-few c =
    let may = may_go c.args.self.now c.args.index c.in-Some.running c.requires.2.is_of.room (sym c.in-Some.ensures) in
    index_few c.requires.0 c.requires.1 c.args.self.now c.args.index may.caller c.requires.2 may.is_there

pub do_call_deed-requires-clause-may : goal.do_call_deed-requires-clause-may
do_call_deed-requires-clause-may c =
    let t = c.requires.0 in let s = c.requires.1 in let st = c.requires.2 in let run = c.in-Some.running in let index = c.args.index in
    let may = may_go c.args.self.now index run st.is_of.room (sym c.in-Some.ensures) in
    let few = index_few t s c.args.self.now index may.caller st may.is_there in
    let has = has_event t s c.args.self.now index run.call run.want st.is_of (is_open c.args.self.now index run (sym c.in-Some.ensures)) may in
    subst (λ (n : ℕ). MayBeAsked n run.want c.args.self.now.device) (sym (add-one index))
    (subst (λ (w : Want). MayBeAsked (suc index) w c.args.self.now.device) may.wants
    (deed_may c.deeds_are_well.ensures t s c.args.self.now (suc index) (engine_deed t.shape index s.core has.caller run.call may.engine) st
    (omega arith) has.its_deed))

pub returns-in-Some : goal.returns-in-Some
returns-in-Some c t s st =
    let run = c.in-Some.running in let index = c.args.index in
    let may = may_go c.args.self.now index run st.is_of.room (sym c.in-Some.ensures) in
    let opened = is_open c.args.self.now index run (sym c.in-Some.ensures) in
    let has = has_event t s c.args.self.now index run.call run.want st.is_of opened may in
    subst (λ (n : ℕ). HasDone t s (Some c.do_call_deed.result) (deed t.shape n s) c.do_call_deed.new.self) (sym (add-one index))
    (has_done c.deeds_are_well.ensures t s c.args.self.now c.do_call_deed.new.self (suc index) (engine_deed t.shape index s.core has.caller run.call may.engine)
    c.do_call_deed.result st has.its_deed (c.do_call_deed.ensures may t s has.caller st.is_of (keeper_is t s c.args.self.now Open st.is_of opened) has.is_there))

pub returns-in-None : goal.returns-in-None
returns-in-None c t s st =
    subst (λ (n : ℕ). HasDone t s None (deed t.shape n s) c.args.self.now) (sym (add-one c.args.index))
    (has_none t s c.args.self.now (suc c.args.index) st (no_deed t s c.args.self.now c.args.index st.is_of (sym c.in-None.ensures)))
