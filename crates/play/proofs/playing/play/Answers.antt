-- A play does its run: the run state stands where the definitions of a run do, from its beginning to its end.
use Rattle.std.proofs.Common.{◌≡◌, ℕ, Option, List, length, All, refl, ap, sym, ◌∙◌, subst, arith}
use Rattle.map_model.specs.Roomed.{Roomed, lists_of}
use Rattle.reply_text.specs.Told.{replies_in}
use Rattle.script_text.specs.declared.line.Line.{Line}
use Rattle.script_text.specs.Calls.{IsLineSoFar}
use Rattle.core_run.specs.Run.{cut_of, lines_done}
use Rattle.core_run.specs.Running.{Setup, IsSetup}
use Rattle.core_run.specs.Ends.{most_of}
use Rattle.core_run.specs.Wells.{start_state, RunsThrough, RunsOut}
use Rattle.play.specs.declared.caller.Caller.{Caller as PlayCaller}
use Rattle.play.specs.Callers.{calls_in}
use Rattle.play.specs.RunStates.{Stands, end_state}
use Rattle.play.specs.Played.{scripts_of, setup_of, IsOfRun, IsPlay}
use Rattle.play.proofs.driven.Doing.{callers_as_scripts}
use Rattle.play.proofs.driven.Listed.{lists_many}
use Rattle.play.proofs.ended.Few.{few_replies}
use Rattle.play.proofs.ended.Whole.{play_is, play_begins, play_stands, most_is, few_in, is_setup, is_play}
use Rattle.play.proofs.playing.play.Goals as goal

pub count_calls-requires : goal.count_calls-requires
count_calls-requires c =
    let lines : List Line = c.as_slice-lines.result.now in
    let few = few_in c.args.medium.geometry lines c.in_ok-callers.callers.items c.in_ok-callers.ensures in
    let same : length lines ≡ length c.args.script.now = ap (λ ls. length ls) c.as_slice-lines.ensures in
    let most = c.requires.few in
    let here : calls_in c.deref.result.now ≡ calls_in c.in_ok-callers.callers.items = ap (λ (rs : List PlayCaller). calls_in rs) c.deref.ensures.value in
    omega arith

pub most_events-most-requires : goal.most_events-most-requires
most_events-most-requires c =
    let lines : List Line = c.as_slice-lines.result.now in
    let few = few_in c.args.medium.geometry lines c.in_ok-callers.callers.items c.in_ok-callers.ensures in
    let same : length lines ≡ length c.args.script.now = ap (λ ls. length ls) c.as_slice-lines.ensures in
    let counted : c.count_calls.result ≡ calls_in c.in_ok-callers.callers.items =
    c.count_calls.ensures ∙ ap (λ (rs : List PlayCaller). calls_in rs) c.deref.ensures.value in
    let most = c.requires.few in
    omega arith

pub do_lines-requires : goal.do_lines-requires
do_lines-requires c =
    let lines : List Line = c.as_slice-lines.result.now in
    let shape = c.args.medium.geometry in let first = c.args.medium.words in
    let t : Setup = setup_of shape first (scripts_of lines) in
    let is : IsSetup t = is_setup shape first lines c.requires.sound (subst (λ ls. All IsLineSoFar ls) (sym c.as_slice-lines.ensures) c.requires.so_far) in
    let most : ℕ = c.most_events-most.result in
    let many : most ≡ most_of t = most_is shape first (scripts_of lines) c.in_ok-callers.callers.items c.count_calls.result most c.in_ok-callers.ensures
    (c.count_calls.ensures ∙ ap (λ (rs : List PlayCaller). calls_in rs) c.deref.ensures.value) c.most_events-most.ensures in
    let begins : Stands t (start_state t) c.in_ok-run_state.run_state =
    play_begins c.run_begins.ensures shape first lines c.in_ok-callers.callers.items c.in_ok-run_state.run_state is c.in_ok-callers.ensures c.in_ok-run_state.ensures in
    let well = c.lines_are_well.ensures t lines is in
    (t, start_state t, begins, subst (λ (m : ℕ). RunsThrough t m lines (start_state t)) (sym many) well.through)

pub end_run-requires : goal.end_run-requires
end_run-requires c =
    let lines : List Line = c.as_slice-lines.result.now in
    let shape = c.args.medium.geometry in let first = c.args.medium.words in
    let t : Setup = setup_of shape first (scripts_of lines) in
    let is : IsSetup t = is_setup shape first lines c.requires.sound (subst (λ ls. All IsLineSoFar ls) (sym c.as_slice-lines.ensures) c.requires.so_far) in
    let most : ℕ = c.most_events-most.result in
    let many : most ≡ most_of t = most_is shape first (scripts_of lines) c.in_ok-callers.callers.items c.count_calls.result most c.in_ok-callers.ensures
    (c.count_calls.ensures ∙ ap (λ (rs : List PlayCaller). calls_in rs) c.deref.ensures.value) c.most_events-most.ensures in
    let begins : Stands t (start_state t) c.in_ok-run_state.run_state =
    play_begins c.run_begins.ensures shape first lines c.in_ok-callers.callers.items c.in_ok-run_state.run_state is c.in_ok-callers.ensures c.in_ok-run_state.ensures in
    let well = c.lines_are_well.ensures t lines is in (
      t,
      lines_done shape most lines (start_state t),
      c.do_lines.ensures t (start_state t) begins (subst (λ (m : ℕ). RunsThrough t m lines (start_state t)) (sym many) well.through),
      subst (λ (o : Option ℕ). RunsOut t most o (lines_done shape most lines (start_state t))) (sym c.cut_of-cut.ensures)
          (subst (λ (m : ℕ). RunsOut t m (cut_of lines) (lines_done shape m lines (start_state t))) (sym many) well.out),
    )

pub into_session-requires : goal.into_session-requires
into_session-requires c =
    let lines : List Line = c.as_slice-lines.result.now in
    let shape = c.args.medium.geometry in let first = c.args.medium.words in
    let t : Setup = setup_of shape first (scripts_of lines) in
    let is : IsSetup t = is_setup shape first lines c.requires.sound (subst (λ ls. All IsLineSoFar ls) (sym c.as_slice-lines.ensures) c.requires.so_far) in
    let most : ℕ = c.most_events-most.result in
    let many : most ≡ most_of t = most_is shape first (scripts_of lines) c.in_ok-callers.callers.items c.count_calls.result most c.in_ok-callers.ensures
    (c.count_calls.ensures ∙ ap (λ (rs : List PlayCaller). calls_in rs) c.deref.ensures.value) c.most_events-most.ensures in
    let begins : Stands t (start_state t) c.in_ok-run_state.run_state =
    play_begins c.run_begins.ensures shape first lines c.in_ok-callers.callers.items c.in_ok-run_state.run_state is c.in_ok-callers.ensures c.in_ok-run_state.ensures in
    let well = c.lines_are_well.ensures t lines is in
    let ends = play_stands t lines most c.cut_of-cut.result c.in_ok-run_state.run_state c.do_lines.new.self c.end_run.new.self begins well many
    c.cut_of-cut.ensures c.do_lines.ensures c.end_run.ensures in
    let as_many = callers_as_scripts t (end_state shape most c.cut_of-cut.result (lines_done shape most lines (start_state t))) c.end_run.new.self ends in
    let few = is.few in
    omega arith

pub returns-clause-played : goal.returns-clause-played
returns-clause-played c =
    let lines : List Line = c.as_slice-lines.result.now in
    let shape = c.args.medium.geometry in let first = c.args.medium.words in
    let t : Setup = setup_of shape first (scripts_of lines) in
    let is : IsSetup t = is_setup shape first lines c.requires.sound (subst (λ ls. All IsLineSoFar ls) (sym c.as_slice-lines.ensures) c.requires.so_far) in
    let most : ℕ = c.most_events-most.result in
    let many : most ≡ most_of t = most_is shape first (scripts_of lines) c.in_ok-callers.callers.items c.count_calls.result most c.in_ok-callers.ensures
    (c.count_calls.ensures ∙ ap (λ (rs : List PlayCaller). calls_in rs) c.deref.ensures.value) c.most_events-most.ensures in
    let begins : Stands t (start_state t) c.in_ok-run_state.run_state =
    play_begins c.run_begins.ensures shape first lines c.in_ok-callers.callers.items c.in_ok-run_state.run_state is c.in_ok-callers.ensures c.in_ok-run_state.ensures in
    let well = c.lines_are_well.ensures t lines is in
    let ends = play_stands t lines most c.cut_of-cut.result c.in_ok-run_state.run_state c.do_lines.new.self c.end_run.new.self begins well many
    c.cut_of-cut.ensures c.do_lines.ensures c.end_run.ensures in
    let run : IsOfRun shape first lines c.into_session.result = play_is shape first lines c.into_session.result most c.cut_of-cut.result many c.cut_of-cut.ensures
    (c.into_session.ensures.left t (end_state shape most c.cut_of-cut.result (lines_done shape most lines (start_state t))) ends.is_of) in
    let so_far = subst (λ ls. All IsLineSoFar ls) (sym c.as_slice-lines.ensures) c.requires.so_far in
    subst (λ ls. IsPlay shape first ls c.into_session.result) c.as_slice-lines.ensures
    (is_play c.runs_are_sessions.ensures shape first lines c.into_session.result c.requires.sound so_far run)

pub returns-clause-few_lists : goal.returns-clause-few_lists
returns-clause-few_lists c =
    let lines : List Line = c.as_slice-lines.result.now in
    let shape = c.args.medium.geometry in let first = c.args.medium.words in
    let t : Setup = setup_of shape first (scripts_of lines) in
    let is : IsSetup t = is_setup shape first lines c.requires.sound (subst (λ ls. All IsLineSoFar ls) (sym c.as_slice-lines.ensures) c.requires.so_far) in
    let most : ℕ = c.most_events-most.result in
    let many : most ≡ most_of t = most_is shape first (scripts_of lines) c.in_ok-callers.callers.items c.count_calls.result most c.in_ok-callers.ensures
    (c.count_calls.ensures ∙ ap (λ (rs : List PlayCaller). calls_in rs) c.deref.ensures.value) c.most_events-most.ensures in
    let begins : Stands t (start_state t) c.in_ok-run_state.run_state =
    play_begins c.run_begins.ensures shape first lines c.in_ok-callers.callers.items c.in_ok-run_state.run_state is c.in_ok-callers.ensures c.in_ok-run_state.ensures in
    let well = c.lines_are_well.ensures t lines is in
    let ends = play_stands t lines most c.cut_of-cut.result c.in_ok-run_state.run_state c.do_lines.new.self c.end_run.new.self begins well many
    c.cut_of-cut.ensures c.do_lines.ensures c.end_run.ensures in
    let as_many = callers_as_scripts t (end_state shape most c.cut_of-cut.result (lines_done shape most lines (start_state t))) c.end_run.new.self ends in
    let lists = lists_many c.end_run.new.self.callers.items c.end_run.new.self.lists ends.is_of.room in
    let same : length c.into_session.result.lists ≡ length c.end_run.new.self.lists = ap length c.into_session.ensures.lists in
    let few = is.few in
    omega arith

pub returns-clause-few_replies : goal.returns-clause-few_replies
returns-clause-few_replies c =
    let lines : List Line = c.as_slice-lines.result.now in
    let shape = c.args.medium.geometry in let first = c.args.medium.words in
    let t : Setup = setup_of shape first (scripts_of lines) in
    let is : IsSetup t = is_setup shape first lines c.requires.sound (subst (λ ls. All IsLineSoFar ls) (sym c.as_slice-lines.ensures) c.requires.so_far) in
    let most : ℕ = c.most_events-most.result in
    let many : most ≡ most_of t = most_is shape first (scripts_of lines) c.in_ok-callers.callers.items c.count_calls.result most c.in_ok-callers.ensures
    (c.count_calls.ensures ∙ ap (λ (rs : List PlayCaller). calls_in rs) c.deref.ensures.value) c.most_events-most.ensures in
    let begins : Stands t (start_state t) c.in_ok-run_state.run_state =
    play_begins c.run_begins.ensures shape first lines c.in_ok-callers.callers.items c.in_ok-run_state.run_state is c.in_ok-callers.ensures c.in_ok-run_state.ensures in
    let well = c.lines_are_well.ensures t lines is in
    let ends = play_stands t lines most c.cut_of-cut.result c.in_ok-run_state.run_state c.do_lines.new.self c.end_run.new.self begins well many
    c.cut_of-cut.ensures c.do_lines.ensures c.end_run.ensures in
    let few = few_replies t (end_state shape most c.cut_of-cut.result (lines_done shape most lines (start_state t))) lines c.end_run.new.self ends refl in
    let same : replies_in (lists_of c.into_session.result.lists) ≡ replies_in (lists_of c.end_run.new.self.lists) =
    ap (λ (ks : List Roomed). replies_in (lists_of ks)) c.into_session.ensures.lists in
    let long : length lines ≡ length c.args.script.now = ap (λ (ls : List Line). length ls) c.as_slice-lines.ensures in
    omega arith
