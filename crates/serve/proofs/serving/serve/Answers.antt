-- What is served is a session of the callers' calls.
use Rattle.std.proofs.Common.{◌≡◌, [], ℕ, List, length, refl, ap, sym, subst, ◌∙◌, arith, map, true, false, None}
use Rattle.std.specs.Prelude.{All, replicate}
use Rattle.std.proofs.lemmas.List.{with_items_is, length-map}
use Rattle.std.proofs.lemmas.List.FromFn.{length-map-range_with_len}
use Rattle.map_model.specs.Roomed.{with_room, lists_of}
use Rattle.script_text.specs.declared.line.Line.{Line}
use Rattle.script_text.specs.Calls.{calls_of, IsLineSoFar}
use Rattle.session.specs.Session.{IsSession}
use Rattle.session.specs.Transcript.{transcript_of}
use Rattle.reply_text.specs.Told.{tolds_of}
use Rattle.play.specs.Played.{scripts_to, scripts_of}
use Rattle.shared_image.specs.Powered.{ground_in}
use Rattle.serve.specs.declared.job.Job.{Job}
use Rattle.serve.specs.Jobs.{IsLeftJob, full_of}
use Rattle.serve.proofs.Readied.{few_callers}
use Rattle.serve.proofs.Tried.{left_all, calls_kept, rooms_fit}
use Rattle.serve.proofs.Finally.{was_shared, session_of}
use Rattle.serve.proofs.serving.serve.Goals as goal

pub jobs_of-requires-clause-callers : goal.jobs_of-requires-clause-callers
jobs_of-requires-clause-callers g c =
    let lines : List Line = c.as_slice-lines.result.now in
    let so_far = subst (λ (ls : List Line). All IsLineSoFar ls) (sym c.as_slice-lines.ensures) c.requires.so_far in
    let few = few_callers lines so_far in
    let is = c.last_caller-last.ensures in
    let callers = c.in_ok-image.ensures.callers.0 in
    let from = c.from.ensures in
    (omega (arith, callers, from), omega (arith, few, is))

pub collect-requires-clause-jobs : goal.collect-requires-clause-jobs
collect-requires-clause-jobs g c =
    let olds : List Job = c.as_mut_slice.result.now in let news : List Job = c.serve_all.new.jobs in
    let long = c.serve_all.ensures.length in
    subst (λ (js : List Job). All (IsLeftJob c.in_ok-image.image) js) (sym (with_items_is c.in_ok-jobs.jobs news (long ∙ c.as_mut_slice.ensures.len)))
    (left_all c.in_ok-image.image olds news long c.serve_all.ensures.served)

pub collect-requires-clause-few : goal.collect-requires-clause-few
collect-requires-clause-few g c =
    let olds : List Job = c.as_mut_slice.result.now in let news : List Job = c.serve_all.new.jobs in
    let lines : List Line = c.as_slice-lines.result.now in
    let so_far = subst (λ (ls : List Line). All IsLineSoFar ls) (sym c.as_slice-lines.ensures) c.requires.so_far in
    let few = few_callers lines so_far in
    let is = c.last_caller-last.ensures in
    let n : ℕ = c.last_caller-last.result in
    let long = ap length (with_items_is c.in_ok-jobs.jobs news (c.serve_all.ensures.length ∙ c.as_mut_slice.ensures.len)) in
    let many : length olds ≡ n = ap length c.as_mut_slice.ensures.value ∙ sym (length-map c.in_ok-jobs.jobs.items (λ (j : Job). j.calls.items)) ∙ ap length c.in_ok-jobs.ensures.calls
    ∙ length-map-range_with_len (λ (caller : ℕ). calls_of caller lines) 1 n in
    let kept = c.serve_all.ensures.length in
    omega (arith, few, is, long, many, kept)

pub collect-requires-clause-passes : goal.collect-requires-clause-passes
collect-requires-clause-passes g c =
    let olds : List Job = c.as_mut_slice.result.now in let news : List Job = c.serve_all.new.jobs in
    let lines : List Line = c.as_slice-lines.result.now in
    let n : ℕ = c.last_caller-last.result in
    let long = ap length (with_items_is c.in_ok-jobs.jobs news (c.serve_all.ensures.length ∙ c.as_mut_slice.ensures.len)) in
    let many : length olds ≡ n = ap length c.as_mut_slice.ensures.value ∙ sym (length-map c.in_ok-jobs.jobs.items (λ (j : Job). j.calls.items)) ∙ ap length c.in_ok-jobs.ensures.calls
    ∙ length-map-range_with_len (λ (caller : ℕ). calls_of caller lines) 1 n in
    let kept = c.serve_all.ensures.length in
    let room = c.in_ok-passes.ensures.capacity in
    let from = c.from-2.ensures in
    (c.in_ok-passes.ensures.items, omega (arith, long, many, kept, room, from))

pub collect-requires-clause-lists : goal.collect-requires-clause-lists
collect-requires-clause-lists g c =
    let olds : List Job = c.as_mut_slice.result.now in let news : List Job = c.serve_all.new.jobs in
    let long = c.serve_all.ensures.length in
    let same : c.as_slice.result.now ≡ olds = c.as_slice.ensures.value ∙ sym c.as_mut_slice.ensures.value in
    c.in_ok-lists.ensures
    ∙ ap (map with_room) (c.as_slice-2.ensures.value ∙ c.in_ok-rooms.ensures ∙ ap (map (λ (j : Job). length j.calls.items)) same)
    ∙ rooms_fit c.in_ok-image.image olds news long c.serve_all.ensures.served
    ∙ ap (map (λ (j : Job). with_room (length j.calls.items))) (sym (with_items_is c.in_ok-jobs.jobs news (long ∙ c.as_mut_slice.ensures.len)))

pub close-words-requires-clause-all : goal.close-words-requires-clause-all
close-words-requires-clause-all g c =
    let news : List Job = c.serve_all.new.jobs in
    let lines : List Line = c.as_slice-lines.result.now in
    let n : ℕ = c.last_caller-last.result in
    let long = ap length (with_items_is c.in_ok-jobs.jobs news (c.serve_all.ensures.length ∙ c.as_mut_slice.ensures.len)) in
    let many : length c.as_mut_slice.result.now ≡ n = ap length c.as_mut_slice.ensures.value ∙ sym (length-map c.in_ok-jobs.jobs.items (λ (j : Job). j.calls.items)) ∙ ap length c.in_ok-jobs.ensures.calls
    ∙ length-map-range_with_len (λ (caller : ℕ). calls_of caller lines) 1 n in
    let kept = c.serve_all.ensures.length in
    let all = (c.if-not-collect.ensures refl).callers in
    let one = c.in_ok-jobs.ensures.keeper.1 in
    let site = c.in_ok-image.ensures.callers.1 in
    let from = c.from.ensures in
    omega (arith, long, many, kept, all, one, site, from)

pub returns-clause-served : goal.returns-clause-served
returns-clause-served g c =
    let olds : List Job = c.as_mut_slice.result.now in let news : List Job = c.serve_all.new.jobs in
    let lines : List Line = c.as_slice-lines.result.now in
    let image = c.in_ok-image.image in
    let site = ground_in image in
    let shape = c.args.medium.geometry in let first = c.args.medium.words in
    let power = c.in_ok-image.ensures in
    let close = c.close-words.ensures in
    let jobs_are = with_items_is c.in_ok-jobs.jobs news (c.serve_all.ensures.length ∙ c.as_mut_slice.ensures.len) in
    let c_of = c.if-not-collect.ensures refl in
    let calls = ap (map (λ (j : Job). j.calls.items)) jobs_are
    ∙ calls_kept image olds news c.serve_all.ensures.length c.serve_all.ensures.served
    ∙ ap (map (λ (j : Job). j.calls.items)) c.as_mut_slice.ensures.value
    ∙ c.in_ok-jobs.ensures.calls
    ∙ ap (λ (n : ℕ). scripts_to n lines) c.last_caller-last.ensures in
    let empty = c.runs_are_sessions.ensures (record { shape = shape; first = first; scripts = [] }) [] (record { served = c.requires.sound; few = omega arith; words = tt }) in
    let was = was_shared site shape first c.close-words.result.items image _ c.collect.new.passes.items c.collect.new.lists power.shape c.requires.sound power.words power.pairs
    close.sound close.clean close.replies close.ended c_of in
    let all = session_of site shape first c.close-words.result.items image _ c.collect.new.passes.items c.collect.new.lists (scripts_of lines) empty.opening power.shape was c_of calls empty.opening_pairs in
    record {
      same_shape = refl;
      uncut = refl;
      session = subst (λ (ws : List ℕ). IsSession shape first ws (scripts_of c.args.script.now) (record { closed = true; scheduled = false })
          (transcript_of (tolds_of (lists_of c.collect.new.lists) (replicate 64 None)))) (sym c.new-2.ensures)
          (subst (λ (ls : List Line). IsSession shape first c.close-words.result.items (scripts_of ls) (record { closed = true; scheduled = false })
          (transcript_of (tolds_of (lists_of c.collect.new.lists) (replicate 64 None)))) c.as_slice-lines.ensures all);
    }

pub returns-clause-few_lists : goal.returns-clause-few_lists
returns-clause-few_lists g c =
    let news : List Job = c.serve_all.new.jobs in
    let lines : List Line = c.as_slice-lines.result.now in
    let so_far = subst (λ (ls : List Line). All IsLineSoFar ls) (sym c.as_slice-lines.ensures) c.requires.so_far in
    let few = few_callers lines so_far in
    let is = c.last_caller-last.ensures in
    let n : ℕ = c.last_caller-last.result in
    let jobs_are = with_items_is c.in_ok-jobs.jobs news (c.serve_all.ensures.length ∙ c.as_mut_slice.ensures.len) in
    let long = ap length jobs_are in
    let many : length c.as_mut_slice.result.now ≡ n = ap length c.as_mut_slice.ensures.value ∙ sym (length-map c.in_ok-jobs.jobs.items (λ (j : Job). j.calls.items)) ∙ ap length c.in_ok-jobs.ensures.calls
    ∙ length-map-range_with_len (λ (caller : ℕ). calls_of caller lines) 1 n in
    let kept = c.serve_all.ensures.length in
    let all : length c.collect.new.lists ≡ length news = ap length (c.if-not-collect.ensures refl).listed ∙ length-map _ (λ (j : Job). full_of j.told.items) ∙ long in
    omega (arith, few, is, many, kept, all)
