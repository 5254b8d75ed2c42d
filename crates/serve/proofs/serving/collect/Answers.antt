-- One job more is collected.
use Rattle.std.proofs.Common.{◌≡◌, ◌∷◌, ◌++◌, [], ℕ, List, rules, length, ap, sym, subst, ◌∙◌, append_assoc, length-append, arith}
use Rattle.std.specs.Vec.Iter.{into_iter_items}
use Rattle.std.proofs.lemmas.Option.{same_Some}
use Rattle.atomic_table.specs.declared.shared.Seat.{Seat}
use Rattle.shared_image.specs.Watch.{Watch}
use Rattle.serve.specs.declared.job.Job.{Job}
use Rattle.serve.specs.Jobs.{IsLeftJob, IsDoneJob}
use Rattle.serve.proofs.Collected.{IsCollecting, goes_on, left_one, listing}
use Rattle.serve.proofs.serving.collect.Goals as goal

pub loop-job-preserved : goal.loop-job-preserved
loop-job-preserved c =
    let at = c.loop-job in
    let job = c.in-Some.job in
    let pass = c.in-Some-pass.pass in
    let image = c.args.image.now in
    let steps : into_iter_items at.job-iterator ≡ job ∷ into_iter_items c.next.new.self = c.in-Some.ensures.steps.0 in
    let rest : at.yielded ++ job ∷ into_iter_items c.next.new.self ≡ into_iter_items c.into_iter-job-iterator.result = rw (← steps) at.invariant.rest in
    let so_far = subst (λ (js : List Job). IsCollecting image at.yielded js at.passes.items at.lists) steps at.invariant.so_far in
    let done : IsDoneJob image job = left_one (IsLeftJob image) at.yielded (into_iter_items c.next.new.self) job c.args.jobs.items
    (rest ∙ c.into_iter-job-iterator.ensures.into_iter_gives.0) c.requires.jobs c.if-all.true in
    let count = so_far.count in
    let few = c.requires.few in
    let all = ap length (rest ∙ c.into_iter-job-iterator.ensures.into_iter_gives.0) in
    let sum = length-append at.yielded (job ∷ into_iter_items c.next.new.self) in
    let len = c.len.ensures in
    record {
      rest = append_assoc at.yielded (job ∷ []) _ ∙ rest;
      count = (let was = at.invariant.count in
          let gone = c.in-Some.ensures.steps.1 in
          let short = ap length steps in
          omega (arith, was, gone, short));
      so_far = subst (λ (ps : List (Seat ℕ Watch)). IsCollecting image (at.yielded ++ job ∷ []) (into_iter_items c.next.new.self) ps c.list_entries.new.lists) (sym c.push_reserved.ensures.items)
          (goes_on image at.yielded (into_iter_items c.next.new.self) job at.passes.items at.lists c.list_entries.new.lists pass so_far done c.in-Some-pass.is
          (λ d. same_Some d.token pass (sym d.is ∙ c.in-Some-pass.is))
          (listing image at.yielded (into_iter_items c.next.new.self) job at.passes.items at.lists c.list_entries.new.lists _ _ so_far done c.as_slice.ensures.value
          (omega (arith, count, few, all, sum, len)) c.list_entries.ensures));
      room = search rules;
    }
