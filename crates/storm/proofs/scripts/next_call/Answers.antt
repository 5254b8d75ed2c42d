-- By three numbers.
use Rattle.std.proofs.Common.{ap, ◌∙◌}
use Rattle.storm.specs.Stream.{next_of}
use Rattle.storm.proofs.Streams.{behind_both, behind_three}
use Rattle.storm.proofs.scripts.next_call.Goals as goal

pub returns-clause-state : goal.returns-clause-state
returns-clause-state c = behind_three c.args.state.now _ _ _ c.next-kind.ensures.state c.next-key.ensures.state c.next-value.ensures.state

pub returns-clause-call : goal.returns-clause-call
returns-clause-call c =
    let kind = c.next-kind.ensures.number in
    let key = c.next-key.ensures.number ∙ ap next_of c.next-kind.ensures.state in
    let value = c.next-value.ensures.number ∙ ap next_of (behind_both c.args.state.now 1 1 _ _ c.next-kind.ensures.state c.next-key.ensures.state) in
    let is = c.call_of_kind.ensures.is in
    cc
