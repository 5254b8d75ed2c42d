use Rattle.std.proofs.Common.{◌≡◌, ◌∙◌, false, subst}
use Rattle.shared_call.specs.declared.tries.Answer.{Answer}
use Rattle.shared_image.specs.Powered.{ground_in}
use Rattle.shared_image.specs.Waiting.{StandsAt}
use Rattle.shared_image.proofs.Waited.{DrewAt, called, trying_of, trying_now, drew_trying, waited_on, not_off, gone_on}
use Rattle.shared_image.proofs.waiting.call_in.Goals as goal

pub loop-init : goal.loop-init
loop-init g c = record {
  pass_of = c.first_try-answer.ensures.pass;
  waiting = called (ground_in c.args.image.now) c.args.site.now c.args.call c.requires.site.number c.args.pass.now.me.0 _ _ _ _ c.args.off.now _ _ _ _ c.first_try-answer.ensures.called
      c.first_try-answer.ensures.headway;
  off_is = c.first_try-answer.ensures.off;
}

pub next_try-answer-requires : goal.next_try-answer-requires
next_try-answer-requires g c = record {
  on = c.requires.on;
  pass = c.loop.invariant.pass_of;
  call = c.requires.call;
  site = c.requires.site;
  trying = λ on. trying_now (ground_in c.args.image.now) c.args.site.now c.args.call c.requires.site.number c.args.pass.now.me.0 _ _
      (trying_of (ground_in c.args.image.now) c.args.site.now c.args.call c.requires.site.number c.args.pass.now.me.0 c.loop.answer _ _ c.in_default.not-Replied c.in_default.not-Off
      c.loop.invariant.waiting.stands);
}

pub loop-preserved : goal.loop-preserved
loop-preserved g c =
    let d = drew_trying (ground_in c.args.image.now) c.args.site.now c.args.call c.requires.site.number c.args.pass.now.me.0 c.loop.answer c.loop.engine c.loop.pass.me.0 c.loop.headway
    c.in_default.not-Replied c.in_default.not-Off c.loop.invariant.waiting.drew in
    let on : c.loop.off ≡ false = c.loop.invariant.off_is ∙ not_off c.loop.answer c.in_default.not-Off in
    record {
      pass_of = c.next_try-answer.ensures.pass;
      waiting = waited_on (ground_in c.args.image.now) c.args.site.now c.args.call c.requires.site.number c.args.pass.now.me.0 _ _ _ _ _ 1000 _ _ _ _ _ c.loop.headway _ d.0 d.1 c.loop.invariant.waiting.taken
          c.loop.invariant.waiting.headway c.loop.invariant.waiting.idle (gone_on (ground_in c.args.image.now) c.args.site.now c.args.call 1000 c.loop.off _ _ _ _ _ _ _ _ _ on c.next_try-answer.ensures.tried) c.next_try-answer.ensures.headway;
      off_is = c.next_try-answer.ensures.off;
    }

pub returns-in-Replied-clause-came : goal.returns-in-Replied-clause-came
returns-in-Replied-clause-came g c =
    subst (λ (answer : Answer). StandsAt (ground_in c.args.image.now) c.args.site.now c.args.call c.args.pass.now.me.0 answer c.loop.engine c.loop.pass.me.0) c.in-Replied.is
    c.loop.invariant.waiting.stands

pub returns-in-Off-clause-drawn : goal.returns-in-Off-clause-drawn
returns-in-Off-clause-drawn g c = λ none.
    subst (λ (answer : Answer). DrewAt (ground_in c.args.image.now) c.args.site.now c.args.call c.args.pass.now.me.0 answer c.loop.engine c.loop.pass.me.0 c.loop.headway) c.in-Off.is
    c.loop.invariant.waiting.drew

pub returns-in-Off-clause-planned : goal.returns-in-Off-clause-planned
returns-in-Off-clause-planned g c = λ none. c.loop.invariant.waiting.plans c.in-Off.is

pub returns-in-Off-clause-idle : goal.returns-in-Off-clause-idle
returns-in-Off-clause-idle g c = λ none. c.loop.invariant.waiting.idle
