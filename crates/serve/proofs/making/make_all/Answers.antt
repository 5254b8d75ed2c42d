-- Each call has its entry, the next one behind the others.
use Rattle.std.proofs.Common.{rules, ◌∷◌, ◌++◌, ◌+◌, [], None, Some, length, refl, sym, ap, subst, ◌∙◌, arith, length-append}
use Rattle.std.proofs.lemmas.List.{take_more}
use Rattle.shared_image.specs.Powered.{IsPassOf}
use Rattle.shared_image.specs.Waiting.{HasTaken, HasFoundOff}
use Rattle.shared_image.proofs.Waited.{nothing_taken, taken_then, stopped}
use Rattle.serve.proofs.OneByOne.{starts, goes_on}
use Rattle.serve.proofs.making.make_all.Goals as goal

pub loop-i-init : goal.loop-i-init
loop-i-init g c = record {
  caller = c.requires.caller;
  off = c.requires.rests.0;
  image = refl;
  rests = c.requires.rests.1;
  made = starts c.args.caller.image.now c.args.calls.now c.args.told.now.items c.args.caller.pass c.requires.caller.pass_of c.requires.rests.1.0 c.requires.none.0 c.requires.none.1;
  taken = subst (λ x. HasTaken c.args.caller.pass.me.0 (Some None) c.args.caller.pass.me.0 (Some x)) (sym c.requires.gate) (nothing_taken c.args.caller.pass.me.0 (Some None));
  long = ap length c.requires.none.1;
  room = c.requires.room;
}

pub loop-i-preserved : goal.loop-i-preserved
loop-i-preserved g c =
    let at = c.loop-i.invariant in
    let low = c.loop-i-test.true in
    let r = c.in-Some.ensures.came in
    let long = at.long in
    let items = c.push_reserved.ensures.items in
    let same = ap (λ b. b.now) c.in-Some.ensures.same.0 ∙ at.image in
    record {
      caller = c.in-Some.ensures.caller;
      off = c.in-Some.ensures.off;
      image = same;
      rests = (r.nothing, r.callers);
      made = goes_on c.args.caller.image.now c.args.calls.now c.args.caller.pass.me.0 c.loop-i.told.items c.push_reserved.new.self.items c.loop-i.caller.pass c.make.new.self.pass c.loop-i.i _
          c.in-Some.reply c.in-Some.place (c.loop-i.i + 1) at.made (take_more c.args.calls.now c.loop-i.i _ low) long refl (items ∙ ap (λ e. c.loop-i.told.items ++ e ∷ []) c.entry_of.ensures)
          (subst (λ im. IsPassOf im c.make.new.self.pass) same c.in-Some.ensures.caller.pass_of) r c.in-Some.ensures.taken.callers c.in-Some.ensures.taken.past;
      taken = taken_then c.args.caller.pass.me.0 c.loop-i.caller.pass.me.0 c.make.new.self.pass.me.0 (Some None) _ _ at.taken c.in-Some.ensures.taken;
      long = (let l = ap length items ∙ length-append c.loop-i.told.items (c.entry_of.result ∷ []) in omega (arith, l, long));
      room = search rules;
    }

pub returns-in-None-clause-stopped : goal.returns-in-None-clause-stopped
returns-in-None-clause-stopped g c = λ _.
    subst (λ pass. HasFoundOff c.args.caller.pass.me.0 pass.me.0) (sym c.into_pass.ensures)
    (stopped c.args.caller.pass.me.0 c.loop-i.caller.pass.me.0 c.make.new.self.pass.me.0 c.loop-i.caller.off _ _ _ c.loop-i.invariant.off c.loop-i.invariant.taken (c.in-None.ensures.why refl))
