use Rattle.std.proofs.Common.{◌≡◌}
use Rattle.shared_image.specs.Powered.{ground_in, IsPassOf}
use Rattle.shared_image.specs.Calling.{says_off}
use Rattle.shared_image.proofs.Waited.{IsWaiting}
use Rattle.shared_image.proofs.waiting.call_in.Given as goal

abbrev pub invariant-loop : goal.invariant-loop
invariant-loop g l = record {
  pass_of : IsPassOf l.image l.pass;
  waiting : IsWaiting (ground_in l.image) l.site l.fn.call l.fn.off l.fn.pass.me.0 (g.G.Gate.left l.fn.gate) l.answer l.engine l.pass.me.0 (g.G.Gate.left l.gate)
      (g.G.Gate.cuts l.gate) l.headway;
  off_is : l.off ≡ says_off l.answer;
}
