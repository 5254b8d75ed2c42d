use Rattle.std.proofs.Common.{◌≡◌, ◌≤◌, None, Some, false, length, take}
use Rattle.std.specs.Prelude.{vec_capacity}
use Rattle.shared_image.specs.Calling.{IsCallerOf, Rests}
use Rattle.shared_image.specs.Waiting.{HasTaken}
use Rattle.serve.specs.Jobs.{HasMade}
use Rattle.serve.proofs.making.make_all.Given as goal

abbrev pub invariant-loop-i : goal.invariant-loop-i
invariant-loop-i g l = record {
  caller : IsCallerOf l.caller.image.now l.caller.pass l.caller.site l.caller.call;
  off : l.caller.off ≡ false;
  image : l.caller.image.now ≡ l.fn.caller.image.now;
  rests : Rests l.caller.pass;
  made : HasMade l.fn.caller.image.now (take l.i l.fn.calls) l.fn.caller.pass.me.0 l.told.items l.caller.pass;
  taken : HasTaken l.fn.caller.pass.me.0 (Some None) l.caller.pass.me.0 (Some l.caller.gate.left);
  long : length l.told.items ≡ l.i;
  room : length l.fn.calls ≤ vec_capacity l.told;
}
