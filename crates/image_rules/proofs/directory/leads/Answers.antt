-- A step on leads as far as before.
use Rattle.std.proofs.Common.{◌^◌, ◌<◌, refl, arith, slice_index}
use Rattle.sound_image.specs.Segments.{frame_of, arrived}
use Rattle.image_rules.proofs.covered.Chains.{on_leads, leads_on}
use Rattle.image_rules.proofs.directory.leads.Goals as goal

pub returns-in-Owner : goal.returns-in-Owner
returns-in-Owner c = ((λ _. c.loop-side.invariant.forth (arrived c.in-Owner.ensures)), (λ _. refl))

pub loop-side-preserved : goal.loop-side-preserved
loop-side-preserved c =
    let fits : c.args.hash < 2 ^ 64 = omega arith in
    record {
      forth = λ rest. c.loop-side.invariant.forth
          (on_leads (frame_of c.args.geometry.now (slice_index c.args.words.now)) c.args.hash c.loop-side.s c.in-On.side c.in-On.ensures rest);
      back = λ first. leads_on c.args.geometry.now (slice_index c.args.words.now) c.requires.divided c.args.hash fits c.loop-side.s c.in-On.side
          c.in-On.ensures (c.loop-side.invariant.back first);
    }
