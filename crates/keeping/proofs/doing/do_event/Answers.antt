-- A load is what the device does for it.
use Rattle.op_core.specs.declared.want.Want.TheVariants.{Load}
use Rattle.keeping.proofs.Events.{follows_wanted}
use Rattle.keeping.proofs.doing.do_event.Goals as goal

pub returns-in-Load-clause-follows : goal.returns-in-Load-clause-follows
returns-in-Load-clause-follows c =
    follows_wanted c.args.device.now c.args.device.now c.args.caller (Load c.in-Load.word) c.args.want c.in-Load.is (c.load.ensures.follows c.args.caller)
