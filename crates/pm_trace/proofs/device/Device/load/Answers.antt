-- A load leaves the memory.
use Rattle.pm_trace.proofs.Calm.{load_follows}
use Rattle.pm_trace.proofs.device.Device.load.Goals as goal

pub returns-clause-follows : goal.returns-clause-follows
returns-clause-follows c = λ caller. load_follows c.args.self.now caller c.args.w
