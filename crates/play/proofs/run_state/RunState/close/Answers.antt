-- The close begins, and goes on to its end.
use Rattle.core_run.specs.Run.{run_out}
use Rattle.play.proofs.run_state.RunState.close.Goals as goal

pub run_out-requires : goal.run_out-requires
run_out-requires c =
    let (t, s, st, running) = c.requires in
    (t, s, st)

pub drive-requires : goal.drive-requires
drive-requires c =
    let (t, s, st, running) = c.requires in
    (t, run_out t.shape c.args.most s, c.run_out.ensures t s st running)

pub returns : goal.returns
returns c t s st running = c.drive.ensures t (run_out t.shape c.args.most s) (c.run_out.ensures t s st running)
