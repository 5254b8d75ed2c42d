-- The restart ends where that is asked, and the caller goes on.
use Rattle.core_run.specs.Run.{ready_for}
use Rattle.play.proofs.run_state.RunState.go_on.Goals as goal

pub make_ready_for-requires : goal.make_ready_for-requires
make_ready_for-requires c = c.requires

pub drive-requires : goal.drive-requires
drive-requires c =
    let (t, s, st) = c.requires in
    (t, ready_for t.shape c.args.most c.args.caller s, c.make_ready_for.ensures t s st)

pub returns : goal.returns
returns c t s st = c.drive.ensures t (ready_for t.shape c.args.most c.args.caller s) (c.make_ready_for.ensures t s st)
