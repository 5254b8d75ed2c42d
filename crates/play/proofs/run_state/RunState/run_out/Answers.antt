-- The calls run out, and the close begins where the image is open.
use Rattle.std.proofs.Common.{refl, ap, ◌∙◌}
use Rattle.restart_op.specs.Close.{begun as close_begun}
use Rattle.core_run.specs.declared.keeper.Keeper.TheVariants.{Closing}
use Rattle.core_run.specs.Run.{restarted}
use Rattle.play.proofs.driven.Rounds.{close_stands, close_stays}
use Rattle.play.proofs.run_state.RunState.run_out.Goals as goal

pub returns-in-Open : goal.returns-in-Open
returns-in-Open c t s st running =
    let opened = c.end_restart.ensures t s st in
    close_stands t (restarted t.shape c.args.most s) c.args.most c.end_restart.new.self c.do_rounds.new.self _ opened c.in-Open.is
    (c.do_rounds.ensures t (restarted t.shape c.args.most s) opened) refl (ap Closing (c.new.ensures ∙ ap close_begun c.geometry.ensures)) refl refl running

pub end_restart-requires : goal.end_restart-requires
end_restart-requires c = c.requires

pub do_rounds-requires : goal.do_rounds-requires
do_rounds-requires c =
    let (t, s, st) = c.requires in
    (t, restarted t.shape c.args.most s, c.end_restart.ensures t s st)

pub returns-in_default : goal.returns-in_default
returns-in_default c t s st running =
    close_stays t (restarted t.shape c.args.most s) c.args.most c.end_restart.new.self c.in_default.not-Open (c.end_restart.ensures t s st)
