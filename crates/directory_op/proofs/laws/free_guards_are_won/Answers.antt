-- By what each event leaves.
use Rattle.directory_op.proofs.guard.Winning.{wins_where_free}
use Rattle.directory_op.proofs.laws.free_guards_are_won.Goals as goal

pub returns : goal.returns
returns c = wins_where_free
