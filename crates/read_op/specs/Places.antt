-- What a get keeps of each bucket in which its key may stand.
use Rattle.std.specs.Prelude.{ℕ}
use Rattle.phase.specs.declared.role.Role.{Role}
use Rattle.phase.specs.declared.role.Role.TheVariants.{Home, Probing, First, Second, Next, Previous}
use Rattle.read_op.specs.declared.role.Free.{Free}

-- the value that the lock word had when it was found free; that of a third bucket is never looked at
abbrev pub free_at : Free → Role → ℕ
free_at free Home = free.home
free_at free Probing = free.probing
free_at free First = free.first
free_at free Second = free.second
free_at free Next = 0
free_at free Previous = 0
