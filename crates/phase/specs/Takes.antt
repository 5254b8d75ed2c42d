-- A lock is taken: what is wanted, and what an answer makes of it.
use Rattle.std.specs.Prelude.{ℕ, ◌%◌, ◌^◌, ◌==◌, if◌then◌else◌}
use Rattle.op_core.specs.declared.want.Want.{Want}
use Rattle.op_core.specs.declared.want.Want.TheVariants.{Load, Exchange}
use Rattle.op_core.specs.declared.want.Ans.{Ans}
use Rattle.op_core.specs.declared.want.Ans.TheVariants.{Value, Won, Lost}
use Rattle.bucket_meta.specs.Bucket.{lock_bit, locked}
use Rattle.world.specs.Ground.{spent_lock}
use Rattle.phase.specs.declared.take.Take.{Take}
use Rattle.phase.specs.declared.take.Take.TheVariants.{Look, Try}
use Rattle.phase.specs.declared.take.Taken.{Taken}
use Rattle.phase.specs.declared.take.Taken.TheVariants.{On, Held, Busy, Moved, Spent}

abbrev pub take_wanted : ℕ → Take → Want
take_wanted lock Look = Load lock
take_wanted lock (Try free) = Exchange lock free (locked free % 2 ^ 64)

-- a lock word that was looked at: locked, or free with the last version, or free otherwise
abbrev pub take_looked : ℕ → Taken
take_looked seen = if lock_bit seen == 1 then Busy seen else if seen == spent_lock then Spent else On (Try seen)

abbrev pub take_lost : ℕ → ℕ → Taken
take_lost free seen = if lock_bit seen == 1 then Busy seen else Moved free seen

-- an answer of another kind than was asked for leaves it as it is
abbrev pub take_taken : Take → Ans → Taken
take_taken Look (Value seen) = take_looked seen
take_taken (Try free) Won = Held free
take_taken (Try free) (Lost seen) = take_lost free seen
take_taken take ans = On take
