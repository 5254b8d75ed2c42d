-- How what is held of a segment is given back: the locks of its buckets, ascending, and then its guard.
use Rattle.std.specs.Prelude.{ℕ, ◌+◌, ◌%◌, ◌^◌, ◌&&◌, nat_lt, Option, None, Some, slice_index, if◌then◌else◌}
use Rattle.op_core.specs.declared.want.Want.{Want}
use Rattle.op_core.specs.declared.want.Want.TheVariants.{Store}
use Rattle.bucket_meta.specs.Bucket.{given_back}
use Rattle.image_layout.specs.Places.{buckets}
use Rattle.image_layout.specs.Volatile.{free_guard}
use Rattle.way.specs.Ways.{bucket_word, slot_guard}
use Rattle.enclose_op.specs.declared.enclosed.Enclosed.{Enclosed}
use Rattle.enclose_op.specs.declared.give.Give.{Give}
use Rattle.enclose_op.specs.declared.give.Give.TheVariants.{Lock, Guard}

-- ---- its words
abbrev pub guard_of : Enclosed → ℕ
guard_of e = slot_guard e.site.geometry e.segment

-- the lock word of a bucket, by its number; a number that is too great counts on from the first
abbrev pub lock_of : Enclosed → ℕ → ℕ
lock_of e b = bucket_word e.site.geometry e.segment (b % buckets)

-- the free value that it had
abbrev pub free_value : Enclosed → ℕ → ℕ
free_value e b = slice_index e.locks (b % buckets)

-- ---- what is given back
-- next, where the locks from one bucket to before another are held
abbrev pub give_from : ℕ → ℕ → Give
give_from b to = if nat_lt b to && nat_lt b buckets then Lock b to else Guard

-- after that; none where all is
abbrev pub given : Give → Option Give
given (Lock b to) = if nat_lt b buckets then Some (give_from (b + 1) to) else Some Guard
given Guard = None

-- THE STORE that gives it back: of a lock with its next version and not locked, of the guard with nobody's number
abbrev pub give_wanted : Enclosed → Give → Want
give_wanted e (Lock b to) = Store (lock_of e b) (given_back (free_value e b) % 2 ^ 64)
give_wanted e Guard = Store (guard_of e) free_guard
