-- The locks that are held, by the places of their buckets, and how they are given back.
use Rattle.std.specs.Prelude.{ℕ, ◌%◌, ◌^◌, Option, None, Some}
use Rattle.op_core.specs.declared.want.Want.{Want}
use Rattle.op_core.specs.declared.want.Want.TheVariants.{Store, Done}
use Rattle.bucket_meta.specs.Bucket.{given_back}
use Rattle.world.specs.declared.site.Site.{Site}
use Rattle.phase.specs.declared.role.Role.{Role}
use Rattle.phase.specs.declared.role.Role.TheVariants.{Home, Probing, First, Second, Next, Previous}
use Rattle.phase.specs.declared.held.Held.{Held}
use Rattle.phase.specs.Places.{lock_word}

abbrev pub none_held : Held
none_held = record { home = None; probing = None; first = None; second = None; next = None; previous = None }

-- with the lock of one more place, whose word had this free value
abbrev pub with_held : Role → ℕ → Held → Held
with_held Home free held = record held { home = Some free }
with_held Probing free held = record held { probing = Some free }
with_held First free held = record held { first = Some free }
with_held Second free held = record held { second = Some free }
with_held Next free held = record held { next = Some free }
with_held Previous free held = record held { previous = Some free }

-- without that of a place
abbrev pub without_held : Role → Held → Held
without_held Home held = record held { home = None }
without_held Probing held = record held { probing = None }
without_held First held = record held { first = None }
without_held Second held = record held { second = None }
without_held Next held = record held { next = None }
without_held Previous held = record held { previous = None }

-- the free value of a place, if its lock is held
abbrev pub free_of : Held → Role → Option ℕ
free_of held Home = held.home
free_of held Probing = held.probing
free_of held First = held.first
free_of held Second = held.second
free_of held Next = held.next
free_of held Previous = held.previous

-- ---- given back
-- the first of these that is held, with its free value
abbrev pub first_held : (home probing first second next previous : Option ℕ) → Option (Role × ℕ)
first_held (Some free) probing first second next previous = Some (Home, free)
first_held None (Some free) first second next previous = Some (Probing, free)
first_held None None (Some free) second next previous = Some (First, free)
first_held None None None (Some free) next previous = Some (Second, free)
first_held None None None None (Some free) previous = Some (Next, free)
first_held None None None None None (Some free) = Some (Previous, free)
first_held None None None None None None = None

-- the lock that is given back next
abbrev pub give_next : Held → Option (Role × ℕ)
give_next held = first_held held.home held.probing held.first held.second held.next held.previous

-- with its version plus one
abbrev pub give_wanted_of : Site → ℕ → ℕ → Option (Role × ℕ) → Want
give_wanted_of here hash segment (Some next) = Store (lock_word here hash segment next.0) (given_back next.1 % 2 ^ 64)
give_wanted_of here hash segment None = Done

abbrev pub give_wanted : Site → ℕ → ℕ → Held → Want
give_wanted here hash segment held = give_wanted_of here hash segment (give_next held)

abbrev pub given_of : Option (Role × ℕ) → Held → Held
given_of (Some next) held = without_held next.0 held
given_of None held = held

-- the locks that are held then
abbrev pub given : Held → Held
given held = given_of (give_next held) held

-- of two steps the one in which the next of them is given back, and the other one where none is held
abbrev pub give_step_of : {Step : Type 0} → Option (Role × ℕ) → Step → Step → Step
give_step_of (Some next) give ended = give
give_step_of None give ended = ended

abbrev pub give_step : {Step : Type 0} → Held → Step → Step → Step
give_step held give ended = give_step_of (give_next held) give ended
