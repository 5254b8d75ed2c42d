-- WHICH BUCKETS ARE ASKED FOR by who looks for a key: home and probing bucket, and each stash bucket that is visited, one after
-- another. It is said over two tests: whether the first stash bucket is visited, and whether the second is.
use Rattle.std.specs.Prelude.{◌≡◌, ℕ, ◌<◌, Bool, true, false}
use Rattle.phase.specs.declared.role.Role.{Role}
use Rattle.phase.specs.declared.role.Role.TheVariants.{Home, Probing, First, Second, Next, Previous}

-- the order of the buckets
abbrev pub index : Role → ℕ
index Home = 0
index Probing = 1
index First = 2
index Second = 3
index Next = 4
index Previous = 5

-- a third bucket is never asked for
abbrev pub asked_by : Bool → Bool → Role → Bool
asked_by first second Home = true
asked_by first second Probing = true
asked_by first second First = first
asked_by first second Second = second
asked_by first second Next = false
asked_by first second Previous = false

-- it is one of those that are asked for, before the n-th
pub record IsAskedBefore (first second : Bool) (n : ℕ) (place : Role) : Type 0 where
  pub low : index place < n
  pub asked : asked_by first second place ≡ true

-- before the n-th lock words were looked at, or their locks taken, when a bucket is loaded: those of home and probing bucket come
-- before the words of both, and that of each later bucket right before its words
abbrev pub looked_by : Role → ℕ
looked_by Home = 2
looked_by Probing = 2
looked_by First = 3
looked_by Second = 4
looked_by Next = 5
looked_by Previous = 6

-- and the buckets before the n-th were loaded when the lock word of one is looked at
abbrev pub loaded_by : Role → ℕ
loaded_by Home = 0
loaded_by Probing = 0
loaded_by First = 2
loaded_by Second = 3
loaded_by Next = 4
loaded_by Previous = 5
