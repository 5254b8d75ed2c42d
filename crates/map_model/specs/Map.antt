-- The plain map that a table must look like: what it answers to a call, and what a call makes of it.
use Rattle.std.specs.Prelude.{ℕ, Bool, true, false, Option, None, Some, if◌then◌else◌}
use Rattle.std.specs.Ordering.{nat_cmp}
use Rattle.std.specs.FinMap.{FinMap, get, contains_key, insert, remove}
use Rattle.map_model.specs.declared.call.Call.{Call}
use Rattle.map_model.specs.declared.call.Call.TheVariants.{Get, Insert, Update, Remove}
use Rattle.map_model.specs.declared.entry.Reply.{Reply}
use Rattle.map_model.specs.declared.entry.Reply.TheVariants.{Found, Absent, Done, Exists, Full, Deep, Spent}

-- a finite map from numbers to numbers
abbrev pub Map : Type 0
Map = FinMap nat_cmp ℕ

-- the key that a call speaks of
abbrev pub key_of : Call → ℕ
key_of (Get k) = k
key_of (Insert k v) = k
key_of (Update k v) = k
key_of (Remove k) = k

-- the value that a call brings, and 0 where it brings none
abbrev pub value_of : Call → ℕ
value_of (Get k) = 0
value_of (Insert k v) = v
value_of (Update k v) = v
value_of (Remove k) = 0

-- the answer to a look at what is there
abbrev pub shown : Option ℕ → Reply
shown None = Absent
shown (Some v) = Found v

-- the map's own reply to a call
abbrev pub reply_of : Map → Call → Reply
reply_of m (Get k) = shown (get m k)
reply_of m (Insert k v) = if contains_key m k then Exists else Done
reply_of m (Update k v) = if contains_key m k then Done else Absent
reply_of m (Remove k) = if contains_key m k then Done else Absent

-- whether a reply is Done, which says that the map was changed: no other reply does
abbrev pub is_done : Reply → Bool
is_done (Found v) = false
is_done Absent = false
is_done Done = true
is_done Exists = false
is_done Full = false
is_done Deep = false
is_done Spent = false

-- what a call makes of the map where it is done
abbrev pub changed : Map → Call → Map
changed m (Get k) = m
changed m (Insert k v) = insert m k v
changed m (Update k v) = insert m k v
changed m (Remove k) = remove m k

-- the map after a call and its reply: a reply that is no change keeps it
abbrev pub after : Map → Call → Reply → Map
after m call reply = if is_done reply then changed m call else m
